use Rattle.std.proofs.Common.{◌≡◌, ◌≤◌, length, take}
use Rattle.far_types.specs.Table.{rows_of}
use Rattle.far_commands.proofs.listing.live_rows.Given as goal

abbrev pub invariant-loop-place : goal.invariant-loop-place
invariant-loop-place g l = (l.count ≡ length (rows_of (take l.place l.frame.table.places))) × (l.count ≤ l.place)
