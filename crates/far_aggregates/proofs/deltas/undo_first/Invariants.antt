use Rattle.std.proofs.Common.{◌≡◌}
use Rattle.far_aggregates.specs.Deltas.{undo}
use Rattle.far_aggregates.specs.Until.{zip_until}
use Rattle.far_aggregates.proofs.deltas.undo_first.Given as goal

abbrev pub invariant-loop-i : goal.invariant-loop-i
invariant-loop-i l = l.registry ≡ zip_until (undo l.group) l.i l.initial.registry l.deltas
