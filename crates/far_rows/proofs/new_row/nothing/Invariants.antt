use Rattle.std.proofs.Common.{◌≡◌, None, replicate}
use Rattle.far_rows.proofs.new_row.nothing.Given as goal

abbrev pub invariant-loop : goal.invariant-loop
invariant-loop g l = l.values.items ≡ replicate l.counter None
