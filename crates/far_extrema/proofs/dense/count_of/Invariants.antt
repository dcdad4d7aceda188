use Rattle.std.proofs.Common.{◌≤◌}
use Rattle.far_extrema.proofs.dense.count_of.Given as goal

abbrev pub invariant-loop-place : goal.invariant-loop-place
invariant-loop-place l = l.count ≤ l.place
