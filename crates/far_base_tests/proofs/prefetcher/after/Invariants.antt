use Rattle.std.proofs.Common.{◌≡◌, length}
use Rattle.far_base_tests.proofs.prefetcher.after.Given as goal

abbrev pub invariant-loop-group : goal.invariant-loop-group
invariant-loop-group l = length l.prefetcher ≡ 3
