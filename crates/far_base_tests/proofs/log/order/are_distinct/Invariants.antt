use Rattle.std.proofs.Common.{◌≢◌, ℕ, ◌<◌, get_or, length}
use Rattle.far_base_tests.proofs.log.order.are_distinct.Given as goal

abbrev pub invariant-loop-i : goal.invariant-loop-i
invariant-loop-i l = (i j d : ℕ) → i < l.i → i < j → j < length l.order → get_or l.order i d ≢ get_or l.order j d
