use Rattle.std.proofs.Common.{◌≤◌}
use Rattle.far_base_tests.proofs.store.generic.gets_all.Given as goal

abbrev pub invariant-loop-ticket : goal.invariant-loop-ticket
invariant-loop-ticket g l = (l.n ≤ l.ticket-index) × (l.right ≤ l.n)
