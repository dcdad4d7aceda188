use Rattle.std.proofs.Common.{ℕ, List}
use Rattle.far_scopes.specs.Movement.{AreHere}
use Rattle.far_rows_tests.proofs.scopes.calls.pin_often.Given as goal

abbrev pub invariant-loop : goal.invariant-loop
invariant-loop g l = (id : List ℕ) → AreHere g.S.FarTickets.is_of id l.fn.objects → AreHere g.S.FarTickets.is_of id l.objects
