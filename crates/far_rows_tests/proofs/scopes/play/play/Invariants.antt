use Rattle.far_scopes.specs.Movement.{AreHere}
use Rattle.far_rows_tests.proofs.scopes.play.play.Given as goal

abbrev pub invariant-loop-index : goal.invariant-loop-index
invariant-loop-index g l = AreHere g.S.FarTickets.is_of (g.S.FarTickets.store_id l.store) l.objects
