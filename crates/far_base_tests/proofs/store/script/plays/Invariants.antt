use Rattle.std.specs.Prelude.{IfSome}
use Rattle.far_base_tests.proofs.store.script.plays.Given as goal

abbrev pub invariant-loop-line : goal.invariant-loop-line
invariant-loop-line g l = IfSome l.last (λ t. g.S.FarTickets.is_of t (g.S.FarTickets.store_id l.store))
