use Rattle.std.specs.Prelude.{All}
use Rattle.far_base_tests.proofs.store.generic.puts_all.Given as goal

abbrev pub invariant-loop-n : goal.invariant-loop-n
invariant-loop-n g l = All (λ t. g.S.FarTickets.is_of t (g.S.FarTickets.store_id l.store)) l.tickets.items
