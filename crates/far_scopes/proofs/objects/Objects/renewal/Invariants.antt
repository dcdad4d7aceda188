use Rattle.std.proofs.Common.{◌≡◌, ◌≤◌, ◌<◌, ℕ, cond, length, None}
use Rattle.std.specs.Prelude.{option_map}
use Rattle.std.specs.Vec.{vec_capacity}
use Rattle.far_scopes.specs.Movement.{is_local, ticket_of}
use Rattle.far_scopes.specs.Renewal.{ticket_in, AreTicketsHere}
use Rattle.far_scopes.proofs.objects.Objects.renewal.Given as goal

abbrev pub invariant-loop-o : goal.invariant-loop-o
invariant-loop-o g l =
    (length l.tickets.items ≡ l.o)
    × ((p : ℕ) → p < l.o → option_map g.N.FarTickets.content (ticket_in l.tickets.items p) ≡ cond (is_local l.self p) None (option_map g.S.FarTickets.content (ticket_of l.self p)))
    × AreTicketsHere g.N.FarTickets.is_of (g.N.FarTickets.store_id l.new_store) l.tickets.items
    × (length l.self.records ≤ vec_capacity l.tickets)
    × (l.meter ≡ l.initial.meter)
