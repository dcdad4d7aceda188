use Rattle.std.proofs.Common.{◌≡◌, length, length-append, [], ◌∷◌, cond, None, sym, ap, ◌∙◌, arith}
use Rattle.std.specs.Prelude.{option_map, IfSome}
use Rattle.far_scopes.specs.Movement.{is_local, ticket_of}
use Rattle.far_scopes.proofs.RenewalTickets.{away-some, away-none, renewed-push, renews-all, here-push}
use Rattle.far_scopes.proofs.objects.Objects.renewal.Given as given
use Rattle.far_scopes.proofs.objects.Objects.renewal.Goals as goal
use Rattle.far_scopes.proofs.objects.Objects.renewal.Goals.{in-Some+in_ok-put_again-in-Some, in-None}

-- the new ticket of this object is right, and no fault was met
one : (g : given.Over) (c : goal.After-push_reserved g) → (option_map g.N.FarTickets.content c.match-away_ticket.ticket ≡ cond (is_local c.args.self.now c.loop-o.o) None (option_map g.S.FarTickets.content (ticket_of c.args.self.now c.loop-o.o))) × IfSome c.match-away_ticket.ticket (λ ticket. g.N.FarTickets.is_of ticket (g.N.FarTickets.store_id c.args.new_store.now)) × (c.match-away_ticket.meter ≡ c.loop-o.meter)
one g c =
    let local = is_local c.args.self.now c.loop-o.o in
    let ticket = ticket_of c.args.self.now c.loop-o.o in
    elim c.match-away_ticket.branch [
      | in-Some+in_ok-put_again-in-Some w ↦ (
        rw w.ticket-is (away-some g.S.FarTickets.content g.N.FarTickets.content local ticket _ _ w.in_ok-put_again-in-Some.ensures.content (ap (option_map (λ t. t.now)) (sym w.in-Some.is) ∙ c.away_ticket.ensures)),
        rw w.ticket-is w.in_ok-put_again-in-Some.ensures.there,
        w.meter-is ∙ omega (arith, w.in_ok-put_again-in-Some.ensures.faults),
      )
      | in-None w ↦ (
        rw w.ticket-is (away-none g.S.FarTickets.content g.N.FarTickets.content local ticket (ap (option_map (λ t. t.now)) (sym w.in-None.is) ∙ c.away_ticket.ensures)),
        rw w.ticket-is tt,
        w.meter-is,
      )
    ]

pub loop-o-preserved : goal.loop-o-preserved
loop-o-preserved g c =
    let is = one g c in
    let inv = c.loop-o.invariant in
    let items = c.push_reserved.ensures.items in (
      ap (λ l. length l) items ∙ omega (arith, inv.0, length-append c.loop-o.tickets.items (c.match-away_ticket.ticket ∷ [])),
      rw items (renewed-push g.S.FarTickets.content g.N.FarTickets.content c.args.self.now c.loop-o.tickets.items c.match-away_ticket.ticket c.loop-o.o inv.0 inv.1 is.0),
      rw items (here-push g.N.FarTickets.is_of (g.N.FarTickets.store_id c.args.new_store.now) c.loop-o.tickets.items c.match-away_ticket.ticket inv.2 is.1),
      rw c.push_reserved.ensures.capacity inv.3,
      is.2 ∙ inv.4,
    )

pub returns-clause-renews : goal.returns-clause-renews
returns-clause-renews g c =
    let all : length c.args.self.now.records ≡ c.loop-o.o = omega (arith, c.loop-o-test.false, c.loop-o.auto.o-end, c.len-o-end.ensures, ap (λ m. length m.records) c.self.view_is, c.self.inside.records.ok.0) in
    renews-all g.S.FarTickets.content g.N.FarTickets.content c.args.self.now c.loop-o.tickets.items c.loop-o.o c.loop-o.invariant.0 all c.loop-o.invariant.1
