use Rattle.std.proofs.Common.{ap, subst, sym, ◌∙◌}
use Rattle.far_rows.specs.Renewal.{RenewsRows, renewed_rows}
use Rattle.far_rows.specs.Rows.{Rows}
use Rattle.far_table.specs.Live.{IsLive, state_of}
use Rattle.far_table.specs.TableRows.{TableRows}
use Rattle.far_frame.specs.State.{State, with_accesses}
use Rattle.far_frame.proofs.frame.renewing.migrate.Goals as goal

pub invariant_of-result : goal.invariant_of-result
invariant_of-result g c =
    let inside = c.frame.inside in
    let live = c.frame.invariant in
    subst (λ (t : TableRows g.row.N-Ticket.Denot). IsLive t inside.registrations inside.aggregates) (sym c.renew.ensures.renewed) record { registrations_few = live.registrations_few; kept = live.kept; checked = live.checked }

pub returns-in-Ok-clause-migrated : goal.returns-in-Ok-clause-migrated
returns-in-Ok-clause-migrated g c =
    let inside = c.frame.inside in
    let tickets = c.in-Ok.renewal in
    record {
      tickets = tickets;
      renews = subst (λ (r : Rows g.row.S-Ticket.Denot). RenewsRows g.S.FarTickets.content g.N.FarTickets.content r tickets) (c.held-rows.ensures.held ∙ ap (λ (s : State g.row.S-Ticket.Denot). s.rows) c.frame.view_is) c.in-Ok.ensures.renews;
      state =
          ap (λ (t : TableRows g.row.N-Ticket.Denot). with_accesses (state_of t inside.registrations inside.aggregates) inside.prefetcher) c.renew.ensures.renewed
          ∙ ap (λ (s : State g.row.S-Ticket.Denot). record { table = s.table; rows = renewed_rows s.rows tickets; accesses = s.accesses }) c.frame.view_is;
    }

pub returns-in-Ok-clause-there : goal.returns-in-Ok-clause-there
returns-in-Ok-clause-there g c = c.renew.ensures.there (g.N.FarTickets.store_id c.args.new_store.now) c.in-Ok.ensures.there
