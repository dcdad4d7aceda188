use Rattle.std.proofs.Common.{sym, ap, ◌∙◌}
use Rattle.far_rows.specs.Places.{places_in}
use Rattle.far_table.specs.TableRows.{TableRows}
use Rattle.far_table.proofs.table_rows.TableRows.held.Goals as goal

pub returns-clause-places : goal.returns-clause-places
returns-clause-places g c =
    sym (ap (λ (t : TableRows g.row.S-Ticket.Denot). t.places) c.self.view_is)
    ∙ ap (λ (t : TableRows g.row.S-Ticket.Denot). places_in g.S.FarTickets.content t.held) c.self.view_is
