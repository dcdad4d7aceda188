use Rattle.std.proofs.Common.{length, sym, ap, ◌∙◌, arith}
use Rattle.far_rows.specs.Rows.{all_cells}
use Rattle.far_table.specs.TableRows.{TableRows}
use Rattle.far_table.proofs.Places.{length-places}
use Rattle.far_table.proofs.table_rows.TableRows.len.Goals as goal

pub returns-clause-len : goal.returns-clause-len
returns-clause-len g c =
    let rows = c.self.inside.rows in
    c.len.ensures.len
    ∙ sym (length-places (all_cells g.S.FarTickets.content rows) rows.alive)
    ∙ ap (λ (t : TableRows g.row.S-Ticket.Denot). length t.places) c.self.view_is

pub returns-clause-few : goal.returns-clause-few
returns-clause-few g c =
    let rows = c.self.inside.rows in
    let count = length-places (all_cells g.S.FarTickets.content rows) rows.alive in
    let places = ap (λ (t : TableRows g.row.S-Ticket.Denot). length t.places) c.self.view_is in
    let most = ap (λ (t : TableRows g.row.S-Ticket.Denot). t.limits.places) c.self.view_is in
    omega (arith, c.self.invariant.few, count, places, most)
