use Rattle.std.proofs.Common.{length, sym, ap, ◌∙◌}
use Rattle.far_types.specs.Table.{groups}
use Rattle.far_rows.specs.Rows.{all_cells}
use Rattle.far_table.specs.TableRows.{TableRows}
use Rattle.far_table.proofs.Places.{length-places}
use Rattle.far_table.proofs.table_rows.TableRows.groups.Goals as goal

pub returns : goal.returns
returns g c =
    let rows = c.self.inside.rows in
    ap (groups c.self.inside.limits.group) (c.len.ensures.len ∙ sym (length-places (all_cells g.S.FarTickets.content rows) rows.alive))
    ∙ ap (λ (t : TableRows g.row.S-Ticket.Denot). groups t.limits.group (length t.places)) c.self.view_is
