use Rattle.std.proofs.Common.{sym, ap, ◌∙◌}
use Rattle.std.specs.Prelude.{option_map, slice_get}
use Rattle.far_types.specs.Table.{Place}
use Rattle.far_rows.specs.Rows.{all_cells}
use Rattle.far_table.specs.TableRows.{TableRows}
use Rattle.far_table.proofs.Places.{alive-get}
use Rattle.far_table.proofs.table_rows.TableRows.is_alive.Goals as goal

pub returns : goal.returns
returns g c =
    let rows = c.self.inside.rows in
    c.is_alive.ensures
    ∙ sym (alive-get (all_cells g.S.FarTickets.content rows) rows.alive c.args.place)
    ∙ ap (λ (t : TableRows g.row.S-Ticket.Denot). option_map (λ (p : Place). p.alive) (slice_get t.places c.args.place)) c.self.view_is
