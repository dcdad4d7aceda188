use Rattle.std.proofs.Common.{length, Some, sym, ap, ◌∙◌, arith}
use Rattle.std.proofs.lemmas.Result.{on_ok_weaker}
use Rattle.std.specs.Prelude.{option_map, slice_get}
use Rattle.far_types.specs.Table.{Place}
use Rattle.far_rows.specs.Rows.{all_cells}
use Rattle.far_table.specs.TableRows.{TableRows}
use Rattle.far_table.proofs.EditsSetRefusals.{found-at}
use Rattle.far_table.proofs.Places.{length-places, cells-get}
use Rattle.far_table.proofs.table_rows.TableRows.place_row.Goals as goal

pub place_row-requires-clause-place : goal.place_row-requires-clause-place
place_row-requires-clause-place g c =
    let rows = c.self.inside.rows in
    let count = length-places (all_cells g.S.FarTickets.content rows) rows.alive in
    let places = ap (λ (t : TableRows g.row.S-Ticket.Denot). length t.places) c.self.view_is in
    omega (arith, c.requires, count, places)

pub returns-clause-row : goal.returns-clause-row
returns-clause-row g c =
    let rows = c.self.inside.rows in
    let cells = all_cells g.S.FarTickets.content rows in
    let count = length-places cells rows.alive in
    let places = ap (λ (t : TableRows g.row.S-Ticket.Denot). length t.places) c.self.view_is in
    let flag = found-at rows.alive c.args.place (omega (arith, c.requires, count, places)) in
    on_ok_weaker c.place_row.result
    (λ row. sym (ap (λ (t : TableRows g.row.S-Ticket.Denot). option_map (λ (p : Place). p.cells) (slice_get t.places c.args.place)) c.self.view_is)
    ∙ cells-get cells rows.alive c.args.place flag.0 flag.1
    ∙ ap Some (sym row))
    c.place_row.ensures.row
