use Rattle.std.proofs.Common.{ap, ◌∙◌}
use Rattle.far_types.specs.Edits.{change_at, after_remove}
use Rattle.far_rows.specs.Rows.{Rows, all_cells}
use Rattle.far_rows.specs.Places.{places_of, places_in}
use Rattle.far_rows.proofs.Places.{places-clear}
use Rattle.far_rows.proofs.rows.Rows.clear.Goals as goal

pub returns-clause-places : goal.returns-clause-places
returns-clause-places g c =
    let content = g.S.FarTickets.content in
    let inside = c.self.inside in
    let rows : Rows g.row.S-Ticket.Denot = record { column_indexes = inside.column_indexes.items; size = inside.size; numbers = inside.numbers.items; texts = inside.texts.items; number_objects = inside.number_objects; text_objects = inside.text_objects; alive = inside.alive } in
    ap (places_of (all_cells content rows)) c.clear.ensures
    ∙ places-clear (all_cells content rows) inside.alive c.args.place
    ∙ ap (λ r. change_at after_remove c.args.place (places_in content r)) c.self.view_is
