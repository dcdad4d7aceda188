use Rattle.std.specs.Prelude.{Some, slice_get}
use Rattle.std.proofs.Common.{◌≡◌, ◌/◌, ◌<◌, [], ◌∷◌, length, sym, ap, subst, ◌∙◌}
use Rattle.far_types.specs.FirstOf.{first_of}
use Rattle.far_rows.specs.declared.column_index.ColumnIndex.TheVariants as column_index
use Rattle.far_rows.specs.Rows.{Rows}
use Rattle.far_rows.specs.Refusing.{absent_at}
use Rattle.far_rows.proofs.RefusingNames.{one-away_at}
use Rattle.far_rows.proofs.RowsReading.{number-refused}
use Rattle.far_rows.proofs.rows.Rows.number_ref.Goals as goal

pub returns-clause-refused : goal.returns-clause-refused
returns-clause-refused g c =
    let column = subst (λ (r : Rows g.row.S-Ticket.Denot). c.args.number < length r.numbers) (sym c.self.view_is) c.requires.column in
    let place = subst (λ (r : Rows g.row.S-Ticket.Denot). c.args.place < length r.alive) (sym c.self.view_is) c.requires.place in
    c.get_ref.ensures.refused
    ∙ number-refused g.S.FarTickets.content _ c.self.invariant c.args.number c.args.place c.index-column.result.now column c.index-column.ensures place c.len-len.ensures.shaped
    ∙ one-away_at g.S.FarTickets.content _ c.self.invariant c.args.at (column_index.Number c.args.number) (subst (λ (r : Rows g.row.S-Ticket.Denot). slice_get r.column_indexes c.args.at ≡ Some (column_index.Number c.args.number)) (sym c.self.view_is) c.requires.lies) (c.args.place / c.self.inside.size)
    ∙ ap (λ (r : Rows g.row.S-Ticket.Denot). first_of (absent_at r c.args.at (c.args.place / r.size) (column_index.Number c.args.number) ∷ [])) c.self.view_is
