use Rattle.std.proofs.Common.{◌≡◌, ◌/◌, ◌<◌, [], ◌∷◌, length, get_or, sym, ap, subst, ◌∙◌}
use Rattle.std.specs.Prelude.{Some, slice_get}
use Rattle.std.specs.Option.{option_copied}
use Rattle.std.proofs.lemmas.Result.{IfOk-weaker}
use Rattle.far_types.specs.declared.cell.Cell.TheVariants as cell
use Rattle.far_types.specs.FirstOf.{first_of}
use Rattle.far_texts.specs.Texts.{lists_of, texts_in}
use Rattle.far_rows.specs.declared.column_index.ColumnIndex.TheVariants as column_index
use Rattle.far_types.specs.Lent.{text_cell}
use Rattle.far_rows.specs.ColumnIndexes.{column_in}
use Rattle.far_rows.specs.Rows.{Rows, all_numbers, all_texts}
use Rattle.far_rows.specs.Refusing.{absent_at}
use Rattle.far_rows.proofs.RefusingNames.{one-away_at}
use Rattle.far_rows.proofs.RowsReading.{text-column, text-refused, cell-of-text}
use Rattle.far_rows.proofs.rows.Rows.text_at.Goals as goal

pub text-requires-after_bounds : goal.text-requires-after_bounds
text-requires-after_bounds g c κs within =
    let column = subst (λ (r : Rows g.row.S-Ticket.Denot). c.args.text < length r.texts) (sym c.self.view_is) c.requires.column in
    text-column g.S.FarTickets.content _ c.self.invariant c.args.text c.index-column.result.now column c.index-column.ensures

pub returns-clause-text : goal.returns-clause-text
returns-clause-text g c =
    let column = subst (λ (r : Rows g.row.S-Ticket.Denot). c.args.text < length r.texts) (sym c.self.view_is) c.requires.column in
    let texts = texts_in (lists_of g.S.FarTickets.content c.self.inside.text_objects) c.index-column.result.now in
    let cells = λ (r : Rows g.row.S-Ticket.Denot). column_in (all_numbers g.S.FarTickets.content r) (all_texts g.S.FarTickets.content r) (column_index.Text c.args.text) in
    IfOk-weaker c.text.result (λ value. slice_get texts c.args.place ≡ Some (option_copied value)) (λ value. get_or (cells c.args.self.now) c.args.place cell.Missing ≡ text_cell (option_copied value))
    (λ value is. sym (ap (λ (r : Rows g.row.S-Ticket.Denot). get_or (cells r) c.args.place cell.Missing) c.self.view_is) ∙ cell-of-text g.S.FarTickets.content _ c.self.invariant c.args.text c.args.place c.index-column.result.now (option_copied value) column c.index-column.ensures is)
    c.text.ensures.text

pub returns-clause-refused : goal.returns-clause-refused
returns-clause-refused g c =
    let column = subst (λ (r : Rows g.row.S-Ticket.Denot). c.args.text < length r.texts) (sym c.self.view_is) c.requires.column in
    let place = subst (λ (r : Rows g.row.S-Ticket.Denot). c.args.place < length r.alive) (sym c.self.view_is) c.requires.place in
    c.text.ensures.refused
    ∙ text-refused g.S.FarTickets.content _ c.self.invariant c.args.text c.args.place c.index-column.result.now column c.index-column.ensures place c.len-len.ensures.groups
    ∙ one-away_at g.S.FarTickets.content _ c.self.invariant c.args.at (column_index.Text c.args.text) (subst (λ (r : Rows g.row.S-Ticket.Denot). slice_get r.column_indexes c.args.at ≡ Some (column_index.Text c.args.text)) (sym c.self.view_is) c.requires.lies) (c.args.place / c.self.inside.size)
    ∙ ap (λ (r : Rows g.row.S-Ticket.Denot). first_of (absent_at r c.args.at (c.args.place / r.size) (column_index.Text c.args.text) ∷ [])) c.self.view_is
