use Rattle.std.proofs.Common.{◌≡◌, ◌∙◌, List, Some, length, refl, sym, ap}
use Rattle.std.specs.Prelude.{option_map, slice_get, slice_index_or}
use Rattle.std.proofs.lemmas.Option.{none-some, slice_get_read}
use Rattle.far_types.specs.declared.cell.Cell.{Cell}
use Rattle.far_types.specs.declared.cell.Cell.TheVariants.{Missing}
use Rattle.far_rows.specs.declared.column_index.ColumnIndex.{ColumnIndex}
use Rattle.far_rows.specs.ColumnIndexes.{column_in}
use Rattle.far_rows.specs.Rows.{all_numbers, all_texts}
use Rattle.far_rows.proofs.RowsCells.{row-cell, none-refused}
use Rattle.far_rows.proofs.row_ref.RowRef.get.Goals as goal

pub unreachable-requires : goal.unreachable-requires
unreachable-requires g c =
    let r = c.self.inside.rows.now in
    let column_index = c.in_ok-column_index.column_index.now in
    let lookup = c.in_ok-column_index.ensures.lookup in
    let lies : slice_get r.column_indexes c.args.column ≡ Some column_index =
    sym (ap (λ (ss : List ColumnIndex). slice_get ss c.args.column) c.column_indexes.ensures)
    ∙ slice_get_read c.column_indexes.result.now (length c.column_indexes.result.now) c.args.column column_index refl lookup.3.0 lookup.1 in
    none-some c.in_default.field-0 (sym (c.in_default.ensures.refused ∙ none-refused g.S.FarTickets.content r c.self.inside.place c.self.invariant.1 c.args.column column_index lies))

pub returns : goal.returns
returns g c =
    let content = g.S.FarTickets.content in
    let r = c.self.inside.rows.now in
    let column_index = c.in_ok-column_index.column_index.now in
    let lookup = c.in_ok-column_index.ensures.lookup in
    let lies : slice_get r.column_indexes c.args.column ≡ Some column_index =
    sym (ap (λ (ss : List ColumnIndex). slice_get ss c.args.column) c.column_indexes.ensures)
    ∙ slice_get_read c.column_indexes.result.now (length c.column_indexes.result.now) c.args.column column_index refl lookup.3.0 lookup.1 in
    let cell = λ (s : ColumnIndex). slice_index_or (column_in (all_numbers content r) (all_texts content r) s) c.self.inside.place Missing in
    sym (ap Some c.in-Ok.ensures.cell)
    ∙ sym (ap (option_map cell) lies)
    ∙ sym (row-cell content r c.self.inside.place c.args.column)
    ∙ ap (λ (row : List Cell). slice_get row c.args.column) c.self.view_is
