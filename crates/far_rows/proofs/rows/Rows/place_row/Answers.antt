use Rattle.std.proofs.Common.{◌≤◌, ◌∙◌, List, map, length, ap, sym, arith}
use Rattle.std.specs.Prelude.{slice_index_or}
use Rattle.std.proofs.lemmas.List.{take_all}
use Rattle.std.proofs.lemmas.Simd.{map-map}
use Rattle.far_types.specs.declared.cell.Cell.{Cell}
use Rattle.far_types.specs.declared.cell.Cell.TheVariants.{Missing}
use Rattle.far_rows.specs.declared.column_index.ColumnIndex.{ColumnIndex}
use Rattle.far_rows.specs.ColumnIndexes.{column_in}
use Rattle.far_rows.specs.Rows.{Rows, all_numbers, all_texts}
use Rattle.far_rows.proofs.rows.Rows.place_row.Goals as goal

pub returns-clause-row : goal.returns-clause-row
returns-clause-row g c =
    let r = c.args.self.now in
    let cells = λ (s : ColumnIndex). column_in (all_numbers g.S.FarTickets.content r) (all_texts g.S.FarTickets.content r) s in
    let at = λ (column : List Cell). slice_index_or column c.args.place Missing in
    let column_indexes = c.deref-column_index-items.ensures.value ∙ ap (λ (r : Rows g.row.S-Ticket.Denot). r.column_indexes) c.self.view_is in
    let enough : length r.column_indexes ≤ c.loop-column.column = omega (arith, c.loop-column-test.false, ap length column_indexes) in
    c.loop-column.invariant.0 ∙ ap (map (λ (s : ColumnIndex). at (cells s))) (take_all c.loop-column.column r.column_indexes enough) ∙ sym (map-map at cells r.column_indexes)
