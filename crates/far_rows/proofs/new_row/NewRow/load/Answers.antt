use Rattle.std.proofs.Common.{◌≡◌, ◌+◌, ◌<◌, length, take, get_or, refl, sym, ap, ◌∙◌, arith}
use Rattle.std.proofs.lemmas.List.{length-set, take_all}
use Rattle.far_rows.specs.declared.column_index.ColumnIndex.TheVariants as column_index
use Rattle.far_rows.specs.ColumnIndexes.{Values, row_of}
use Rattle.far_types.specs.Cells.{is_too_long}
use Rattle.far_rows.proofs.RefusingTextSize.{short-at}
use Rattle.far_rows.proofs.ColumnIndexesValues.{kind-next, numbers-unchanged, texts-unchanged, row-more, within-still, same-next, same-later, taken-more}
use Rattle.far_rows.proofs.new_row.NewRow.load.Goals as goal

pub loop-column-init : goal.loop-column-init
loop-column-init c = record { row = refl; rest = refl; long = refl; numbers = refl; texts = refl }

pub put-requires-clause-within : goal.put-requires-clause-within
put-requires-clause-within c =
    let row = c.into_cells-cells.result.items in
    let is : row ≡ c.args.row = c.into_cells-cells.ensures.cells in
    let n = c.loop-column.column in
    let below : n < length row = omega (arith, c.loop-column-test.true, c.len-column-end.ensures) in
    let within : n < length c.args.column_indexes.now = omega (arith, below, ap length is, c.requires.width) in
    within-still c.loop-column.self c.args.self.now c.args.column_indexes.now n (column_index.Number 0) c.requires.column_indexes.within within c.loop-column.invariant.numbers c.loop-column.invariant.texts

pub put-requires-clause-of_kind : goal.put-requires-clause-of_kind
put-requires-clause-of_kind c =
    let row = c.into_cells-cells.result.items in
    let is : row ≡ c.args.row = c.into_cells-cells.ensures.cells in
    let n = c.loop-column.column in
    let below : n < length row = omega (arith, c.loop-column-test.true, c.len-column-end.ensures) in
    let within : n < length c.args.column_indexes.now = omega (arith, below, ap length is, c.requires.width) in
    let cell = c.index_mut.result.now in
    let read : cell ≡ get_or row n cell = c.index_mut.ensures.value ∙ same-next c.loop-column.cells.items row n cell c.loop-column.invariant.rest in
    kind-next c.args.column_indexes.now row n n (column_index.Number 0) cell (rw is c.requires.of_kinds) refl within (below, read)

pub put-requires-clause-short : goal.put-requires-clause-short
put-requires-clause-short c =
    let row = c.into_cells-cells.result.items in
    let is : row ≡ c.args.row = c.into_cells-cells.ensures.cells in
    let n = c.loop-column.column in
    let below : n < length row = omega (arith, c.loop-column-test.true, c.len-column-end.ensures) in
    let cell = c.index_mut.result.now in
    let read : cell ≡ get_or row n cell = c.index_mut.ensures.value ∙ same-next c.loop-column.cells.items row n cell c.loop-column.invariant.rest in
    ap is_too_long read ∙ short-at row n cell (rw is c.requires.short) below

pub loop-column-preserved : goal.loop-column-preserved
loop-column-preserved c =
    let row = c.into_cells-cells.result.items in
    let is : row ≡ c.args.row = c.into_cells-cells.ensures.cells in
    let n = c.loop-column.column in
    let below : n < length row = omega (arith, c.loop-column-test.true, c.len-column-end.ensures) in
    let within : n < length c.args.column_indexes.now = omega (arith, below, ap length is, c.requires.width) in
    let cell = c.index_mut.result.now in
    let read : cell ≡ get_or row n cell = c.index_mut.ensures.value ∙ same-next c.loop-column.cells.items row n cell c.loop-column.invariant.rest in
    let values = c.loop-column.self in
    let s = get_or c.args.column_indexes.now n (column_index.Number 0) in
    let lies = within-still values c.args.self.now c.args.column_indexes.now n (column_index.Number 0) c.requires.column_indexes.within within c.loop-column.invariant.numbers c.loop-column.invariant.texts in
    let of_kind = kind-next c.args.column_indexes.now row n n (column_index.Number 0) cell (rw is c.requires.of_kinds) refl within (below, read) in
    record {
      row = ap (row_of (take (n + 1) c.args.column_indexes.now)) c.put.ensures
          ∙ row-more values c.args.column_indexes.now n (column_index.Number 0) cell c.requires.column_indexes.once within lies of_kind
          ∙ taken-more row _ n cell below read c.loop-column.invariant.row;
      rest = same-later c.loop-column.cells.items row n _ c.loop-column.invariant.rest;
      long = length-set c.loop-column.cells.items n _ ∙ c.loop-column.invariant.long;
      numbers = ap (λ (v : Values). length v.numbers) c.put.ensures ∙ numbers-unchanged values s cell ∙ c.loop-column.invariant.numbers;
      texts = ap (λ (v : Values). length v.texts) c.put.ensures ∙ texts-unchanged values s cell ∙ c.loop-column.invariant.texts;
    }

pub returns-clause-row : goal.returns-clause-row
returns-clause-row c =
    let row = c.into_cells-cells.result.items in
    let is : row ≡ c.args.row = c.into_cells-cells.ensures.cells in
    let n = c.loop-column.column in
    let all = take_all n c.args.column_indexes.now (omega (arith, c.loop-column-test.false, c.len-column-end.ensures, ap length is, c.requires.width)) in
    let whole = take_all n row (omega (arith, c.loop-column-test.false, c.len-column-end.ensures)) in
    ap (row_of c.args.column_indexes.now) c.self.view_is ∙ ap (λ ts. row_of ts c.loop-column.self) (sym all) ∙ c.loop-column.invariant.row ∙ whole ∙ is
