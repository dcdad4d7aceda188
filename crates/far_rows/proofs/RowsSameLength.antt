-- Each column of the table has as many cells as there are places.
use Rattle.std.proofs.Common.{◌≡◌, ℕ, ◌<◌, List, [], ◌∷◌, map, length, get_or, ℤ, Option, sym, ap, subst, ◌∙◌}
use Rattle.std.specs.Prelude.{All, option_map}
use Rattle.std.proofs.lemmas.List.{length-map}
use Rattle.std.proofs.lemmas.List.Elements.{All-nil, All-cons, All-head, All-tail}
use Rattle.std.proofs.lemmas.Option.{slice_get-map, get_or_from_slice_get}
use Rattle.far_types.specs.declared.cell.Cell.{Cell}
use Rattle.far_columns.specs.Vector.{Vector, IsVector, IsShaped}
use Rattle.far_columns.proofs.VectorLaws.{length-elements}
use Rattle.far_texts.specs.Texts.{Texts, HasGroups, IsTextColumn, lists_of, texts_in}
use Rattle.far_columns.specs.Numbers.{number_lists, numbers_in}
use Rattle.far_texts.proofs.TextsGroups.{texts-length}
use Rattle.far_rows.specs.declared.column_index.ColumnIndex.{ColumnIndex}
use Rattle.far_rows.specs.declared.column_index.ColumnIndex.TheVariants as column_index
use Rattle.far_types.specs.Lent.{int_cell, text_cell}
use Rattle.far_rows.specs.ColumnIndexes.{Values, IsColumnIn, cell_in, column_in, row_of}
use Rattle.far_rows.specs.Rows.{Rows, AreRows, all_numbers, all_texts, all_cells}
use Rattle.far_rows.proofs.PlacesTextSize.{found-at}
use Rattle.far_rows.proofs.PlacesChanged.{AsLong}

module _ {K : Type 0} (content : K → List ℕ) (r : Rows K) (are : AreRows content r) where
  long-column_index : (s : ColumnIndex) → IsColumnIn (length r.numbers) (length r.texts) s → length (column_in (all_numbers content r) (all_texts content r) s) ≡ length r.alive
  long-column_index (column_index.Number i) inside =
      let found = found-at r.numbers i inside in
      let c : Vector (Option ℤ) = found.0 in
      let same = get_or_from_slice_get r.numbers i c c found.1 in
      let lists = number_lists content r.number_objects in
      let same_length = subst (λ (d : Vector (Option ℤ)). (d.size ≡ r.size) × (d.len ≡ length r.alive)) same (are.same_length_numbers i c inside) in
      let shaped = subst IsShaped same (are.shaped i c inside) in
      let is = subst (IsVector lists) same (are.numbers.all_disjoint.each i c inside) in
      let read : get_or (all_numbers content r) i [] ≡ numbers_in content r.number_objects c = get_or_from_slice_get (all_numbers content r) i (numbers_in content r.number_objects c) [] (slice_get-map (numbers_in content r.number_objects) r.numbers i ∙ ap (option_map (numbers_in content r.number_objects)) found.1) in
      length-map (get_or (all_numbers content r) i []) int_cell ∙ ap length read ∙ length-elements lists c shaped is ∙ same_length.1
  long-column_index (column_index.Text i) inside =
      let found = found-at r.texts i inside in
      let c : Texts = found.0 in
      let same = get_or_from_slice_get r.texts i c c found.1 in
      let lists = lists_of content r.text_objects in
      let same_length = subst (λ (d : Texts). (d.size ≡ r.size) × (d.len ≡ length r.alive)) same (are.same_length_texts i c inside) in
      let has = subst HasGroups same (are.grouped i c inside) in
      let is = subst (IsTextColumn lists) same (are.texts.all_disjoint.each i c inside) in
      let read : get_or (all_texts content r) i [] ≡ texts_in lists c = get_or_from_slice_get (all_texts content r) i (texts_in lists c) [] (slice_get-map (texts_in lists) r.texts i ∙ ap (option_map (texts_in lists)) found.1) in
      length-map (get_or (all_texts content r) i []) text_cell ∙ ap length read ∙ texts-length lists c is has ∙ same_length.1

  pub cells-long : AsLong (length r.alive) (all_cells content r)
  cells-long = each r.column_indexes are.column_indexes.within where
    each : (column_indexes : List ColumnIndex) → All (IsColumnIn (length r.numbers) (length r.texts)) column_indexes → AsLong (length r.alive) (map (column_in (all_numbers content r) (all_texts content r)) column_indexes)
    each [] within = All-nil (λ (cells : List Cell). length cells ≡ length r.alive)
    each (s ∷ column_indexes) within =
        All-cons (λ (cells : List Cell). length cells ≡ length r.alive) (column_in (all_numbers content r) (all_texts content r) s) (map (column_in (all_numbers content r) (all_texts content r)) column_indexes)
        (long-column_index s (All-head (IsColumnIn (length r.numbers) (length r.texts)) s column_indexes within))
        (each column_indexes (All-tail (IsColumnIn (length r.numbers) (length r.texts)) s column_indexes within))

  pub row-wide : (values : Values) → length (row_of r.column_indexes values) ≡ length (all_cells content r)
  row-wide values = length-map r.column_indexes (cell_in values) ∙ sym (length-map r.column_indexes (column_in (all_numbers content r) (all_texts content r)))

  pub column-long : (c : ℕ) → c < length r.column_indexes → length (get_or (all_cells content r) c []) ≡ length r.alive
  column-long c within = cells-long c [] (subst (λ (n : ℕ). c < n) (sym (length-map r.column_indexes (column_in (all_numbers content r) (all_texts content r)))) within)
