-- The cells of a row, column by column.
use Rattle.std.proofs.Common.{◌≡◌, ℕ, ◌/◌, Bool, List, [], ◌∷◌, None, Some, ap, ◌∙◌}
use Rattle.std.specs.Prelude.{option_map, slice_get, slice_index_or}
use Rattle.std.proofs.lemmas.Option.{slice_get-map}
use Rattle.std.proofs.lemmas.Simd.{map-map}
use Rattle.far_types.specs.declared.cell.Cell.{Cell}
use Rattle.far_types.specs.declared.cell.Cell.TheVariants.{Missing}
use Rattle.far_types.specs.declared.refusal.Refusal.TheVariants as refusal
use Rattle.far_types.specs.FirstOf.{first_of}
use Rattle.far_rows.specs.declared.column_index.ColumnIndex.{ColumnIndex}
use Rattle.far_rows.specs.ColumnIndexes.{column_in}
use Rattle.far_rows.specs.Rows.{Rows, all_numbers, all_texts, all_cells}
use Rattle.far_rows.specs.Places.{row_at}
use Rattle.far_rows.specs.Refusing.{absent_at, absents}
use Rattle.far_rows.proofs.PlainLaws.{none-away}

module _ {K : Type 0} (content : K → List ℕ) (r : Rows K) (place : ℕ) where
  abbrev cells : ColumnIndex → List Cell
  cells s = column_in (all_numbers content r) (all_texts content r) s

  abbrev at : List Cell → Cell
  at column = slice_index_or column place Missing

  -- the row's cell of a column is the cell at the place in the column with its index
  pub row-cell : (column : ℕ) → slice_get (row_at (all_cells content r) place) column ≡ option_map (λ s. slice_index_or (column_in (all_numbers content r) (all_texts content r) s) place Missing) (slice_get r.column_indexes column)
  row-cell column = ap (λ row. slice_get row column) (map-map at cells r.column_indexes) ∙ slice_get-map (λ s. at (cells s)) r.column_indexes column

  -- if no object of the place's row group is away, no cell of the place is refused
  pub none-refused : first_of (absents r (place / r.size)) ≡ None → (column : ℕ) (s : ColumnIndex) → slice_get r.column_indexes column ≡ Some s → first_of (absent_at r column (place / r.size) s ∷ []) ≡ None
  none-refused free column s lies = ap (λ (away : Bool). first_of ((away, refusal.Absent column (place / r.size)) ∷ [])) (none-away r (place / r.size) 0 r.column_indexes free column s lies)
