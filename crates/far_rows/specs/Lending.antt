-- Borrowed ranges and row groups of columns.
use Rattle.std.specs.Prelude.{ℕ, Bool, List, [], map, Option, slice_get, slice_index_or, slice_range}
use Rattle.std.specs.List.{zip}
use Rattle.std.specs.Option.{option_map_or}
use Rattle.far_types.specs.declared.cell.Cell.{Cell}
use Rattle.far_types.specs.Lent.{int_cell, text_cell}
use Rattle.far_codec.specs.TextForm.{texts_meaning, IsTextsForm}
use Rattle.far_columns.specs.Pieces.{pieces_of}
use Rattle.far_columns.specs.Numbers.{Numbers, with_flags}
use Rattle.far_rows.specs.declared.lent_column.LentColumn.{LentColumn}
use Rattle.far_rows.specs.declared.lent_column.LentColumn.TheVariants as lent
use Rattle.far_rows.specs.declared.column_index.ColumnIndex.{ColumnIndex}
use Rattle.far_rows.specs.declared.column_index.ColumnIndex.TheVariants as column_index
use Rattle.far_rows.specs.Rows.{Rows, all_numbers, all_texts}

module _ {K : Type 0} (content : K → List ℕ) (r : Rows K) where
  -- the numbers of the column with this index; none if it is a text column
  abbrev pub numbers_of : ColumnIndex → Numbers
  numbers_of (column_index.Number i) = slice_index_or (all_numbers content r) i []
  numbers_of (column_index.Text i) = []

  -- a borrowed range of a number column: a piece for each row group that overlaps the range, with the alive flags of its places
  abbrev pub lent_ints : ℕ → ℕ → ℕ → List (Numbers × List Bool)
  lent_ints column from to =
      option_map_or (λ s. with_flags (pieces_of (numbers_of s) r.size from to)
      (slice_range r.alive from to)) (slice_get r.column_indexes column) []

  -- the texts of the column with this index; none if it is a number column
  abbrev pub texts_of : ColumnIndex → List (Option (List ℕ))
  texts_of (column_index.Number i) = []
  texts_of (column_index.Text i) = slice_index_or (all_texts content r) i []

  -- a borrowed range of a text column: each text with the alive flag of its place
  abbrev pub lent_texts : ℕ → ℕ → ℕ → List (Option (List ℕ) × Bool)
  lent_texts column from to =
      option_map_or (λ s. zip (slice_range (texts_of s) from to) (slice_range r.alive from to))
      (slice_get r.column_indexes column) []

-- the cells of a borrowed row group
abbrev pub cells_lent : LentColumn → List Cell
cells_lent (lent.Numbers numbers) = map int_cell numbers.now
cells_lent (lent.Form form) = map text_cell (texts_meaning form.now)

-- the borrowed row group of a text column is a far form
abbrev pub IsLent : LentColumn → Type 0
IsLent (lent.Numbers numbers) = Unit {0}
IsLent (lent.Form form) = IsTextsForm form.now
