-- The index of each column of a table, among its number columns or among its text columns.
use Rattle.std.specs.Prelude.{◌≡◌, ◌≢◌, length, ℕ, ◌+◌, ◌<◌, List, [], ◌∷◌, ◌++◌, map, All, AllPairs, Option, Some, None, ℤ, slice_index_or, slice_set}
use Rattle.far_types.specs.declared.cell.Cell.{Cell}
use Rattle.far_types.specs.Cells.{number_in, text_in}
use Rattle.far_types.specs.declared.cell.Kind.{Kind}
use Rattle.far_types.specs.declared.cell.Kind.TheVariants as kind
use Rattle.far_rows.specs.declared.column_index.ColumnIndex.{ColumnIndex}
use Rattle.far_rows.specs.declared.column_index.ColumnIndex.TheVariants as column_index
use Rattle.far_types.specs.Lent.{int_cell, text_cell}

-- the indexes of columns of these kinds, which follow `numbers` number columns and `texts` text columns
abbrev pub column_indexes_from : ℕ → ℕ → List Kind → List ColumnIndex
column_indexes_from numbers texts [] = []
column_indexes_from numbers texts (kind.Int ∷ kinds) =
    column_index.Number numbers ∷ column_indexes_from (numbers + 1) texts kinds
column_indexes_from numbers texts (kind.Text ∷ kinds) =
    column_index.Text texts ∷ column_indexes_from numbers (texts + 1) kinds

-- the kind of the column with this index
abbrev pub kind_of : ColumnIndex → Kind
kind_of (column_index.Number i) = kind.Int
kind_of (column_index.Text i) = kind.Text

-- the index belongs to one of `numbers` number columns, or to one of `texts` text columns
abbrev pub IsColumnIn : ℕ → ℕ → ColumnIndex → Type 0
IsColumnIn numbers texts (column_index.Number i) = i < numbers
IsColumnIn numbers texts (column_index.Text i) = i < texts

-- the indexes of `numbers` number columns and `texts` text columns, each once
pub record AreColumnIndexes (column_indexes : List ColumnIndex) (numbers texts : ℕ) : Type 0 where
  pub within : All (IsColumnIn numbers texts) column_indexes
  pub once : AllPairs (λ s t. s ≢ t) column_indexes
  pub count : length column_indexes ≡ numbers + texts

-- the values of a row: a number for each number column, and a text for each text column
pub record Values : Type 0 where
  pub numbers : List (Option ℤ)
  pub texts : List (Option (List ℕ))

-- the cell with this index in a row
abbrev pub cell_in : Values → ColumnIndex → Cell
cell_in values (column_index.Number i) = int_cell (slice_index_or values.numbers i None)
cell_in values (column_index.Text i) = text_cell (slice_index_or values.texts i None)

-- the row with these values, in columns with these indexes
abbrev pub row_of : List ColumnIndex → Values → List Cell
row_of column_indexes values = map (cell_in values) column_indexes

-- the values after a cell is put at an index of the cell's kind
abbrev pub with_value : Values → ColumnIndex → Cell → Values
with_value values (column_index.Number i) cell =
    record values { numbers = slice_set values.numbers i (number_in (Some cell)) }
with_value values (column_index.Text i) cell =
    record values { texts = slice_set values.texts i (text_in cell) }

-- the cells of the column with this index
abbrev pub column_in : List (List (Option ℤ)) → List (List (Option (List ℕ))) → ColumnIndex
    → List Cell
column_in numbers texts (column_index.Number i) = map int_cell (slice_index_or numbers i [])
column_in numbers texts (column_index.Text i) = map text_cell (slice_index_or texts i [])

-- the columns of a table, given its number columns and its text columns
abbrev pub columns_of : List ColumnIndex → List (List (Option ℤ))
    → List (List (Option (List ℕ))) → List (List Cell)
columns_of column_indexes numbers texts = map (column_in numbers texts) column_indexes

-- the columns after a row is appended: each has one more cell
abbrev pub with_row : List (List Cell) → List Cell → List (List Cell)
with_row [] row = []
with_row (cells ∷ columns) [] = cells ∷ columns
with_row (cells ∷ columns) (cell ∷ row) = (cells ++ cell ∷ []) ∷ with_row columns row
