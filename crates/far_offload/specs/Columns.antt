-- The columns of a job: the cells that their far forms encode, and the cells of a place.
use Rattle.std.specs.Prelude.{◌≡◌, ℕ, ℤ, Bool, ◌==◌, List, map, Option, Some, option_map, slice_index_or}
use Rattle.std.specs.List.{find}
use Rattle.std.specs.Option.{option_and_then}
use Rattle.far_types.specs.declared.cell.Cell.{Cell}
use Rattle.far_types.specs.declared.cell.Cell.TheVariants as cell
use Rattle.far_types.specs.Cells.{Cells}
use Rattle.far_types.specs.Lent.{int_cell, text_cell}
use Rattle.far_codec.specs.declared.lent.LentValues.{LentValues}
use Rattle.far_codec.specs.declared.lent.LentValues.TheVariants as lent
use Rattle.far_codec.specs.Lent.{lent_in}

-- values of either kind, as cells
abbrev pub cells_in : LentValues → List Cell
cells_in (lent.Ints numbers) = map int_cell numbers
cells_in (lent.Texts texts) = map text_cell texts

-- the cells that a far form encodes
abbrev pub cells_meant : List ℕ → List Cell
cells_meant form = cells_in (lent_in form)

-- columns, each with its number and its cells
abbrev pub Columns : Type 0
Columns = List (ℕ × List Cell)

-- whether a column has this number
abbrev pub is_number : ℕ → ℕ × List Cell → Bool
is_number number column = column.0 == number

-- the column with this number
abbrev pub column_of : Columns → ℕ → Option (ℕ × List Cell)
column_of columns number = find (is_number number) columns

-- the cell of a column at a place; a place past the end has no value
abbrev pub cell_of : ℕ → ℕ × List Cell → Cell
cell_of place column = slice_index_or column.1 place cell.Missing

-- the cells of a place, by column number; a column that is not available has no value
abbrev pub cells_at : Columns → ℕ → Cells
cells_at columns place number = option_map (cell_of place) (column_of columns number)

-- the aggregate has a key column, and these are its numbers
abbrev pub AreKeys : Columns → Option ℕ → List (Option ℤ) → Type 0
AreKeys columns key numbers = (column : ℕ × List Cell)
    × (option_and_then (column_of columns) key ≡ Some column)
    × (column.1 ≡ map int_cell numbers)

-- there is a column with this number, and these are its numbers
abbrev pub AreValues : Columns → ℕ → List (Option ℤ) → Type 0
AreValues columns number numbers = (column : ℕ × List Cell)
    × (column_of columns number ≡ Some column)
    × (column.1 ≡ map int_cell numbers)
