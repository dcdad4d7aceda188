-- Cells, and the number, the text or the key that a cell has.
use Rattle.std.specs.Prelude.{ℕ, ℤ, Bool, true, false, nat_lt, List, length, Option, None, Some, slice_get, unwrap_or, FitsSigned}
use Rattle.std.specs.Int.{w64}
use Rattle.std.specs.List.{AllByRecursion}
use Rattle.far_types.specs.declared.cell.Cell.{Cell}
use Rattle.far_types.specs.declared.cell.Cell.TheVariants as cell
use Rattle.far_types.specs.declared.cell.Kind.{Kind}
use Rattle.far_types.specs.declared.cell.Kind.TheVariants as kind
use Rattle.far_types.specs.declared.key.Key.{Key}
use Rattle.far_types.specs.declared.key.Key.TheVariants as key

-- whether a cell is of a kind: a cell without a value is of either kind
abbrev pub is_of_kind : Kind → Cell → Bool
is_of_kind kind.Int (cell.Int number) = true
is_of_kind kind.Int (cell.Text text) = false
is_of_kind kind.Text (cell.Int number) = false
is_of_kind kind.Text (cell.Text text) = true
is_of_kind k cell.Missing = true

-- whether a cell is a text of more than 4,096 bytes, which no table accepts
abbrev pub is_too_long : Cell → Bool
is_too_long (cell.Int number) = false
is_too_long (cell.Text text) = nat_lt 4096 (length text)
is_too_long cell.Missing = false

-- the number of a cell, or nothing if it has none
abbrev pub number_in : Option Cell → Option ℤ
number_in (Some (cell.Int number)) = Some number
number_in (Some (cell.Text text)) = None
number_in (Some cell.Missing) = None
number_in None = None

-- the text of a cell, or nothing if it has none
abbrev pub text_in : Cell → Option (List ℕ)
text_in (cell.Int number) = None
text_in (cell.Text text) = Some text
text_in cell.Missing = None

-- the value of a cell as a key, or nothing if it has none
abbrev pub key_in : Option Cell → Option Key
key_in (Some (cell.Int number)) = Some (key.Int number)
key_in (Some (cell.Text text)) = Some (key.Text text)
key_in (Some cell.Missing) = None
key_in None = None

-- the cells of a row by column number: nothing if there is no such column. A lent row may lack columns that its reader does not need
abbrev pub Cells : Type 0
Cells = ℕ → Option Cell

-- the cells of a whole row, by column number
abbrev pub cells_of : List Cell → Cells
cells_of row = slice_get row

-- the cell of one column, in a row that has all columns
abbrev pub cell_at : ℕ → List Cell → Cell
cell_at column row = unwrap_or (slice_get row column) cell.Missing

-- the number of a cell, if it has one, has 64 bits
abbrev pub CellFits : Cell → Type 0
CellFits (cell.Int number) = FitsSigned w64 number
CellFits (cell.Text text) = Unit {0}
CellFits cell.Missing = Unit {0}

-- the numbers of a row's cells have 64 bits
abbrev pub RowFits : List Cell → Type 0
RowFits row = AllByRecursion CellFits row
