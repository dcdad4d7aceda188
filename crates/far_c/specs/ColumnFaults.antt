-- Which columns fit a table, and why their rows cannot be read.
use Rattle.std.specs.Prelude.{◌≡◌, ◌≢◌, ◌≤◌, ◌<◌, ◌+◌, ◌⊎◌, ⊤, ℕ, List, length, Some, IsSomeAnd, slice_get, IsUtf8}
use Rattle.std.specs.Int.{div_ceil}
use Rattle.std.specs.List.{All}
use Rattle.std.specs.List.Sorted.{IsNonDecreasing}
use Rattle.far_types.specs.declared.cell.Cell.{Cell}
use Rattle.far_types.specs.declared.cell.Cell.TheVariants as cell
use Rattle.far_types.specs.declared.cell.Kind.{Kind}
use Rattle.far_types.specs.declared.cell.Kind.TheVariants.{Int, Text}
use Rattle.far_c.specs.declared.columns.FcColumn.{FcColumn}
use Rattle.far_c.specs.declared.unread.Unread.{Unread}
use Rattle.far_c.specs.declared.unread.Unread.TheVariants as unread
use Rattle.far_c.specs.Columns.{column_cell, offset_at}
use Rattle.far_c.specs.TableState.{TableState}
use Rattle.far_c.specs.Unreadable.{FirstFault}

-- a mask has a bit for each of `rows` rows, or is left out
abbrev pub IsMask : ℕ → List ℕ → Type 0
IsMask rows valid = (length valid ≡ 0) ⊎ (div_ceil rows 8 ≤ length valid)

-- a column has `rows` numbers, and no texts
pub record AreNumbers (rows : ℕ) (c : FcColumn) : Type 0 where
  pub kind : c.kind ≡ 1
  pub numbers : length c.numbers.now ≡ rows
  pub offsets : length c.offsets.now ≡ 0
  pub valid : IsMask rows c.valid.now

-- the offsets at which `rows` texts in `len` bytes begin and the last one ends
pub record AreOffsets (rows len : ℕ) (offsets : List ℕ) : Type 0 where
  pub count : length offsets ≡ rows + 1
  pub order : IsNonDecreasing offsets
  pub within : offset_at offsets rows ≤ len

-- a column has `rows` texts, and no numbers
pub record AreTexts (rows : ℕ) (c : FcColumn) : Type 0 where
  pub kind : c.kind ≡ 2
  pub numbers : length c.numbers.now ≡ 0
  pub offsets : AreOffsets rows (length c.bytes.now) c.offsets.now
  pub valid : IsMask rows c.valid.now

-- a column is of this kind, and has `rows` rows
abbrev pub IsColumnOf : Kind → ℕ → FcColumn → Type 0
IsColumnOf Int = AreNumbers
IsColumnOf Text = AreTexts

-- a column is of a known kind, and has `rows` rows
abbrev pub IsColumn : ℕ → FcColumn → Type 0
IsColumn rows c = AreNumbers rows c ⊎ AreTexts rows c

-- there is one column for each of these kinds, and each is of its kind and has `rows` rows
pub record AreColumnsOf (kinds : List Kind) (rows : ℕ) (columns : List FcColumn) : Type 0 where
  pub count : length columns ≡ length kinds
  pub each : (k : ℕ) (c : FcColumn) → slice_get columns k ≡ Some c
      → IsSomeAnd (slice_get kinds k) (λ one. IsColumnOf one rows c)

-- a cell can be read: if it is a text, it is valid UTF-8
abbrev pub IsRead : Cell → Type 0
IsRead (cell.Text text) = IsUtf8 text
IsRead (cell.Int number) = ⊤
IsRead cell.Missing = ⊤

-- the cell of a column in a row can be read
abbrev pub IsReadIn : ℕ → FcColumn → Type 0
IsReadIn row c = IsRead (column_cell c row)

-- a row can be read: each of its cells can
abbrev pub IsRowRead : List FcColumn → ℕ → Type 0
IsRowRead columns row = All (IsReadIn row) columns

-- each of the first `count` can be read
abbrev pub AreFirstRead : (ℕ → Type 0) → ℕ → Type 0
AreFirstRead read count = (k : ℕ) → k < count → read k

-- a column has the text of a row: its beginning and its end are in order and within the bytes
pub record HasText (row : ℕ) (c : FcColumn) : Type 0 where
  pub there : row + 1 < length c.offsets.now
  pub order : offset_at c.offsets.now row ≤ offset_at c.offsets.now (row + 1)
  pub within : offset_at c.offsets.now (row + 1) ≤ length c.bytes.now

-- a column has a row
abbrev pub HasRow : ℕ → FcColumn → Type 0
HasRow row c = ((c.kind ≡ 1) × (row < length c.numbers.now)) ⊎ ((c.kind ≢ 1) × HasText row c)

-- why the cell of a column in a row cannot be read: the column has no such row, or its text there
-- is not valid UTF-8. For any cell memory may run out
abbrev pub CellFaultIn : ℕ → FcColumn → Unread → Type 0
CellFaultIn row c unread.BadArgument = ¬ (HasRow row c)
CellFaultIn row c unread.NoUtf8 = ¬ (IsReadIn row c)
CellFaultIn row c unread.NoMemory = ⊤

-- why a row cannot be read: the first of its cells that cannot be read says so
abbrev pub RowFaultIn : List FcColumn → ℕ → Unread → Type 0
RowFaultIn columns row = FirstFault (CellFaultIn row) (IsReadIn row) columns

-- why no row is appended after `appended` rows: the columns do not fit the table, and no row is
-- appended; or a text of the next row is not valid UTF-8
abbrev pub IsNotAppended : List FcColumn → ℕ → ℕ → TableState → ℕ → Type 0
IsNotAppended columns rows appended table code =
    let fit = AreColumnsOf table.world.state.table.schema rows columns in
    ((code ≡ 103) × (appended ≡ 0) × ¬ fit)
    ⊎ ((code ≡ 102) × fit × (appended < rows) × RowFaultIn columns appended unread.NoUtf8)

-- why no cell is set after `set` cells: they are not a column of `rows` rows, and no cell is set;
-- or the next one is a text that is not valid UTF-8
abbrev pub IsNotSet : FcColumn → ℕ → ℕ → TableState → ℕ → Type 0
IsNotSet values rows set table code =
    ((code ≡ 103) × (set ≡ 0) × ¬ (IsColumn rows values))
    ⊎ ((code ≡ 102) × IsColumn rows values × (set < rows) × ¬ (IsReadIn set values))
