-- Parts of columns as C receives them.
use Rattle.std.specs.Prelude.{◌≡◌, ◌+◌, ◌-◌, ◌<◌, ◌⊎◌, ℕ, ℤ, pos, Bool, true, false, List, [], ◌∷◌, map, take, length, Option, slice_range, unwrap_or}
use Rattle.std.specs.List.{flat_map}
use Rattle.far_types.specs.declared.cell.Cell.{Cell}
use Rattle.far_types.specs.declared.cell.Cell.TheVariants as cell
use Rattle.far_types.specs.Table.{Place, part}
use Rattle.far_types.specs.Lent.{text_cell}
use Rattle.far_frame.specs.declared.step.Reply.{Reply}
use Rattle.far_frame.specs.declared.step.Step.TheVariants as step
use Rattle.far_frame.specs.Lending.{flags_of}
use Rattle.far_c.specs.Outcomes.{IsAccepted, IsServed, IsUnfit}
use Rattle.far_c.specs.TableState.{TableState}

-- the number of a cell, or 0 if it has none
abbrev pub number_or_zero : Cell → ℤ
number_or_zero (cell.Int number) = number
number_or_zero (cell.Text text) = pos 0
number_or_zero cell.Missing = pos 0

-- whether a cell has a value
abbrev pub has_value : Cell → Bool
has_value (cell.Int number) = true
has_value (cell.Text text) = true
has_value cell.Missing = false

-- the numbers of a part of a column
abbrev pub values_of : List Place → ℕ → ℕ → ℕ → List ℤ
values_of places column from to = map number_or_zero (part column from to places)

-- whether each of its places has a value
abbrev pub valid_of : List Place → ℕ → ℕ → ℕ → List Bool
valid_of places column from to = map has_value (part column from to places)

-- whether each of its places is alive
abbrev pub alive_of : List Place → ℕ → ℕ → List Bool
alive_of places from to = slice_range (flags_of places) from to

-- the numbers of lent pieces, one after another
abbrev pub numbers_in : List (List (Option ℤ) × List Bool) → List (Option ℤ)
numbers_in pieces = flat_map (λ piece. piece.0) pieces

-- the flags of their places
abbrev pub flags_in : List (List (Option ℤ) × List Bool) → List Bool
flags_in pieces = flat_map (λ piece. piece.1) pieces

-- a number, or 0 for a missing one
abbrev pub or_zero : Option ℤ → ℤ
or_zero number = unwrap_or number (pos 0)

-- the step that lends a part of a column is served: the accesses to its row groups are recorded
abbrev pub IsPartLent : ℕ → ℕ → ℕ → TableState → TableState → Type 0
IsPartLent column from to old new = (given : Reply) × IsAccepted given
    × IsServed (step.Lend column from to) given old new

-- buffers of these lengths have the length of a part of numbers
abbrev pub FitNumbers : ℕ → ℕ → ℕ → ℕ → ℕ → Type 0
FitNumbers from to values valid alive = (values ≡ to - from) × (valid ≡ to - from)
    × (alive ≡ to - from)

-- buffers of these lengths have the length of a part of texts, which has one more offset
abbrev pub FitTexts : ℕ → ℕ → ℕ → ℕ → ℕ → Type 0
FitTexts from to offsets valid alive = (offsets ≡ to - from + 1) × (valid ≡ to - from)
    × (alive ≡ to - from)

-- the bytes of a cell's text; none of any other cell
abbrev pub bytes_of : Cell → List ℕ
bytes_of (cell.Text text) = text
bytes_of (cell.Int number) = []
bytes_of cell.Missing = []

-- the texts of some cells, one after another
abbrev pub texts_of : List Cell → List ℕ
texts_of cells = flat_map bytes_of cells

-- the offsets at which the texts begin, if the first begins at this offset, and the end of the last
abbrev pub offsets_of : ℕ → List Cell → List ℕ
offsets_of at [] = at ∷ []
offsets_of at (c ∷ cells) = at ∷ offsets_of (at + length (bytes_of c)) cells

-- buffers have the texts of some cells: the offsets of the texts and the end of the last; their
-- bytes, at the beginning of the buffer of bytes; and whether each cell has a text
pub record AreTextsOf (cells : List Cell) (starts text : List ℕ) (flags : List Bool) : Type 0 where
  pub offsets : starts ≡ offsets_of 0 cells
  pub bytes : take (length (texts_of cells)) text ≡ texts_of cells
  pub valid : flags ≡ map has_value cells

-- a buffer of this length has no space for the texts of some cells
abbrev pub HasNoSpace : List Cell → ℕ → Type 0
HasNoSpace cells len = len < length (texts_of cells)

-- a part of texts is not copied: the buffers do not fit, or the buffer of bytes lacks space
abbrev pub IsNotCopied : Type 0 → ℕ → ℕ → ℕ → ℕ → TableState → ℕ → Type 0
IsNotCopied fits column from to len table code = IsUnfit fits table code
    ⊎ ((code ≡ 105) × HasNoSpace (part column from to table.world.state.table.places) len)

-- lent texts as cells
abbrev pub cells_in : List (Option (List ℕ) × Bool) → List Cell
cells_in texts = map (λ text. text_cell text.0) texts
