-- Values borrowed in place, as cells and pairs of the plain table.
use Rattle.std.specs.Prelude.{ℤ, ℕ, List, Option, None, Some}
use Rattle.far_types.specs.declared.cell.Cell.{Cell}
use Rattle.far_types.specs.declared.cell.Cell.TheVariants as cell
use Rattle.far_types.specs.declared.cell_ref.CellRef.{CellRef}
use Rattle.far_types.specs.declared.cell_ref.CellRef.TheVariants as lent
use Rattle.far_types.specs.declared.key.Key.{Key}
use Rattle.far_types.specs.declared.key.Key.TheVariants as key
use Rattle.far_types.specs.declared.pair_ref.PairRef.{PairRef}
use Rattle.far_types.specs.declared.pair_ref.PairRef.TheVariants as pairs
use Rattle.far_types.specs.Pairs.{Pair}

-- the cell of the plain table that is borrowed in place
abbrev pub lent_cell : CellRef → Cell
lent_cell (lent.Int number) = cell.Int number
lent_cell (lent.Text text) = cell.Text text.now
lent_cell lent.Missing = cell.Missing

-- the cell of a number that may be missing
abbrev pub int_cell : Option ℤ → Cell
int_cell (Some number) = cell.Int number
int_cell None = cell.Missing

-- the cell of a text that may be missing
abbrev pub text_cell : Option (List ℕ) → Cell
text_cell (Some text) = cell.Text text
text_cell None = cell.Missing

-- the key of a number, or nothing if there is no number
abbrev pub key_by : Option ℤ → Option Key
key_by None = None
key_by (Some number) = Some (key.Int number)

-- the pair of the plain table that is borrowed in place
abbrev pub lent_pair : PairRef → Option Pair
lent_pair pairs.Nothing = None
lent_pair (pairs.Under number value) = Some (key_by number, value)
lent_pair (pairs.UnderText text value) = Some (Some (key.Text text.now), value)
