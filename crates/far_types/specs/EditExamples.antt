-- Worked examples of what edits do, of how long text objects may grow, of the order of refusals, and of row groups.
use Rattle.std.specs.Prelude.{◌≡◌, ℕ, ℤ, pos, true, false, [], ◌∷◌, map, None, Some, codes, replicate}
use Rattle.far_types.specs.declared.cell.Cell.{Cell}
use Rattle.far_types.specs.declared.cell.Cell.TheVariants as cell
use Rattle.far_types.specs.declared.cell.Kind.TheVariants as kind
use Rattle.far_types.specs.declared.edit.Edit.{Edit}
use Rattle.far_types.specs.declared.edit.Edit.TheVariants as edit
use Rattle.far_types.specs.declared.refusal.Refusal.TheVariants as refusal
use Rattle.far_types.specs.Table.{Table, empty_table, rows_of, part, in_group, groups, is_pending, left}
use Rattle.far_types.specs.Edits.{after_edit, edit_refusal}
use Rattle.far_types.specs.Examples.{row, a, b}

-- an empty table with a column of numbers and a text column, in row groups of this size; a text object may have 64 bytes
abbrev pub in_groups_of : ℕ → Table
in_groups_of size = empty_table (kind.Int ∷ kind.Text ∷ []) (record {
  group = size;
  places = 9;
  edits = 9;
  int_segments = 1;
  int_size = 4;
  text_segments = 2;
  text_size = 64;
})

-- an insert of a number and a text of so many letters
abbrev pub letters : ℤ → ℕ → Edit
letters number count = edit.Insert (row number (replicate count 97))

-- the rows 5 a, 6 b, 7 a
abbrev pub three : Table
three = after_edit (edit.Insert (row (pos 7) a)) (after_edit (edit.Insert (row (pos 6) b))
    (after_edit (edit.Insert (row (pos 5) a)) (in_groups_of 4)))

-- a set replaces one cell of one place, and a removed row's cells stay in the columns
abbrev pub WhatEditsDo : Type 0
WhatEditsDo =
    (rows_of (after_edit (edit.Set 1 0 cell.Missing) three).places
    ≡ row (pos 5) a ∷ (cell.Missing ∷ cell.Text b ∷ []) ∷ row (pos 7) a ∷ [])
    × (rows_of (after_edit (edit.Remove 1) three).places
    ≡ row (pos 5) a ∷ row (pos 7) a ∷ [])
    × (part 0 1 3 (after_edit (edit.Remove 1) three).places
    ≡ cell.Int (pos 6) ∷ cell.Int (pos 7) ∷ [])
    × ((after_edit (edit.Remove 1) three).edits ≡ 4)

-- a row of 54 letters, whose text object has exactly 64 bytes
abbrev pub one_text : Table
one_text = after_edit (letters (pos 1) 54) (in_groups_of 4)

-- the text b in place of the 54 letters, and then a row with the text c. In a third row 44 letters fit, and 45 do not
abbrev pub two_texts : Table
two_texts = after_edit (edit.Insert (row (pos 2) (codes "c")))
    (after_edit (edit.Set 0 1 (cell.Text b)) one_text)

-- the same 54 letters in a row group of one place
abbrev pub one_alone : Table
one_alone = after_edit (letters (pos 1) 54) (in_groups_of 1)

-- a set may make an object too long, but only in a text column. A removed text keeps its bytes. Each row group has its own text object.
-- A text may be too long for any object
abbrev pub SpaceForTexts : Type 0
SpaceForTexts =
    (edit_refusal two_texts (letters (pos 3) 45) ≡ Some refusal.ChunkFull)
    × (edit_refusal two_texts (letters (pos 3) 44) ≡ None)
    × (edit_refusal one_text (edit.Set 0 1 (cell.Text (replicate 55 97)))
    ≡ Some refusal.ChunkFull)
    × (edit_refusal one_text (edit.Set 0 0 cell.Missing) ≡ None)
    × (edit_refusal (after_edit (edit.Remove 0) one_text) (letters (pos 2) 0)
    ≡ Some refusal.ChunkFull)
    × (edit_refusal one_alone (letters (pos 2) 54) ≡ None)
    × (edit_refusal one_alone (letters (pos 2) 55) ≡ Some refusal.ChunkFull)
    × (edit_refusal (after_edit (letters (pos 2) 1) one_alone)
    (edit.Set 1 1 (cell.Text (replicate 55 97)))
    ≡ Some refusal.ChunkFull)
    × (edit_refusal one_text (letters (pos 2) 4096) ≡ Some refusal.ChunkFull)
    × (edit_refusal one_text (letters (pos 2) 4097) ≡ Some refusal.TextTooLong)

-- a table of one place with a row of 54 letters, which allows so many edits
abbrev pub with_edits : ℕ → Table
with_edits edits = after_edit (letters (pos 1) 54) (empty_table (kind.Int ∷ kind.Text ∷ [])
    (record {
      group = 4;
      places = 1;
      edits = edits;
      int_segments = 1;
      int_size = 4;
      text_segments = 2;
      text_size = 64;
    }))

-- the row is removed, and no further place or edit is allowed: each refusal applies to some edit
abbrev pub used_up : Table
used_up = after_edit (edit.Remove 0) (with_edits 2)

-- a text that is too long for a cell
abbrev pub long : Cell
long = cell.Text (replicate 4097 97)

-- of all refusals that apply to an edit, the table returns the first in their order
abbrev pub OrderOfRefusals : Type 0
OrderOfRefusals =
    (edit_refusal used_up (edit.Insert (long ∷ long ∷ long ∷ [])) ≡ Some refusal.WrongKind)
    × (edit_refusal used_up (edit.Insert (cell.Missing ∷ long ∷ long ∷ []))
    ≡ Some refusal.RowWidth)
    × (edit_refusal used_up (edit.Insert (cell.Missing ∷ long ∷ []))
    ≡ Some refusal.TextTooLong)
    × (edit_refusal used_up (letters (pos 2) 55) ≡ Some refusal.TableFull)
    × (edit_refusal used_up (edit.Set 0 2 long) ≡ Some refusal.NoColumn)
    × (edit_refusal used_up (edit.Set 0 0 long) ≡ Some refusal.WrongKind)
    × (edit_refusal used_up (edit.Set 0 1 long) ≡ Some refusal.TextTooLong)
    × (edit_refusal used_up (edit.Set 1 1 (cell.Text b)) ≡ Some refusal.NoRow)
    × (edit_refusal used_up (edit.Set 0 1 (cell.Text (replicate 55 97)))
    ≡ Some refusal.RemovedRow)
    × (edit_refusal used_up (edit.Remove 1) ≡ Some refusal.NoRow)
    × (edit_refusal used_up (edit.Remove 0) ≡ Some refusal.RemovedRow)
    × (edit_refusal (with_edits 1) (edit.Set 0 1 (cell.Text (replicate 55 97)))
    ≡ Some refusal.ChunkFull)
    × (edit_refusal (with_edits 1) (edit.Set 0 1 (cell.Text b)) ≡ Some refusal.EditsUsedUp)
    × (edit_refusal (with_edits 1) (edit.Remove 0) ≡ Some refusal.EditsUsedUp)

-- five places in row groups of 4: the second group has the fifth place, and there is no third group
abbrev pub RowGroups : Type 0
RowGroups =
    (map (groups 4) (0 ∷ 1 ∷ 4 ∷ 5 ∷ []) ≡ 0 ∷ 1 ∷ 1 ∷ 2 ∷ [])
    × (map (λ g. in_group 4 g (codes "abcde")) (0 ∷ 1 ∷ 2 ∷ [])
    ≡ codes "abcd" ∷ codes "e" ∷ [] ∷ [])
    × (map (is_pending (true ∷ false ∷ true ∷ [])) (0 ∷ 1 ∷ 2 ∷ 3 ∷ [])
    ≡ true ∷ false ∷ true ∷ false ∷ [])
    × (left (true ∷ false ∷ true ∷ []) ≡ 2)
