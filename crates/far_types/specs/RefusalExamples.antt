-- Worked examples: which edits a small table refuses, and why. Each is computed, so a wrong definition fails.
use Rattle.std.specs.Prelude.{◌≡◌, ℕ, ℤ, pos, [], ◌∷◌, None, Some, replicate}
use Rattle.far_types.specs.declared.cell.Cell.TheVariants as cell
use Rattle.far_types.specs.declared.cell.Kind.TheVariants as kind
use Rattle.far_types.specs.declared.edit.Edit.{Edit}
use Rattle.far_types.specs.declared.edit.Edit.TheVariants as edit
use Rattle.far_types.specs.declared.refusal.Refusal.TheVariants as refusal
use Rattle.far_types.specs.Table.{Table, empty_table, rows_of}
use Rattle.far_types.specs.Edits.{after_edit, edit_refusal}
use Rattle.far_types.specs.Examples.{a}

-- a table of numbers with space for 2 places and 3 edits
abbrev pub small : Table
small = empty_table (kind.Int ∷ []) (record {
  group = 4;
  places = 2;
  edits = 3;
  int_segments = 1;
  int_size = 4;
  text_segments = 1;
  text_size = 64;
})

-- an insert of a number
abbrev pub number : ℤ → Edit
number n = edit.Insert (cell.Int n ∷ [])

-- all places are used, and one more edit is allowed
abbrev pub full : Table
full = after_edit (number (pos 2)) (after_edit (number (pos 1)) small)

-- a full table refuses a row, accepts a cell equal to the old one, and then refuses further edits
abbrev pub UsedUp : Type 0
UsedUp =
    (edit_refusal full (number (pos 3)) ≡ Some refusal.TableFull)
    × (edit_refusal full (edit.Set 0 0 (cell.Int (pos 1))) ≡ None)
    × (edit_refusal (after_edit (edit.Set 0 0 (cell.Int (pos 1))) full)
    (edit.Set 0 0 (cell.Int (pos 1)))
    ≡ Some refusal.EditsUsedUp)
    × (rows_of (after_edit (edit.Remove 1) full).places ≡ (cell.Int (pos 1) ∷ []) ∷ [])

-- the order of refusals: kinds before the width, the column before the place, the place before its flag
abbrev pub FirstRefusal : Type 0
FirstRefusal =
    (edit_refusal small (edit.Insert (cell.Text a ∷ cell.Int (pos 2) ∷ []))
    ≡ Some refusal.WrongKind)
    × (edit_refusal small (edit.Insert (cell.Int (pos 1) ∷ cell.Int (pos 2) ∷ []))
    ≡ Some refusal.RowWidth)
    × (edit_refusal small (edit.Set 0 7 (cell.Int (pos 1))) ≡ Some refusal.NoColumn)
    × (edit_refusal small (edit.Set 0 0 (cell.Int (pos 1))) ≡ Some refusal.NoRow)
    × (edit_refusal (after_edit (edit.Remove 0) full) (edit.Remove 0) ≡ Some refusal.RemovedRow)

-- a table of one text column, whose objects may have 64 bytes: a head of 6, 4 for the end of each text, and the texts
abbrev pub texts : Table
texts = empty_table (kind.Text ∷ []) (record {
  group = 4;
  places = 100;
  edits = 100;
  int_segments = 4;
  int_size = 4;
  text_segments = 2;
  text_size = 64;
})

-- an insert of a text of so many letters
abbrev pub text_of : ℕ → Edit
text_of n = edit.Insert (cell.Text (replicate n 97) ∷ [])

-- a text of 54 bytes fits, and one of 55 does not. After 54 bytes not even an empty text fits. A missing text needs one byte more, the mask
abbrev pub OverLength : Type 0
OverLength =
    (edit_refusal texts (text_of 54) ≡ None)
    × (edit_refusal texts (text_of 55) ≡ Some refusal.ChunkFull)
    × (edit_refusal (after_edit (text_of 54) texts) (text_of 0) ≡ Some refusal.ChunkFull)
    × (edit_refusal (after_edit (text_of 50) texts) (text_of 0) ≡ None)
    × (edit_refusal (after_edit (text_of 50) texts) (edit.Insert (cell.Missing ∷ []))
    ≡ Some refusal.ChunkFull)
