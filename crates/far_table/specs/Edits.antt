-- Why an edit of rows over objects is refused, and its effect.
use Rattle.std.specs.Prelude.{◌≡◌, ℕ, ◌+◌, ◌/◌, ◌==◌, ◌&&◌, not, Bool, false, List, [], ◌∷◌, ◌++◌, map, length, Option, None, Some, option_map, slice_get, slice_set}
use Rattle.far_types.specs.declared.edit.Edit.{Edit}
use Rattle.far_types.specs.declared.edit.Edit.TheVariants as edit
use Rattle.far_types.specs.declared.refusal.Refusal.{Refusal}
use Rattle.far_types.specs.declared.refusal.Refusal.TheVariants as refusal
use Rattle.far_types.specs.Bounds.{is_text}
use Rattle.far_types.specs.Edits.{edit_faults, overfills, text_object_length, places_after}
use Rattle.far_types.specs.FirstOf.{first_of}
use Rattle.far_log.specs.RegionState.{fits_in}
use Rattle.far_rows.specs.declared.new_cell.NewCell.{NewCell}
use Rattle.far_rows.specs.ColumnIndexes.{kind_of, row_of}
use Rattle.far_rows.specs.Refusing.{absents, no_space_for_texts, no_space_for_numbers, push_refusal}
use Rattle.far_rows.specs.Effects.{IsPushed, IsSet}
use Rattle.far_rows.specs.Setting.{cell_of, kind_in, set_refusal}
use Rattle.far_table.specs.State.{LiveState}
use Rattle.far_table.specs.TableRows.{TableRows, asked}

module _ {K : Type 0} (s : LiveState K) where
  -- the row group that an edit writes
  abbrev pub group_of : Edit → ℕ
  group_of (edit.Insert row) = length s.table.places / s.table.limits.group
  group_of (edit.Set p c cell) = p / s.table.limits.group
  group_of (edit.Remove p) = p / s.table.limits.group

  -- the length of the text object of a column that the edit writes
  abbrev pub length_after : Edit → ℕ → ℕ
  length_after e column = text_object_length s.table.limits column (group_of e)
      (places_after e s.table.places)

  -- the edit's new cells do not fit into the free space. An insert places the texts of all columns and then, if a row group begins,
  -- numbers. A set places its text
  abbrev pub no_space : Edit → List (Bool × Refusal)
  no_space (edit.Insert row) = no_space_for_texts s.rows
      (map (λ c. length_after (edit.Insert row) c.column) s.rows.texts)
      ∷ no_space_for_numbers s.rows ∷ []
  no_space (edit.Set p c cell) = (
    is_text (slice_get s.table.schema c)
        && not (fits_in s.rows.text_objects.memory.state (length_after (edit.Set p c cell) c)),
    refusal.RegionFull,
  ) ∷ []
  no_space (edit.Remove p) = []

  -- why an edit without a fault of its own may be refused: the object of some column is away, a text object would be too long, there is
  -- no space, or the table has reached its limit of edits
  abbrev pub obstacles : Edit → List (Bool × Refusal)
  obstacles e = absents s.rows (group_of e)
      ++ ((overfills s.table.schema s.table.limits e s.table.places, refusal.ChunkFull)
      ∷ (no_space e ++ (s.table.edits == s.table.limits.edits, refusal.EditsUsedUp) ∷ []))

  -- why an edit is refused, except for lack of memory: the first refusal that applies
  abbrev pub edit_due : Edit → Option Refusal
  edit_due e = first_of (edit_faults s.table.schema s.table.limits s.table.places e ++ obstacles e)

module _ {K : Type 0} (old new : TableRows K) where
  -- the edit is made: the places are those of the plain table, and the edit counts. The loaded row is unchanged
  pub record IsMade (e : Edit) : Type 0 where
    pub schema : new.schema ≡ old.schema
    pub limits : new.limits ≡ old.limits
    pub places : new.places ≡ places_after e old.places
    pub edits : new.edits ≡ old.edits + 1
    pub new_row : new.new_row ≡ old.new_row

module _ {K : Type 0} (content : K → List ℕ) where
  -- the loaded row may be appended: nothing refuses it, and neither do its objects
  pub record MayPush (t : TableRows K) : Type 0 where
    pub due : edit_due (asked t) (edit.Insert (row_of t.held.column_indexes t.new_row)) ≡ None
    pub objects : push_refusal content t.held t.new_row ≡ None

  -- a value may be written to a column of a place
  pub record MayPut (t : TableRows K) (column place : ℕ) (value : NewCell) : Type 0 where
    pub of_kind : option_map kind_of (slice_get t.held.column_indexes column) ≡ Some (kind_in value)
    pub due : edit_due (asked t) (edit.Set place column (cell_of value)) ≡ None
    pub objects : set_refusal content t.held column place value ≡ None

  module _ (old new : TableRows K) where
    -- the loaded row is appended
    pub record IsAppended : Type 0 where
      pub made : IsMade old new (edit.Insert (row_of old.held.column_indexes old.new_row))
      pub held : IsPushed content old.held old.new_row new.held

    -- a value is written to a column of a place; the same objects are away
    pub record IsPut (column place : ℕ) (value : NewCell) : Type 0 where
      pub made : IsMade old new (edit.Set place column (cell_of value))
      pub held : IsSet content old.held column place value new.held
      pub here : (g : ℕ) → absents new.held g ≡ absents old.held g

-- a place is marked as dead
pub record IsCleared {K : Type 0} (old new : TableRows K) (place : ℕ) : Type 0 where
  pub made : IsMade old new (edit.Remove place)
  pub held : new.held ≡ record old.held { alive = slice_set old.held.alive place false }
