-- Why an edit is refused, in terms of the plain table: its places, and the lengths of the text objects that the edit writes.
use Rattle.std.specs.Prelude.{ℕ, ◌/◌, not, Bool, false, List, [], ◌∷◌, ◌++◌, map, length, Option}
use Rattle.std.specs.Option.{option_map_or}
use Rattle.far_types.specs.declared.edit.Edit.{Edit}
use Rattle.far_types.specs.declared.edit.Edit.TheVariants as edit
use Rattle.far_types.specs.declared.limits.Limits.{Limits}
use Rattle.far_types.specs.declared.refusal.Refusal.{Refusal}
use Rattle.far_types.specs.declared.refusal.Refusal.TheVariants as refusal
use Rattle.far_types.specs.Edits.{overfills, text_object_length, places_after}
use Rattle.far_types.specs.FirstOf.{first_of}
use Rattle.far_log.specs.RegionState.{fits_in}
use Rattle.far_scopes.specs.Refusing.{written_out}
use Rattle.far_rows.specs.declared.object.Object.{Object}
use Rattle.far_rows.specs.declared.object.Object.TheVariants as object
use Rattle.far_rows.specs.declared.new_cell.NewCell.{NewCell}
use Rattle.far_rows.specs.ColumnIndexes.{Values, kind_of, row_of}
use Rattle.far_rows.specs.Rows.{Rows}
use Rattle.far_rows.specs.Refusing.{absents, append_tests}
use Rattle.far_rows.specs.Setting.{cell_of}
use Rattle.far_rows.specs.Moving.{object_at}
use Rattle.far_rows.specs.Places.{places_in, text_parts}

module _ {K : Type 0} (content : K → List ℕ) (limits : Limits) (r : Rows K) where
  -- a text object that the edit writes would be longer than its limit
  abbrev pub is_too_full : Edit → Bool
  is_too_full e = overfills (map kind_of r.column_indexes) limits e (places_in content r)

  -- why appending a row of these values is refused
  abbrev pub insert_refusal : Values → Option Refusal
  insert_refusal values =
      let e : Edit = edit.Insert (row_of r.column_indexes values)
      in first_of (append_tests r (is_too_full e)
      (text_parts content limits r e (length (places_in content r) / limits.group)))

  -- the form of the only text object that is written does not fit; a number needs no space
  abbrev pub no_space_alone : Edit → ℕ → ℕ → Object → Bool × Refusal
  no_space_alone e column g (object.Number o) = (false, refusal.RegionFull)
  no_space_alone e column g (object.Text o) = (
    not (fits_in r.text_objects.memory.state
        (text_object_length limits column g (places_after e (places_in content r)))),
    refusal.RegionFull,
  )

  -- the object was written as often as the limits allow
  abbrev pub writes_used : Object → Bool × Refusal
  writes_used (object.Number o) = written_out r.number_objects o
  writes_used (object.Text o) = written_out r.text_objects o

  -- why setting a cell is refused: an object of its row group is away, a text object would be too long, it does not fit, or the column's
  -- object was written too often
  abbrev pub cell_set_refusal : ℕ → ℕ → NewCell → Option Refusal
  cell_set_refusal column place value =
      let e : Edit = edit.Set place column (cell_of value)
      in let at : Option Object = object_at r column (place / r.size)
      in first_of (absents r (place / r.size)
      ++ (is_too_full e, refusal.ChunkFull)
      ∷ option_map_or (no_space_alone e column (place / limits.group)) at
      (false, refusal.StaleJob) ∷ option_map_or writes_used at (false, refusal.StaleJob) ∷ [])
