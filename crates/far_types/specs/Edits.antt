-- What an edit does to the plain table, and why it is refused.
use Rattle.std.specs.Prelude.{ℕ, zero, suc, ◌+◌, ◌/◌, ◌==◌, Bool, true, false, not, ◌&&◌, nat_lt, List, [], ◌∷◌, ◌++◌, map, length, Option, None, Some, slice_get, slice_set, is_none}
use Rattle.std.specs.List.{list_any, list_all, zip, enumerate_from}
use Rattle.far_types.specs.declared.cell.Cell.{Cell}
use Rattle.far_types.specs.declared.cell.Kind.{Kind}
use Rattle.far_types.specs.declared.limits.Limits.{Limits}
use Rattle.far_types.specs.declared.edit.Edit.{Edit}
use Rattle.far_types.specs.declared.edit.Edit.TheVariants as edit
use Rattle.far_types.specs.declared.refusal.Refusal.{Refusal}
use Rattle.far_types.specs.declared.refusal.Refusal.TheVariants as refusal
use Rattle.far_types.specs.FirstOf.{first_of}
use Rattle.far_types.specs.Cells.{is_of_kind, is_too_long, text_in}
use Rattle.far_types.specs.Bounds.{is_text}
use Rattle.far_types.specs.FormLengths.{texts_length}
use Rattle.far_types.specs.Table.{Place, Table, column, in_group}

-- whether the cells of a row have their columns' kinds: they are compared at the columns that both the schema and the row have
abbrev pub kinds_fit : List Kind → List Cell → Bool
kinds_fit schema row = list_all (λ (at : Kind × Cell). is_of_kind at.0 at.1) (zip schema row)

-- whether a cell is of another kind than its column. If there is no such column, another refusal applies
abbrev pub is_of_other_kind : Option Kind → Cell → Bool
is_of_other_kind None cell = false
is_of_other_kind (Some kind) cell = not (is_of_kind kind cell)

-- whether a place exists and is dead
abbrev pub is_dead : Option Place → Bool
is_dead None = false
is_dead (Some place) = not place.alive

-- how many bytes the text object of a column and a row group has: its far form has one text for each place, dead ones too
abbrev pub text_object_length : Limits → ℕ → ℕ → List Place → ℕ
text_object_length limits c g places = texts_length
    (map text_in (in_group limits.group g (column c places)))

-- a place with another cell in one column
abbrev pub with_cell : ℕ → Cell → Place → Place
with_cell c cell place = record place { cells = slice_set place.cells c cell }

-- a place after its removal: it keeps its cells
abbrev pub after_remove : Place → Place
after_remove place = record place { alive = false }

-- the places with one of them changed
abbrev pub change_at : (Place → Place) → ℕ → List Place → List Place
change_at change p [] = []
change_at change zero (place ∷ places) = change place ∷ places
change_at change (suc p) (place ∷ places) = place ∷ change_at change p places

-- the places after an accepted edit
abbrev pub places_after : Edit → List Place → List Place
places_after (edit.Insert row) places = places ++ record { cells = row; alive = true } ∷ []
places_after (edit.Set p c cell) places = change_at (with_cell c cell) p places
places_after (edit.Remove p) places = change_at after_remove p places

-- the table after an accepted edit; a Set to the old value counts as an edit too
abbrev pub after_edit : Edit → Table → Table
after_edit e table = record table { places = places_after e table.places; edits = table.edits + 1 }

-- whether a text object that the edit writes would be too long: an insert writes one in each text column, a set one at most
abbrev pub overfills : List Kind → Limits → Edit → List Place → Bool
overfills schema limits (edit.Insert row) places =
    list_any
    (λ (at : ℕ × Kind). is_text (Some at.1)
    && nat_lt limits.text_size (text_object_length limits at.0 (length places / limits.group)
    (places_after (edit.Insert row) places)))
    (enumerate_from 0 schema)
overfills schema limits (edit.Set p c cell) places =
    is_text (slice_get schema c)
    && nat_lt limits.text_size
    (text_object_length limits c (p / limits.group) (places_after (edit.Set p c cell) places))
overfills schema limits (edit.Remove p) places = false

-- the refusals of the edit itself, 4 to 10, whichever objects are local. A table whose objects move checks next that its objects are
-- local, before the other refusals
abbrev pub edit_faults : List Kind → Limits → List Place → Edit → List (Bool × Refusal)
edit_faults schema limits places (edit.Insert row) =
    (not (kinds_fit schema row), refusal.WrongKind)
    ∷ (not (length row == length schema), refusal.RowWidth)
    ∷ (list_any is_too_long row, refusal.TextTooLong)
    ∷ (length places == limits.places, refusal.TableFull)
    ∷ []
edit_faults schema limits places (edit.Set p c cell) =
    (is_none (slice_get schema c), refusal.NoColumn)
    ∷ (is_of_other_kind (slice_get schema c) cell, refusal.WrongKind)
    ∷ (is_too_long cell, refusal.TextTooLong)
    ∷ (is_none (slice_get places p), refusal.NoRow)
    ∷ (is_dead (slice_get places p), refusal.RemovedRow)
    ∷ []
edit_faults schema limits places (edit.Remove p) =
    (is_none (slice_get places p), refusal.NoRow)
    ∷ (is_dead (slice_get places p), refusal.RemovedRow)
    ∷ []

-- why the plain table refuses an edit: the first refusal that applies. All objects of the plain table are always local
abbrev pub edit_refusal : Table → Edit → Option Refusal
edit_refusal table e = first_of (edit_faults table.schema table.limits table.places e
    ++ (overfills table.schema table.limits e table.places, refusal.ChunkFull)
    ∷ (table.edits == table.limits.edits, refusal.EditsUsedUp)
    ∷ [])
