-- Why an edit of a table over objects is refused, in terms of the plain list.
use Rattle.std.specs.Prelude.{◌≡◌, ◌⊎◌, [], ◌∷◌, None, Some}
use Rattle.far_types.specs.declared.edit.Edit.{Edit}
use Rattle.far_types.specs.declared.refusal.Refusal.{Refusal}
use Rattle.far_types.specs.declared.refusal.Refusal.TheVariants as refusal
use Rattle.far_types.specs.Edits.{edit_faults, edit_refusal}
use Rattle.far_types.specs.FirstOf.{first_of}
use Rattle.far_types.specs.Table.{Table}
use Rattle.far_frame.specs.Jobs.{IsOneOf}

-- the refusals that the plain list does not have: an object is away, or there is no space
abbrev pub IsOfObjects : Refusal → Type 0
IsOfObjects given = IsOneOf (16 ∷ 17 ∷ []) given

-- the plain list refuses the edit for the same reason; or the edit has no fault of its own, and its objects prevent it; or the
-- plain list accepts it, and memory ran out
abbrev pub IsPlainRefusal : Table → Edit → Refusal → Type 0
IsPlainRefusal table e given = (edit_refusal table e ≡ Some given)
    ⊎ (((first_of (edit_faults table.schema table.limits table.places e) ≡ None)
    × IsOfObjects given)
    ⊎ ((edit_refusal table e ≡ None) × (given ≡ refusal.NoMemory)))
