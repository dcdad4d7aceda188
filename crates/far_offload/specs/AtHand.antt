-- Available columns that have the cells of places of the plain table.
use Rattle.std.specs.Prelude.{◌≡◌, ℕ, true, List, Some, slice_get}
use Rattle.far_types.specs.declared.spec.Spec.{Spec}
use Rattle.far_types.specs.Bounds.{needs}
use Rattle.far_types.specs.Cells.{cells_of}
use Rattle.far_types.specs.Table.{Place}
use Rattle.far_offload.specs.Columns.{Columns, cells_at}

-- each column that the aggregate needs begins with the cells of these places, and may have more cells after them
abbrev pub AreAtHand : Spec → Columns → List Place → Type 0
AreAtHand spec columns places = (c i : ℕ) (place : Place)
    → needs spec c ≡ true
    → slice_get places i ≡ Some place
    → cells_at columns i c ≡ cells_of place.cells c
