-- The columns that a row group lends, and the columns that an aggregate needs.
use Rattle.std.specs.Prelude.{◌≡◌, ℕ, ◌≤◌, Bool, true, List, length, Option, None, Some, slice_get}
use Rattle.std.specs.List.{AllByRecursion}
use Rattle.far_types.specs.declared.cell.Cell.{Cell}
use Rattle.far_types.specs.declared.spec.Spec.{Spec}
use Rattle.far_types.specs.Bounds.{needs}
use Rattle.far_types.specs.Cells.{cells_of}
use Rattle.far_types.specs.Table.{Place, Registered}
use Rattle.far_offload.specs.Columns.{cell_of}

-- a column that begins with the cells of these places, and may have more cells after them
abbrev pub IsOfPlaces : List Place → ℕ × List Cell → Type 0
IsOfPlaces here column = (i : ℕ) (place : Place)
    → slice_get here i ≡ Some place
    → Some (cell_of i column) ≡ cells_of place.cells column.0

-- the column with a number; without a number, any column with the number `other`
abbrev pub IsLent : List Place → ℕ → Option ℕ → ℕ × List Cell → Type 0
IsLent here other None column = column.0 ≡ other
IsLent here other (Some number) column = (column.0 ≡ number) × IsOfPlaces here column

-- an aggregate has at most 4 tests, as a table registers it, and all columns that it needs are available
pub record IsServed (has : ℕ → Bool) (spec : Spec) : Type 0 where
  pub tests : length spec.filter ≤ 4
  pub at_hand : (c : ℕ) → needs spec c ≡ true → has c ≡ true

-- the aggregate of a registry entry is served, if there is one
abbrev pub EntryIsServed : (ℕ → Bool) → Option Registered → Type 0
EntryIsServed has None = Unit {0}
EntryIsServed has (Some aggregate) = IsServed has aggregate.spec

-- the aggregate of each registry entry is served, if there is one
abbrev pub AreServed : (ℕ → Bool) → List (Option Registered) → Type 0
AreServed has aggregates = AllByRecursion (EntryIsServed has) aggregates
