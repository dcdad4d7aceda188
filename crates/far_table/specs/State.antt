-- A table over objects, with its aggregates.
use Rattle.std.specs.Prelude.{◌≡◌, List, Option, None, Some}
use Rattle.std.specs.List.{AllByRecursion}
use Rattle.far_types.specs.declared.cell.Kind.{Kind}
use Rattle.far_types.specs.Bounds.{spec_refusal}
use Rattle.far_types.specs.Table.{Table, Registered}
use Rattle.far_rows.specs.Rows.{Rows}

-- all that an edit or a question can see or change: the plain table, and the rows over objects that hold its places
pub record LiveState (K : Type 0) : Type 0 where
  pub table : Table
  pub rows : Rows K

-- a registered aggregate is valid for the schema
abbrev pub IsChecked : List Kind → Option Registered → Type 0
IsChecked schema None = Unit {0}
IsChecked schema (Some aggregate) = spec_refusal schema aggregate.spec ≡ None

-- each registered aggregate is valid for the schema
abbrev pub AreChecked : List Kind → List (Option Registered) → Type 0
AreChecked schema aggregates = AllByRecursion (IsChecked schema) aggregates
