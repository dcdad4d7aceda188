-- The deltas that an edit applied and the pairs that it is to retract: the deltas are undone, or the pairs are retracted.
use Rattle.std.specs.Prelude.{◌≡◌, ℕ, ◌≤◌, ◌/◌, ◌^◌, List, length, Some, slice_get}
use Rattle.far_types.specs.declared.cell.Cell.{Cell}
use Rattle.far_types.specs.declared.edit.Edit.{Edit}
use Rattle.far_types.specs.Cells.{Cells, cells_of}
use Rattle.far_types.specs.Edits.{places_after}
use Rattle.far_types.specs.Table.{Place, in_group}
use Rattle.far_aggregates.specs.declared.pending.Pending.{Pending}
use Rattle.far_aggregates.specs.Accumulators.{RegistryEntry, PlacesFit, Keeps}
use Rattle.far_aggregates.specs.Pairs.{alive_with}
use Rattle.far_aggregates.specs.Deltas.{undo, EachMayUndo}
use Rattle.far_aggregates.specs.Retract.{after_retract, EachMayRetract}
use Rattle.far_aggregates.specs.Until.{zip_all}

-- the aggregates are up to date for these places, of which there are at most 2^24, and whose numbers fit 64 bits
pub record AreUpToDate (size : ℕ) (places : List Place)
    (registry : List RegistryEntry) : Type 0 where
  pub kept : Keeps size places registry
  pub few : length places ≤ 2 ^ 24
  pub fit : PlacesFit places

-- the aggregates stay up to date for any places for which they were
abbrev pub KeepsAsBefore : List RegistryEntry → List RegistryEntry → Type 0
KeepsAsBefore old new = (size : ℕ) (places : List Place)
    → Keeps size places old
    → Keeps size places new

-- a place is alive, and its row has these cells
abbrev pub IsAliveAt : Cells → ℕ → List Place → Type 0
IsAliveAt cells place places = (row : List Cell) × (cells ≡ cells_of row)
    × (slice_get places place ≡ Some (alive_with row))

-- the deltas can be undone
pub record MayUndoAll (registry : List RegistryEntry) (pending : Pending) : Type 0 where
  pub len : length pending.applied.items ≤ length registry
  pub may : EachMayUndo pending.group (length registry) registry pending.applied.items

-- the aggregates without the deltas
abbrev pub after_undo_all : List RegistryEntry → Pending → List RegistryEntry
after_undo_all registry pending = zip_all (undo pending.group) registry pending.applied.items

-- the deltas can be undone. Then the aggregates are up to date for any places for which they were before
pub record UndoesAll (old new : List RegistryEntry) (pending : Pending) : Type 0 where
  pub may : MayUndoAll new pending
  pub kept : KeepsAsBefore old (after_undo_all new pending)

-- the pairs can be retracted, if these are the places of the row group
pub record MayRetractAll (here : List Place) (registry : List RegistryEntry)
    (pending : Pending) : Type 0 where
  pub len : length pending.to_retract.items ≤ length registry
  pub may : EachMayRetract pending.group here registry pending.to_retract.items

-- the aggregates without the pairs to retract
abbrev pub after_retract_all : List Place → List RegistryEntry → Pending → List RegistryEntry
after_retract_all here registry pending = zip_all (after_retract pending.group here) registry
    pending.to_retract.items

-- if these are the places after the edit of a row group, the pairs can be retracted. Then the aggregates are up to date for
-- these places
pub record RetractsAll (size g : ℕ) (places : List Place) (registry : List RegistryEntry)
    (pending : Pending) : Type 0 where
  pub at : pending.group ≡ g
  pub may : MayRetractAll (in_group size g places) registry pending
  pub kept : Keeps size places (after_retract_all (in_group size g places) registry pending)

-- once an edit has changed a place's row, which had these cells, the old pairs of the row can be retracted. The aggregates must be
-- up to date before the edit, and the numbers must fit 64 bits after it
abbrev pub RetractsOnce : Edit → ℕ → ℕ → Cells → List RegistryEntry
    → List RegistryEntry → Pending → Type 0
RetractsOnce e size place cells old new pending = (places : List Place)
    → IsAliveAt cells place places
    → AreUpToDate size places old
    → PlacesFit (places_after e places)
    → RetractsAll size (place / size) (places_after e places) new pending
