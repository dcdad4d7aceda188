-- How a number in a column is replaced by another number, if each pair of its row stays under its key.
use Rattle.std.specs.Prelude.{◌≡◌, ◌==◌, ◌≤◌, ℕ, ℤ, Bool, true, false, not, ◌&&◌, ◌||◌, cond, List, length, None, Some, slice_get}
use Rattle.std.specs.List.{list_any, list_all}
use Rattle.std.specs.Option.{option_map_or}
use Rattle.std.specs.FinMap as fin
use Rattle.far_types.specs.declared.cell.Cell.TheVariants as cell
use Rattle.far_types.specs.declared.edit.Edit.TheVariants as edit
use Rattle.far_types.specs.declared.spec.Spec.{Spec}
use Rattle.far_types.specs.Bounds.{column_of, needs}
use Rattle.far_types.specs.Edits.{places_after}
use Rattle.far_types.specs.Pairs.{Pair}
use Rattle.far_types.specs.Table.{Place}
use Rattle.far_groups.specs.Live.{CanRetract, with_replaced}
use Rattle.far_aggregates.specs.declared.aggregate.Accumulator.{Accumulator}
use Rattle.far_aggregates.specs.declared.aggregate.Accumulator.TheVariants as accumulator
use Rattle.far_aggregates.specs.declared.pending.Pending.{Pending}
use Rattle.far_aggregates.specs.Accumulators.{RegistryEntry, Change, Keeps}
use Rattle.far_aggregates.specs.Pairs.{ChangeBySpec, change_of}
use Rattle.far_aggregates.specs.Until.{zip_all}

-- whether a registry entry uses a column
abbrev pub looks_at : ℕ → RegistryEntry → Bool
looks_at column None = false
looks_at column (Some a) = needs a.spec column

-- whether a test or the key of an aggregate uses a column
abbrev pub selects_by : ℕ → Spec → Bool
selects_by column spec = list_any (λ test. column_of test == column) spec.filter
    || option_map_or (λ key. key == column) spec.key false

-- whether an accumulator computes totals
abbrev pub is_of_totals : Accumulator → Bool
is_of_totals (accumulator.Totals live) = true
is_of_totals (accumulator.Extrema live) = false

-- whether a registry entry uses a column only for the values of totals, or not at all
abbrev pub keeps_key : ℕ → RegistryEntry → Bool
keeps_key column None = true
keeps_key column (Some a) = not (selects_by column a.spec)
    && (is_of_totals a.accumulator || not (a.spec.value == column))

-- whether each registry entry uses a column only for the values of totals, or not at all
abbrev pub keeps_keys : ℕ → List RegistryEntry → Bool
keeps_keys column registry = list_all (keeps_key column) registry

-- the pair that a row of place i contributes to a registry entry whose values are in a column
abbrev pub value_of : ℕ → ℕ → ℕ → ChangeBySpec → RegistryEntry → Change
value_of column size i gives None = None
value_of column size i gives (Some a) = cond (a.spec.value == column)
    (change_of size i gives (Some a)) None

-- an accumulator whose totals have another number in place of a pair's value
abbrev pub accumulator_with : ℤ → Accumulator → Pair → Accumulator
accumulator_with to (accumulator.Totals live) pair = accumulator.Totals
    (record live { totals = with_replaced live.totals pair.0 pair.1 to })
accumulator_with to (accumulator.Extrema live) pair = accumulator.Extrema live

-- an entry of the registry with the value of its pair replaced, if it has an aggregate and a pair
abbrev pub after_replace : ℤ → RegistryEntry → Change → RegistryEntry
after_replace to None change = None
after_replace to (Some a) None = Some a
after_replace to (Some a) (Some pair) = Some
    (record a { accumulator = accumulator_with to a.accumulator pair })

-- the value of a pair may be replaced: it is in totals
abbrev pub AccumulatorMayReplace : Accumulator → Pair → Type 0
AccumulatorMayReplace (accumulator.Totals live) pair = CanRetract pair.1
    (fin.get live.totals pair.0)
AccumulatorMayReplace (accumulator.Extrema live) pair = ⊥

-- the value of an entry's pair may be replaced
abbrev pub MayReplace : RegistryEntry → Change → Type 0
MayReplace None change = Unit {0}
MayReplace (Some a) None = Unit {0}
MayReplace (Some a) (Some pair) = AccumulatorMayReplace a.accumulator pair

-- the value of each entry's pair may be replaced
abbrev pub EachMayReplace : List RegistryEntry → List Change → Type 0
EachMayReplace registry pairs = (k : ℕ) (s : RegistryEntry) (c : Change)
    → slice_get registry k ≡ Some s
    → slice_get pairs k ≡ Some c
    → MayReplace s c

-- the values of the noted pairs may be replaced
pub record MayReplaceAll (registry : List RegistryEntry) (pending : Pending) : Type 0 where
  pub len : length pending.to_retract.items ≤ length registry
  pub may : EachMayReplace registry pending.to_retract.items

-- the aggregates with the values of the noted pairs replaced by a number
abbrev pub after_replace_all : ℤ → List RegistryEntry → Pending → List RegistryEntry
after_replace_all to registry pending = zip_all (after_replace to) registry pending.to_retract.items

-- the values of the noted pairs may be replaced by any number. Once the number is in the place's column too, the aggregates are up to
-- date
pub record ReplacesAll (size place column : ℕ) (places : List Place)
    (registry : List RegistryEntry) (pending : Pending) : Type 0 where
  pub may : MayReplaceAll registry pending
  pub kept : (to : ℤ)
      → Keeps size (places_after (edit.Set place column (cell.Int to)) places)
      (after_replace_all to registry pending)
