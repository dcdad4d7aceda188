-- How a delta is applied to an aggregate, and how it is undone.
use Rattle.std.specs.Prelude.{◌≡◌, ◌≢◌, ℕ, ℤ, ◌<◌, ◌^◌, ◌/◌, List, length, Option, None, Some, option_map, slice_get, slice_set}
use Rattle.std.specs.FinMap as fin
use Rattle.far_types.specs.declared.key.Key.{Key}
use Rattle.far_types.specs.Effects.{count_in, with_pair, without_pair, with_observed}
use Rattle.far_types.specs.Pairs.{Pair}
use Rattle.far_extrema.specs.Live.{group_at}
use Rattle.far_extrema.specs.MinMaxes.{put_min_max}
use Rattle.far_groups.specs.Live.{CanRetract}
use Rattle.far_aggregates.specs.declared.aggregate.Accumulator.{Accumulator}
use Rattle.far_aggregates.specs.declared.aggregate.Accumulator.TheVariants as accumulator
use Rattle.far_aggregates.specs.declared.deltas.Delta.{Delta}
use Rattle.far_aggregates.specs.Accumulators.{RegistryEntry}
use Rattle.far_aggregates.specs.Pairs.{ChangeBySpec, change_of, AccumulatorFolds}

-- the least and the greatest value under a key of a row group before a delta; `None` for totals
abbrev pub previous_in : ℕ → Option Key → Accumulator → Option (ℤ × ℤ)
previous_in g key (accumulator.Totals live) = None
previous_in g key (accumulator.Extrema live) = fin.get (group_at live.groups g) key

-- the delta of a pair, with the previous min-max of its key
abbrev pub delta_of : ℕ → Accumulator → Pair → Delta
delta_of g k pair = record { pair = pair; previous = previous_in g pair.0 k }

-- the delta of a row of place i to a registry entry
abbrev pub row_delta : ℕ → ℕ → ChangeBySpec → RegistryEntry → Option Delta
row_delta size i gives None = None
row_delta size i gives (Some a) = option_map (delta_of (i / size) a.accumulator)
    (change_of size i gives (Some a))

-- the delta of a pair to a registry entry
abbrev pub delta_in : ℕ → RegistryEntry → Pair → Option Delta
delta_in g None pair = None
delta_in g (Some a) pair = Some (delta_of g a.accumulator pair)

-- an accumulator with one more pair
abbrev pub accumulator_more : ℕ → Accumulator → Pair → Accumulator
accumulator_more g (accumulator.Totals live) pair = accumulator.Totals
    (record live { totals = with_pair live.totals pair })
accumulator_more g (accumulator.Extrema live) pair = accumulator.Extrema
    (record live { groups = slice_set live.groups g (with_observed (group_at live.groups g) pair) })

-- an entry of the registry with a delta applied, if it has an aggregate and a delta
abbrev pub with_delta : ℕ → RegistryEntry → Option Delta → RegistryEntry
with_delta g None delta = None
with_delta g (Some a) None = Some a
with_delta g (Some a) (Some delta) = Some
    (record a { accumulator = accumulator_more g a.accumulator delta.pair })

-- an accumulator with its last delta undone
abbrev pub accumulator_undo : ℕ → Accumulator → Delta → Accumulator
accumulator_undo g (accumulator.Totals live) delta = accumulator.Totals
    (record live { totals = without_pair live.totals delta.pair })
accumulator_undo g (accumulator.Extrema live) delta = accumulator.Extrema
    (record live {
      groups = slice_set live.groups g
          (put_min_max (group_at live.groups g) delta.pair.0 delta.previous);
    })

-- an entry of the registry with its last delta undone, if it has an aggregate and a delta
abbrev pub undo : ℕ → RegistryEntry → Option Delta → RegistryEntry
undo g None delta = None
undo g (Some a) None = Some a
undo g (Some a) (Some delta) = Some
    (record a { accumulator = accumulator_undo g a.accumulator delta })

-- a pair may be added: totals count fewer than 2^26 values under its key, and extrema are reserved for the row group
abbrev pub AccumulatorMayAdd : ℕ → Accumulator → Pair → Type 0
AccumulatorMayAdd g (accumulator.Totals live) pair = count_in (fin.get live.totals pair.0) < 2 ^ 26
AccumulatorMayAdd g (accumulator.Extrema live) pair = g < length live.groups

-- a delta may be undone: totals can retract its pair, and extrema have its key in the row group
abbrev pub AccumulatorMayUndo : ℕ → Accumulator → Pair → Type 0
AccumulatorMayUndo g (accumulator.Totals live) pair = CanRetract pair.1 (fin.get live.totals pair.0)
AccumulatorMayUndo g (accumulator.Extrema live) pair = (g < length live.groups)
    × (fin.get (group_at live.groups g) pair.0 ≢ None)

-- the delta of an entry may be undone
abbrev pub MayUndo : ℕ → RegistryEntry → Option Delta → Type 0
MayUndo g None delta = Unit {0}
MayUndo g (Some a) None = Unit {0}
MayUndo g (Some a) (Some delta) = AccumulatorMayUndo g a.accumulator delta.pair

-- the deltas of the first n entries may be undone
abbrev pub EachMayUndo : ℕ → ℕ → List RegistryEntry → List (Option Delta) → Type 0
EachMayUndo g n registry deltas = (k : ℕ) (s : RegistryEntry) (c : Option Delta)
    → k < n
    → slice_get registry k ≡ Some s
    → slice_get deltas k ≡ Some c
    → MayUndo g s c

-- a delta fits an accumulator: its pair may be added, and its previous min-max is the current min-max in extrema
abbrev pub AccumulatorFits : ℕ → Accumulator → Delta → Type 0
AccumulatorFits g (accumulator.Totals live) delta = AccumulatorFolds (accumulator.Totals live)
AccumulatorFits g (accumulator.Extrema live) delta = (g < length live.groups)
    × (delta.previous ≡ fin.get (group_at live.groups g) delta.pair.0)

-- the delta of an entry fits its accumulator
abbrev pub FitsEntry : ℕ → RegistryEntry → Option Delta → Type 0
FitsEntry g None delta = Unit {0}
FitsEntry g (Some a) None = Unit {0}
FitsEntry g (Some a) (Some delta) = AccumulatorFits g a.accumulator delta

-- each delta fits the accumulator of its entry
abbrev pub EachFits : ℕ → List RegistryEntry → List (Option Delta) → Type 0
EachFits g registry deltas = (k : ℕ) (s : RegistryEntry) (c : Option Delta)
    → slice_get registry k ≡ Some s
    → slice_get deltas k ≡ Some c
    → FitsEntry g s c
