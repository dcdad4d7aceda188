-- How a pair is retracted from an aggregate, once the rows of its row group no longer have it.
use Rattle.std.specs.Prelude.{◌≡◌, ℕ, List, None, Some, slice_get, slice_set}
use Rattle.std.specs.FinMap as fin
use Rattle.far_types.specs.declared.spec.Spec.{Spec}
use Rattle.far_types.specs.Answers.{extrema}
use Rattle.far_types.specs.Effects.{without_pair, min_max_with}
use Rattle.far_types.specs.Pairs.{Pair}
use Rattle.far_types.specs.Table.{Place}
use Rattle.far_extrema.specs.Live.{group_at}
use Rattle.far_extrema.specs.MinMaxes.{put_min_max}
use Rattle.far_groups.specs.Live.{CanRetract}
use Rattle.far_aggregates.specs.declared.aggregate.Accumulator.{Accumulator}
use Rattle.far_aggregates.specs.declared.aggregate.Accumulator.TheVariants as accumulator
use Rattle.far_aggregates.specs.Accumulators.{RegistryEntry, Change, pairs_here}

-- an accumulator without a pair: totals subtract it, extrema get the min-max of the rows that remain under its key
abbrev pub accumulator_less : Spec → ℕ → List Place → Accumulator → Pair → Accumulator
accumulator_less spec g here (accumulator.Totals live) pair =
    accumulator.Totals (record live { totals = without_pair live.totals pair })
accumulator_less spec g here (accumulator.Extrema live) pair =
    accumulator.Extrema
    (record live {
      groups = slice_set live.groups g
          (put_min_max (group_at live.groups g) pair.0
          (fin.get (extrema (pairs_here spec here)) pair.0));
    })

-- an entry of the registry with its pair retracted, if it has an aggregate and a pair
abbrev pub after_retract : ℕ → List Place → RegistryEntry → Change → RegistryEntry
after_retract g here None change = None
after_retract g here (Some a) None = Some a
after_retract g here (Some a) (Some pair) = Some
    (record a { accumulator = accumulator_less a.spec g here a.accumulator pair })

-- a pair may be retracted. Totals have it (`CanRetract`). In extrema the min-max under its key is the min-max of the remaining rows,
-- widened by its value
abbrev pub AccumulatorMayRetract : Spec → ℕ → List Place → Accumulator → Pair → Type 0
AccumulatorMayRetract spec g here (accumulator.Totals live) pair =
    CanRetract pair.1 (fin.get live.totals pair.0)
AccumulatorMayRetract spec g here (accumulator.Extrema live) pair =
    fin.get (group_at live.groups g) pair.0
    ≡ Some (min_max_with pair.1 (fin.get (extrema (pairs_here spec here)) pair.0))

-- the pair of an entry may be retracted
abbrev pub MayRetract : ℕ → List Place → RegistryEntry → Change → Type 0
MayRetract g here None change = Unit {0}
MayRetract g here (Some a) None = Unit {0}
MayRetract g here (Some a) (Some pair) = AccumulatorMayRetract a.spec g here a.accumulator pair

-- the pair of each entry may be retracted
abbrev pub EachMayRetract : ℕ → List Place → List RegistryEntry → List Change → Type 0
EachMayRetract g here registry pairs = (k : ℕ) (s : RegistryEntry) (c : Change)
    → slice_get registry k ≡ Some s
    → slice_get pairs k ≡ Some c
    → MayRetract g here s c

-- a pair is retracted without reading rows, because the accumulator computes totals
abbrev pub AccumulatorIsPlain : Accumulator → Type 0
AccumulatorIsPlain (accumulator.Totals live) = Unit {0}
AccumulatorIsPlain (accumulator.Extrema live) = ⊥

-- the pair of an entry is retracted without reading rows
abbrev pub IsPlain : RegistryEntry → Change → Type 0
IsPlain None change = Unit {0}
IsPlain (Some a) None = Unit {0}
IsPlain (Some a) (Some pair) = AccumulatorIsPlain a.accumulator

-- the pair of each entry is retracted without reading rows
abbrev pub EachIsPlain : List RegistryEntry → List Change → Type 0
EachIsPlain registry pairs = (k : ℕ) (s : RegistryEntry) (c : Change)
    → slice_get registry k ≡ Some s
    → slice_get pairs k ≡ Some c
    → IsPlain s c
