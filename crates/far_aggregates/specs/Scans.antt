-- A row group that is scanned into an aggregate.
-- Internal: no public contract cites it.
use Rattle.std.specs.Prelude.{◌≡◌, ℕ, ◌-◌, ◌≤◌, ◌^◌, Bool, false, List, length, slice_set, Option, None, Some}
use Rattle.std.specs.FinMap as fin
use Rattle.far_types.specs.declared.spec.Spec.{Spec}
use Rattle.far_types.specs.Answers.{totals, extrema}
use Rattle.far_types.specs.Effects.{joined_totals}
use Rattle.far_types.specs.Table.{Place, Registered, in_group, is_pending}
use Rattle.far_extrema.specs.Live.{after_reserve, group_at}
use Rattle.far_groups.specs.Live.{CanJoin}
use Rattle.far_aggregates.specs.declared.aggregate.Accumulator.{Accumulator}
use Rattle.far_aggregates.specs.declared.aggregate.Accumulator.TheVariants as accumulator
use Rattle.far_aggregates.specs.Accumulators.{RegistryEntry, pairs_here, KeepsEntry}

-- whether a row group is pending in a registry entry
abbrev pub has_pending : ℕ → RegistryEntry → Bool
has_pending g None = false
has_pending g (Some a) = is_pending a.pending g

-- the rows of one more row group, at these places, are scanned. Any keys may be reserved
abbrev pub IsScanned : Spec → ℕ → List Place → Accumulator → Accumulator → Type 0
IsScanned spec g here (accumulator.Totals live) new = new
    ≡ accumulator.Totals
    (record {
      left = live.left - 1;
      totals = joined_totals live.totals (totals (pairs_here spec here));
    })
IsScanned spec g here (accumulator.Extrema live) (accumulator.Totals new) = ⊥
IsScanned spec g here (accumulator.Extrema live) (accumulator.Extrema new) =
    (new.left ≡ live.left - 1)
    × (new.groups ≡ slice_set (after_reserve g live.groups) g (extrema (pairs_here spec here)))

-- both accumulators have scanned the same rows. Any keys may be reserved
abbrev pub IsSame : Accumulator → Accumulator → Type 0
IsSame (accumulator.Totals live) new = new ≡ accumulator.Totals live
IsSame (accumulator.Extrema live) (accumulator.Totals new) = ⊥
IsSame (accumulator.Extrema live) (accumulator.Extrema new) =
    (new.left ≡ live.left) × (new.groups ≡ live.groups)

-- a row group is pending, the counts stay small, and no row of this row group is in the extrema
abbrev pub AccumulatorMayScan : Spec → ℕ → List Place → Accumulator → Type 0
AccumulatorMayScan spec g here (accumulator.Totals live) = (live.left ≡ 0 → ⊥)
    × CanJoin live.totals (totals (pairs_here spec here))
AccumulatorMayScan spec g here (accumulator.Extrema live) = (live.left ≡ 0 → ⊥)
    × (group_at live.groups g ≡ fin.empty)

-- a registry entry is up to date for a table of at most 2^24 places, in which this row group has these places
abbrev pub EntryMayScan : ℕ → ℕ → List Place → RegistryEntry → Type 0
EntryMayScan size g here entry = (places : List Place) × (here ≡ in_group size g places)
    × (length places ≤ 2 ^ 24)
    × KeepsEntry size places entry
