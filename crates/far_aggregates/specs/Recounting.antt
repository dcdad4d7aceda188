-- Row groups that were folded separately, and are merged into an aggregate one after another.
use Rattle.std.specs.Prelude.{◌≡◌, ℕ, zero, suc, ◌+◌, ◌-◌, List, [], ◌∷◌, slice_set}
use Rattle.std.specs.FinMap as fin
use Rattle.far_types.specs.declared.spec.Spec.{Spec}
use Rattle.far_types.specs.Effects.{joined_totals}
use Rattle.far_types.specs.Table.{Place}
use Rattle.far_extrema.specs.Live.{after_reserve, group_at}
use Rattle.far_groups.specs.Live.{CanJoin}
use Rattle.far_offload.specs.declared.partial.PartialDone.{PartialDone}
use Rattle.far_offload.specs.declared.partial.PartialDone.TheVariants as partial
use Rattle.far_offload.specs.Partials.{partial_of}
use Rattle.far_aggregates.specs.declared.aggregate.Accumulator.{Accumulator}
use Rattle.far_aggregates.specs.declared.aggregate.Accumulator.TheVariants as accumulator
use Rattle.far_aggregates.specs.Accumulators.{group_pairs}

-- the partial aggregate of the live places of a row group
abbrev pub partial_at : Spec → ℕ → List Place → ℕ → PartialDone
partial_at spec size places g = partial_of spec.fold (group_pairs spec size g places)

-- the partial aggregates of n row groups, in order, from g on
abbrev pub partials_from : Spec → ℕ → List Place → ℕ → ℕ → List PartialDone
partials_from spec size places g zero = []
partials_from spec size places g (suc n) = partial_at spec size places g
    ∷ partials_from spec size places (g + 1) n

-- a partial aggregate of the same fold may be merged: a row group is pending, counts stay small, and extrema have no row of this row group
abbrev pub AccumulatorMayMerge : ℕ → PartialDone → Accumulator → Type 0
AccumulatorMayMerge g (partial.Totals done) (accumulator.Totals live) =
    (live.left ≡ 0 → ⊥) × CanJoin live.totals done.totals
AccumulatorMayMerge g (partial.Totals done) (accumulator.Extrema live) = ⊥
AccumulatorMayMerge g (partial.Extrema observed) (accumulator.Totals live) = ⊥
AccumulatorMayMerge g (partial.Extrema observed) (accumulator.Extrema live) =
    (live.left ≡ 0 → ⊥) × (group_at live.groups g ≡ fin.empty)

-- the rows of a partial aggregate are merged. Any keys may be reserved
abbrev pub IsMerged : ℕ → PartialDone → Accumulator → Accumulator → Type 0
IsMerged g (partial.Totals done) (accumulator.Totals live) new =
    new
    ≡ accumulator.Totals
    (record { left = live.left - 1; totals = joined_totals live.totals done.totals })
IsMerged g (partial.Totals done) (accumulator.Extrema live) new = ⊥
IsMerged g (partial.Extrema observed) (accumulator.Totals live) new = ⊥
IsMerged g (partial.Extrema observed) (accumulator.Extrema live) (accumulator.Totals new) = ⊥
IsMerged g (partial.Extrema observed) (accumulator.Extrema live) (accumulator.Extrema new) =
    (new.left ≡ live.left - 1)
    × (new.groups ≡ slice_set (after_reserve g live.groups) g observed)
