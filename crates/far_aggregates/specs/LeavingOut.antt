-- Pairs that need not be retracted, because that would not change the aggregates.
-- Internal: no public contract cites it.
use Rattle.std.specs.Prelude.{◌≡◌, ◌⊎◌, ℕ, ℤ, ◌<ℤ◌, List, Option, None, Some, slice_get}
use Rattle.far_types.specs.Effects.{min_max_with}
use Rattle.far_aggregates.specs.declared.deltas.Delta.{Delta}
use Rattle.far_aggregates.specs.Accumulators.{Change}

-- the value to retract is strictly within the min-max under its key in the row group, after the delta
abbrev pub NeedNotRetract : Option Delta → Change → Type 0
NeedNotRetract None change = ⊥
NeedNotRetract (Some delta) None = ⊥
NeedNotRetract (Some delta) (Some pair) = (min_max : ℤ × ℤ)
    × (delta.previous ≡ Some min_max)
    × (delta.pair.0 ≡ pair.0)
    × ((min_max_with delta.pair.1 (Some min_max)).0 <ℤ pair.1)
    × (pair.1 <ℤ (min_max_with delta.pair.1 (Some min_max)).1)

-- a pair is unchanged, or is removed because it need not be retracted
abbrev pub IsLeftOut : Option Delta → Change → Change → Type 0
IsLeftOut delta old new = (new ≡ old) ⊎ ((new ≡ None) × NeedNotRetract delta old)

-- each pair is unchanged, or is removed because it need not be retracted
abbrev pub EachLeftOut : List (Option Delta) → List Change → List Change → Type 0
EachLeftOut deltas old new = (k : ℕ) (delta : Option Delta) (c d : Change)
    → slice_get deltas k ≡ Some delta
    → slice_get old k ≡ Some c
    → slice_get new k ≡ Some d
    → IsLeftOut delta c d
