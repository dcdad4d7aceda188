-- The pairs that a row contributes to the aggregates, and how totals and extrema change by them.
use Rattle.std.specs.Prelude.{◌≡◌, ℕ, ◌≤◌, ◌^◌, ◌/◌, true, cond, List, length, None, Some, slice_get}
use Rattle.far_types.specs.declared.cell.Cell.{Cell}
use Rattle.far_types.specs.declared.spec.Spec.{Spec}
use Rattle.far_types.specs.Answers.{Totals, Extrema, totals}
use Rattle.far_types.specs.Cells.{Cells}
use Rattle.far_types.specs.Effects.{with_pair, without_pair, with_observed}
use Rattle.far_types.specs.Pairs.{Pair, PairsFit, pair_of}
use Rattle.far_types.specs.Table.{Place, place_pair, is_pending}
use Rattle.far_aggregates.specs.declared.aggregate.Accumulator.{Accumulator}
use Rattle.far_aggregates.specs.declared.aggregate.Accumulator.TheVariants as accumulator
use Rattle.far_aggregates.specs.Accumulators.{RegistryEntry, Change}

-- the pair that a row contributes, if any, by the specification of the aggregate
abbrev pub ChangeBySpec : Type 0
ChangeBySpec = Spec → Change

-- the pair that a row that is alive contributes, by its cells
abbrev pub row_gives : Cells → ChangeBySpec
row_gives cells spec = pair_of spec cells

-- the pair that a place contributes
abbrev pub place_gives : Place → ChangeBySpec
place_gives place spec = place_pair spec place

-- the place of a row that is alive
abbrev pub alive_with : List Cell → Place
alive_with row = record { cells = row; alive = true }

-- the pair that a row of place i contributes to a registry entry, unless its row group is pending there
abbrev pub change_of : ℕ → ℕ → ChangeBySpec → RegistryEntry → Change
change_of size i gives None = None
change_of size i gives (Some a) = cond (is_pending a.pending (i / size)) None (gives a.spec)

-- totals with one more pair, if there is one
abbrev pub with_change : Totals → Change → Totals
with_change totals None = totals
with_change totals (Some pair) = with_pair totals pair

-- totals without a pair, if there is one
abbrev pub without_change : Totals → Change → Totals
without_change totals None = totals
without_change totals (Some pair) = without_pair totals pair

-- extrema that observe a pair, if there is one
abbrev pub with_observed_change : Extrema → Change → Extrema
with_observed_change extrema None = extrema
with_observed_change extrema (Some pair) = with_observed extrema pair

-- the totals of an accumulator are the totals of at most 2^24 pairs, whose values fit 64 bits
abbrev pub AccumulatorFolds : Accumulator → Type 0
AccumulatorFolds (accumulator.Totals live) = (pairs : List Pair) × (live.totals ≡ totals pairs)
    × PairsFit pairs
    × (length pairs ≤ 2 ^ 24)
AccumulatorFolds (accumulator.Extrema live) = Unit {0}

-- an entry of the registry has totals of such pairs, if it has totals
abbrev pub Folds : RegistryEntry → Type 0
Folds None = Unit {0}
Folds (Some a) = AccumulatorFolds a.accumulator

-- each entry of the registry has totals of such pairs, if it has totals
abbrev pub EachFolds : List RegistryEntry → Type 0
EachFolds registry = (k : ℕ) (s : RegistryEntry) → slice_get registry k ≡ Some s → Folds s
