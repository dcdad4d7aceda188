-- The state that is kept for each aggregate.
use Rattle.std.specs.Prelude.{◌≡◌, ℕ, ◌+◌, ◌-◌, ◌/◌, Bool, cond, List, [], ◌∷◌, ◌++◌, length, map, replicate, Option, None, Some}
use Rattle.std.specs.List.{AllByRecursion, filter_map, cons_option}
use Rattle.std.specs.FinMap as fin
use Rattle.far_types.specs.declared.spec.Spec.{Spec}
use Rattle.far_types.specs.declared.spec.Fold.{Fold}
use Rattle.far_types.specs.declared.spec.Fold.TheVariants as fold
use Rattle.far_types.specs.declared.answer.Answer.{Answer}
use Rattle.far_types.specs.declared.answer.Answer.TheVariants as answer
use Rattle.far_types.specs.Answers.{Extrema, totals, extrema, or_zero, lines_by_key}
use Rattle.far_types.specs.Cells.{RowFits}
use Rattle.far_types.specs.Pairs.{Pair}
use Rattle.far_types.specs.Table.{Place, Registered, place_pair, in_group, is_pending, left}
use Rattle.far_extrema.specs.Live.{all_groups, group_at}
use Rattle.far_aggregates.specs.declared.aggregate.Aggregate.{Aggregate}
use Rattle.far_aggregates.specs.declared.aggregate.Accumulator.{Accumulator}
use Rattle.far_aggregates.specs.declared.aggregate.Accumulator.TheVariants as accumulator

-- the registry entry of a number: its aggregate, if there is one
abbrev pub RegistryEntry : Type 0
RegistryEntry = Option Aggregate

-- a pair that is added or retracted, if there is one
abbrev pub Change : Type 0
Change = Option Pair

-- the part of a registry entry that a table shows
abbrev pub registered_in : RegistryEntry → Option Registered
registered_in None = None
registered_in (Some aggregate) = Some
    (record
    { spec = aggregate.spec; registration = aggregate.registration; pending = aggregate.pending })

-- the aggregates by number, of which there are 32. The registry ends with the highest number that was ever used
abbrev pub registered_of : List RegistryEntry → List (Option Registered)
registered_of registry = map registered_in registry ++ replicate (32 - length registry) None

-- the numbers of all places fit 64 bits
abbrev pub PlacesFit : List Place → Type 0
PlacesFit places = AllByRecursion (λ (place : Place). RowFits place.cells) places

-- the pair of a place, unless its row group is pending
abbrev pub scanned_pair : Spec → ℕ → List Bool → ℕ → Place → Change
scanned_pair spec size pending i place = cond (is_pending pending (i / size)) None
    (place_pair spec place)

-- the pairs of the places, from number i on, whose row groups are scanned
abbrev pub scanned_pairs : Spec → ℕ → List Bool → ℕ → List Place → List Pair
scanned_pairs spec size pending i [] = []
scanned_pairs spec size pending i (place ∷ places) = cons_option
    (scanned_pair spec size pending i place) (scanned_pairs spec size pending (i + 1) places)

-- the pairs of some places, such as the places of a row group
abbrev pub pairs_here : Spec → List Place → List Pair
pairs_here spec here = filter_map (place_pair spec) here

-- the pairs of the places of one row group
abbrev pub group_pairs : Spec → ℕ → ℕ → List Place → List Pair
group_pairs spec size g places = pairs_here spec (in_group size g places)

-- the extrema of a row group, which are empty while it is pending
abbrev pub scanned_group : Spec → ℕ → List Bool → List Place → ℕ → Extrema
scanned_group spec size pending places g = cond (is_pending pending g) fin.empty
    (extrema (group_pairs spec size g places))

-- the fold of an accumulator
abbrev pub fold_of : Accumulator → Fold
fold_of (accumulator.Totals live) = fold.Totals
fold_of (accumulator.Extrema live) = fold.Extrema

-- how many row groups are pending
abbrev pub pending_in : Accumulator → ℕ
pending_in (accumulator.Totals live) = live.left
pending_in (accumulator.Extrema live) = live.left

-- the answer of an accumulator
abbrev pub accumulator_answer : Option ℕ → Accumulator → Answer
accumulator_answer key (accumulator.Totals live) = answer.Totals
    (or_zero key (lines_by_key live.totals))
accumulator_answer key (accumulator.Extrema live) = answer.Extrema
    (lines_by_key (all_groups live.groups))

-- nothing is scanned, and this many row groups are pending
abbrev pub KeepsNothing : ℕ → Accumulator → Type 0
KeepsNothing count (accumulator.Totals live) = (live.left ≡ count) × (live.totals ≡ fin.empty)
KeepsNothing count (accumulator.Extrema live) = (live.left ≡ count) × (live.groups ≡ [])

-- an accumulator is equal to one computed from scratch over the scanned row groups
abbrev pub IsUpToDate : ℕ → List Place → Aggregate → Accumulator → Type 0
IsUpToDate size places a (accumulator.Totals live) =
    (live.totals ≡ totals (scanned_pairs a.spec size a.pending 0 places))
    × (live.left ≡ left a.pending)
IsUpToDate size places a (accumulator.Extrema live) =
    ((g : ℕ) → group_at live.groups g ≡ scanned_group a.spec size a.pending places g)
    × (live.left ≡ left a.pending)

-- the accumulator of a registry entry has the fold of its specification, and is up to date
abbrev pub KeepsEntry : ℕ → List Place → RegistryEntry → Type 0
KeepsEntry size places None = Unit {0}
KeepsEntry size places (Some a) = (fold_of a.accumulator ≡ a.spec.fold)
    × IsUpToDate size places a a.accumulator

-- the accumulator of each registry entry has the fold of its specification, and is up to date
abbrev pub Keeps : ℕ → List Place → List RegistryEntry → Type 0
Keeps size places registry = AllByRecursion (KeepsEntry size places) registry
