-- The aggregate of a row group's live places.
use Rattle.std.specs.Prelude.{ℕ, ℤ, ◌≤ℤ◌, Bool, cond, List, [], ◌∷◌, Option, None, Some, IfSome, FitsSigned}
use Rattle.std.specs.Int.{w64}
use Rattle.std.specs.List.{filter_map, enumerate_from}
use Rattle.far_types.specs.declared.spec.Spec.{Spec}
use Rattle.far_types.specs.declared.spec.Fold.{Fold}
use Rattle.far_types.specs.declared.spec.Fold.TheVariants as fold
use Rattle.far_types.specs.Cells.{number_in}
use Rattle.far_types.specs.Filters.{keeps}
use Rattle.far_types.specs.Pairs.{Pair, pair_of}
use Rattle.far_types.specs.Answers.{min_max, totals, extrema}
use Rattle.far_offload.specs.declared.partial.PartialDone.{PartialDone}
use Rattle.far_offload.specs.declared.partial.PartialDone.TheVariants.{Totals, Extrema}
use Rattle.far_offload.specs.Columns.{Columns, cells_at}

-- the pair of a place's row, if the place is alive, passes the filter, and has a value and, with a key column, a key
abbrev pub pair_at : Spec → Columns → ℕ × Bool → Option Pair
pair_at spec columns place = cond place.1 (pair_of spec (cells_at columns place.0)) None

-- the pairs of the first places, one place for each flag, in order
abbrev pub pairs_over : Spec → Columns → List Bool → List Pair
pairs_over spec columns flags = filter_map (pair_at spec columns) (enumerate_from 0 flags)

-- the value of a place that is alive and passes the filter, if it has one
abbrev pub value_at : Spec → Columns → ℕ × Bool → Option ℤ
value_at spec columns place = cond place.1
    (cond (keeps spec.filter (cells_at columns place.0))
    (number_in (cells_at columns place.0 spec.value)) None) None

-- the values of the first places that are alive and pass the filter, in order
abbrev pub values_over : Spec → Columns → List Bool → List ℤ
values_over spec columns flags = filter_map (value_at spec columns) (enumerate_from 0 flags)

-- the least and the greatest of some values, or `None` if there are no values
abbrev pub min_max_in : List ℤ → Option (ℤ × ℤ)
min_max_in [] = None
min_max_in (value ∷ values) = Some (min_max (value ∷ values))

-- the least and the greatest value fit 64 bits
abbrev pub MinMaxFits : Option (ℤ × ℤ) → Type 0
MinMaxFits min_max = IfSome min_max (λ s. FitsSigned w64 s.0 × FitsSigned w64 s.1)

-- observing a value changes neither the least nor the greatest: the value is between them, or missing
abbrev pub IsWithin : Option (ℤ × ℤ) → Option ℤ → Type 0
IsWithin min_max None = Unit {0}
IsWithin None (Some value) = ⊥
IsWithin (Some min_max) (Some value) = (min_max.0 ≤ℤ value) × (value ≤ℤ min_max.1)

-- the partial aggregate of these pairs; no row group is pending in it
abbrev pub partial_of : Fold → List Pair → PartialDone
partial_of fold.Totals pairs = Totals (record { left = 0; totals = totals pairs })
partial_of fold.Extrema pairs = Extrema (extrema pairs)
