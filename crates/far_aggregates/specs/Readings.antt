-- The results of the methods that read an aggregate.
use Rattle.std.specs.Prelude.{ℕ, ℤ, Bool, true, false, cond, ◌&&◌, ◌==◌, List, map, Option, None, Some, is_none}
use Rattle.far_types.specs.declared.spec.Spec.{Spec}
use Rattle.far_types.specs.declared.spec.Fold.{Fold}
use Rattle.far_types.specs.declared.spec.Fold.TheVariants as fold
use Rattle.far_types.specs.Answers.{count_sum}
use Rattle.far_types.specs.Pairs.{Pair, pairs_of}
use Rattle.far_types.specs.Table.{Place, Registered, rows_of, left}

-- whether a fold keeps counts and sums
abbrev pub is_totals : Fold → Bool
is_totals fold.Totals = true
is_totals fold.Extrema = false

-- how many rows are folded, and the sum of their values, whatever their keys
abbrev pub all_values : Spec → List Place → ℕ × ℤ
all_values spec places = count_sum (map (λ (pair : Pair). pair.1) (pairs_of spec (rows_of places)))

-- the count and the sum of an aggregate of totals without a key column, if no row group is pending
abbrev pub plain_in : List Place → Option Registered → Option (ℕ × ℤ)
plain_in places None = None
plain_in places (Some aggregate) = cond
    (is_totals aggregate.spec.fold && is_none aggregate.spec.key && left aggregate.pending == 0)
    (Some (all_values aggregate.spec places)) None
