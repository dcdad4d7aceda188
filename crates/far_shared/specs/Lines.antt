-- Lines of answers by key.
-- Internal: no public contract cites it.
use Rattle.std.specs.Prelude.{ℕ, ℤ, ◌==◌, cond, List, [], ◌∷◌, map, Option}
use Rattle.far_types.specs.declared.key.Key.{Key}

-- the lines of totals that have rows, each as a key with its count and sum
abbrev pub count_sums_in : List (Option Key × ℕ × ℤ) → List (Option Key × (ℕ × ℤ))
count_sums_in [] = []
count_sums_in (line ∷ lines) = cond (line.1 == 0) (count_sums_in lines)
    ((line.0, (line.1, line.2)) ∷ count_sums_in lines)

-- the lines of extrema, each as a key with its least and greatest value
abbrev pub min_maxes_in : List (Option Key × ℤ × ℤ) → List (Option Key × (ℤ × ℤ))
min_maxes_in lines = map (λ (line : Option Key × ℤ × ℤ). (line.0, (line.1, line.2))) lines
