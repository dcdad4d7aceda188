-- Counts and sums by number if all numbers are small: a list has a place for each, from 0 outwards.
use Rattle.std.specs.Prelude.{ℕ, zero, suc, ◌+◌, ◌-◌, ◌*◌, ◌/◌, ◌%◌, ◌==◌, ℤ, pos, negsuc, nat_lt, cond, List, [], ◌∷◌, ◌++◌, length, slice_index_or, Option, None, Some}
use Rattle.far_types.specs.declared.key.Key.{Key}
use Rattle.far_types.specs.Answers.{Totals}
use Rattle.far_groups.specs.KeyTree.{number_key, by_number}

-- the number of a place: 0, -1, 1, -2, and so on
abbrev pub place_number : ℕ → ℤ
place_number place = cond (place % 2 == 0) (pos (place / 2)) (negsuc (place / 2))

-- the key of a place
abbrev pub place_key : ℕ → Option Key
place_key place = number_key (place_number place)

-- the count and the sum at a place: nothing if the count is 0
abbrev pub standing : ℕ × ℤ → Option (ℕ × ℤ)
standing count_sum = cond (count_sum.0 == 0) None (Some count_sum)

-- the entries by number of a list that begins with this place
abbrev pub entries_from : ℕ → List (ℕ × ℤ) → List (ℤ × (ℕ × ℤ))
entries_from first [] = []
entries_from first (count_sum ∷ count_sums) =
    cond (count_sum.0 == 0)
    (entries_from (first + 1) count_sums)
    ((place_number first, count_sum) ∷ entries_from (first + 1) count_sums)

-- the totals of a list
abbrev pub by_place : List (ℕ × ℤ) → Totals
by_place count_sums = by_number (entries_from 0 count_sums)

-- the place of the number at this index in ascending order, if so many numbers of the list are below 0
abbrev pub rank_place : ℕ → ℕ → ℕ
rank_place below rank = cond (nat_lt rank below) ((below - rank) * 2 - 1) ((rank - below) * 2)

-- a place's entry, if its count is not 0
abbrev pub entry_of : ℕ → ℕ × ℤ → List (ℤ × (ℕ × ℤ))
entry_of place count_sum = cond (count_sum.0 == 0) [] ((place_number place, count_sum) ∷ [])

-- the entries of so many numbers in ascending order, from this index on
abbrev pub ranked : List (ℕ × ℤ) → ℕ → ℕ → List (ℤ × (ℕ × ℤ))
ranked count_sums rank zero = []
ranked count_sums rank (suc more) =
    entry_of (rank_place (length count_sums / 2) rank)
    (slice_index_or count_sums (rank_place (length count_sums / 2) rank) (0, pos 0))
    ++ ranked count_sums (rank + 1) more

-- the entries by number of a list, in ascending order
abbrev pub in_order : List (ℕ × ℤ) → List (ℤ × (ℕ × ℤ))
in_order count_sums = ranked count_sums 0 (length count_sums)
