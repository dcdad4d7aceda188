-- How totals and extrema change: with one pair more, with one pair less, and when two are joined.
use Rattle.std.specs.Prelude.{ℕ, ◌+◌, ◌-◌, ◌==◌, ℤ, ◌+ℤ◌, ◌-ℤ◌, cond, ◌++◌, Option, None, Some, option_map}
use Rattle.std.specs.Int.{int_min, int_max}
use Rattle.std.specs.List.{filter_map}
use Rattle.std.specs.FinMap as fin
use Rattle.far_types.specs.declared.key.Key.{Key}
use Rattle.far_types.specs.Pairs.{Pair}
use Rattle.far_types.specs.Answers.{ByKey, Totals, Extrema}

-- the count and the sum with one value more
abbrev pub count_sum_with : ℤ → Option (ℕ × ℤ) → ℕ × ℤ
count_sum_with value None = (1, value)
count_sum_with value (Some count_sum) = (count_sum.0 + 1, count_sum.1 +ℤ value)

-- the count and the sum with one value less; the count is at least 1
abbrev pub count_sum_without : ℤ → ℕ × ℤ → ℕ × ℤ
count_sum_without value count_sum = (count_sum.0 - 1, count_sum.1 -ℤ value)

-- the least and the greatest value with one value more
abbrev pub min_max_with : ℤ → Option (ℤ × ℤ) → ℤ × ℤ
min_max_with value None = (value, value)
min_max_with value (Some min_max) = (int_min value min_max.0, int_max value min_max.1)

-- totals with one pair more
abbrev pub with_pair : Totals → Pair → Totals
with_pair totals pair = fin.insert totals pair.0 (count_sum_with pair.1 (fin.get totals pair.0))

-- totals with one value less under a key that has this count and this sum. A key is removed with its last value
abbrev pub without_value : Totals → Option Key → ℤ → Option (ℕ × ℤ) → Totals
without_value totals key value None = totals
without_value totals key value (Some count_sum) = cond (count_sum.0 == 1) (fin.remove totals key)
    (fin.insert totals key (count_sum_without value count_sum))

-- totals with one pair less
abbrev pub without_pair : Totals → Pair → Totals
without_pair totals pair = without_value totals pair.0 pair.1 (fin.get totals pair.0)

-- extrema with one pair more
abbrev pub with_observed : Extrema → Pair → Extrema
with_observed extrema pair = fin.insert extrema pair.0
    (min_max_with pair.1 (fin.get extrema pair.0))

-- two values merged, if both exist; else the one that exists
abbrev pub merge_two : {V : Type 0} → (V → V → V) → Option V → Option V → Option V
merge_two join None other = other
merge_two join (Some value) None = Some value
merge_two join (Some value) (Some other) = Some (join value other)

-- the keys of either map, each with its values merged
abbrev pub joined : {V : Type 0} → (V → V → V) → ByKey V → ByKey V → ByKey V
joined join one other =
    fin.from_entries (filter_map
    (λ key. option_map (λ value. (key, value))
    (merge_two join (fin.get one key) (fin.get other key)))
    (fin.keys one ++ fin.keys other))

-- two counts added, and two sums added
abbrev pub add_count_sums : ℕ × ℤ → ℕ × ℤ → ℕ × ℤ
add_count_sums one other = (one.0 + other.0, one.1 +ℤ other.1)

-- the lesser of the two least values, and the greater of the two greatest
abbrev pub join_min_maxes : ℤ × ℤ → ℤ × ℤ → ℤ × ℤ
join_min_maxes one other = (int_min one.0 other.0, int_max one.1 other.1)

-- two totals joined into one
abbrev pub joined_totals : Totals → Totals → Totals
joined_totals one other = joined add_count_sums one other

-- two extrema joined into one
abbrev pub joined_extrema : Extrema → Extrema → Extrema
joined_extrema one other = joined join_min_maxes one other

-- how many values a key has: 0 if it has no line
abbrev pub count_in : Option (ℕ × ℤ) → ℕ
count_in None = 0
count_in (Some count_sum) = count_sum.0
