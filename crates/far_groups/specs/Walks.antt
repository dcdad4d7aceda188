-- What a walk along a map has ahead of it, and how two maps differ.
-- Internal: no public contract cites it.
use Rattle.std.specs.Prelude.{ℕ, ℤ, pos, List, [], ◌∷◌, map, filter, not, is_some, Option, None, Some}
use Rattle.std.specs.Map.{lookup}
use Rattle.std.specs.BTreeMap.{is_at}
use denote.Ref.{Bor}
use Rattle.far_types.specs.declared.key.Key.{Key}
use Rattle.far_types.specs.Keys.{line_cmp}
use Rattle.far_types.specs.Effects.{add_count_sums, merge_two}

-- the lines of a map: keys, each with a count and a sum
abbrev pub Lines : Type 0
Lines = List (Option Key × (ℕ × ℤ))

-- the lines that a walk has not passed: the current one, and all after it
abbrev pub ahead : Option (Bor (Option Key) × Bor (ℕ × ℤ)) → Lines → Lines
ahead None rest = []
ahead (Some next) rest = (next.0.now, next.1.now) ∷ rest

-- the count and the sum that lines have under a key
abbrev pub count_sum_at : Lines → Option Key → Option (ℕ × ℤ)
count_sum_at lines key = lookup (is_at (line_cmp key)) lines

-- the keys that only the other lines have, each with a count of 0 and a sum of 0
abbrev pub new_lines : Lines → Lines → Lines
new_lines lines others = map (λ line. (line.0, (0, pos 0)))
    (filter (λ line. not (is_some (count_sum_at lines line.0))) others)

-- a count and a sum with more added, if there is more; a key without a count and a sum still has none
abbrev pub added_to : Option (ℕ × ℤ) → Option (ℕ × ℤ) → Option (ℕ × ℤ)
added_to more None = None
added_to more (Some count_sum) = merge_two add_count_sums (Some count_sum) more
