-- The answers of aggregates over the pairs of the folded rows.
use Rattle.std.specs.Prelude.{ℕ, ℤ, pos, ◌+ℤ◌, Bool, List, [], ◌∷◌, length, map, filter, Option, None, Some}
use Rattle.std.specs.Int.{int_min, int_max}
use Rattle.std.specs.Ordering.{eq_by_cmp}
use Rattle.std.specs.FinMap as fin
use Rattle.far_types.specs.declared.key.Key.{Key}
use Rattle.far_types.specs.declared.cell.Cell.{Cell}
use Rattle.far_types.specs.declared.spec.Spec.{Spec}
use Rattle.far_types.specs.declared.spec.Fold.{Fold}
use Rattle.far_types.specs.declared.spec.Fold.TheVariants as fold
use Rattle.far_types.specs.declared.answer.Answer.{Answer}
use Rattle.far_types.specs.declared.answer.Answer.TheVariants as answer
use Rattle.far_types.specs.Keys.{line_cmp}
use Rattle.far_types.specs.Pairs.{Pair, pairs_of}

-- whether a pair has this key
abbrev pub is_under : Option Key → Pair → Bool
is_under key pair = eq_by_cmp line_cmp key pair.0

-- the values under a key, in order
abbrev pub values_of : Option Key → List Pair → List ℤ
values_of key pairs = map (λ pair. pair.1) (filter (λ pair. is_under key pair) pairs)

-- the sum of the values, an integer without bounds
abbrev pub int_sum : List ℤ → ℤ
int_sum [] = pos 0
int_sum (value ∷ values) = value +ℤ int_sum values

-- the value that remains if a function picks one of each two values. For no values it is 0, which no answer shows: each key has a value
abbrev pub picked : (ℤ → ℤ → ℤ) → List ℤ → ℤ
picked pick [] = pos 0
picked pick (value ∷ []) = value
picked pick (value ∷ next ∷ values) = pick value (picked pick (next ∷ values))

-- values by key, in ascending order of keys: only keys that occur, each once
abbrev pub ByKey : Type 0 → Type 0
ByKey V = fin.FinMap line_cmp V

-- the keys that occur, each with the result over its values
abbrev pub grouped : {V : Type 0} → (List ℤ → V) → List Pair → ByKey V
grouped fold pairs = fin.from_entries
    (map (λ (pair : Pair). (pair.0, fold (values_of pair.0 pairs))) pairs)

-- how many values there are, and their sum
abbrev pub count_sum : List ℤ → ℕ × ℤ
count_sum values = (length values, int_sum values)

-- the least and the greatest value
abbrev pub min_max : List ℤ → ℤ × ℤ
min_max values = (picked int_min values, picked int_max values)

-- the count and the sum of the values, by key
abbrev pub Totals : Type 0
Totals = ByKey (ℕ × ℤ)

-- the totals of some pairs
abbrev pub totals : List Pair → Totals
totals pairs = grouped count_sum pairs

-- the least and the greatest value, by key
abbrev pub Extrema : Type 0
Extrema = ByKey (ℤ × ℤ)

-- the extrema of some pairs
abbrev pub extrema : List Pair → Extrema
extrema pairs = grouped min_max pairs

-- the lines of an answer, in the order of their keys: a key and the two numbers computed under it
abbrev pub lines_by_key : {V W : Type 0} → ByKey (V × W) → List (Option Key × V × W)
lines_by_key {V} {W} by_key =
    map (λ (entry : Option Key × (V × W)). (entry.0, entry.1.0, entry.1.1)) (fin.entries by_key)

-- the lines of totals, or the line of zeros if there are none and the aggregate has no key column
abbrev pub or_zero : Option ℕ → List (Option Key × ℕ × ℤ) → List (Option Key × ℕ × ℤ)
or_zero None [] = (None, 0, pos 0) ∷ []
or_zero None (line ∷ lines) = line ∷ lines
or_zero (Some column) lines = lines

-- the answer over pairs, for an aggregate with this fold and this key column
abbrev pub answer_of : Fold → Option ℕ → List Pair → Answer
answer_of fold.Totals key pairs =
    answer.Totals (or_zero key (lines_by_key (grouped count_sum pairs)))
answer_of fold.Extrema key pairs = answer.Extrema (lines_by_key (grouped min_max pairs))

-- the answer of an aggregate over rows
abbrev pub answer_over : Spec → List (List Cell) → Answer
answer_over spec rows = answer_of spec.fold spec.key (pairs_of spec rows)
