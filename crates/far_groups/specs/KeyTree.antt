-- Counts and sums by key if all keys are of one kind: all numbers, or all texts.
use Rattle.std.specs.Prelude.{ℕ, ◌≡◌, ℤ, List, map, Option, Some}
use Rattle.std.specs.declared.cmp.Ordering.{Ordering}
use Rattle.far_types.specs.declared.key.Key.{Key}
use Rattle.far_types.specs.declared.key.Key.TheVariants.{Int, Text}
use Rattle.far_types.specs.Keys.{key_cmp}
use Rattle.far_types.specs.Answers.{Totals}
use Rattle.far_groups.specs.CountSums.{totals_of}

-- keys have the order of their values
pub record KeepsOrder {K : Type 0} (as_key : K → Key) (cmp : K → K → Ordering) : Type 0 where
  pub compares : (one other : K) → key_cmp (as_key one) (as_key other) ≡ cmp one other

-- counts and sums by values of one kind, as entries by key
abbrev pub keyed_by : {K : Type 0} → (K → Key) → List (K × (ℕ × ℤ)) → List (Option Key × (ℕ × ℤ))
keyed_by as_key entries = map (λ entry. (Some (as_key entry.0), entry.1)) entries

-- the totals of entries by values of one kind
abbrev pub by_kind : {K : Type 0} → (K → Key) → List (K × (ℕ × ℤ)) → Totals
by_kind as_key entries = totals_of (keyed_by as_key entries)

-- an entry by a value of one kind, as a line of an answer
abbrev pub line_of : {K : Type 0} → (K → Key) → K × (ℕ × ℤ) → Option Key × ℕ × ℤ
line_of as_key entry = (Some (as_key entry.0), entry.1.0, entry.1.1)

-- entries by values of one kind, as the lines of an answer
abbrev pub lines_of : {K : Type 0} → (K → Key) → List (K × (ℕ × ℤ)) → List (Option Key × ℕ × ℤ)
lines_of as_key entries = map (line_of as_key) entries

-- a number as a key
abbrev pub number_key : ℤ → Option Key
number_key number = Some (Int number)

-- counts and sums by number, as entries by key
abbrev pub numbered : List (ℤ × (ℕ × ℤ)) → List (Option Key × (ℕ × ℤ))
numbered entries = keyed_by Int entries

-- the totals of entries by number
abbrev pub by_number : List (ℤ × (ℕ × ℤ)) → Totals
by_number entries = by_kind Int entries

-- entries by number, as the lines of an answer
abbrev pub number_lines : List (ℤ × (ℕ × ℤ)) → List (Option Key × ℕ × ℤ)
number_lines entries = lines_of Int entries

-- the totals of entries by text
abbrev pub by_text : List (List ℕ × (ℕ × ℤ)) → Totals
by_text entries = by_kind Text entries
