-- Counts and sums, and how totals change when a count and a sum are added or subtracted under a key.
use Rattle.std.specs.Prelude.{ℕ, ◌-◌, ◌*◌, ◌^◌, ◌≤◌, ◌==◌, ℤ, pos, ◌+ℤ◌, ◌-ℤ◌, ◌≤ℤ◌, neg_ℤ, cond, List, [], ◌∷◌, Option, None, Some, IfSome}
use Rattle.std.specs.Option.{option_map_or}
use Rattle.std.specs.FinMap as fin
use Rattle.far_types.specs.declared.key.Key.{Key}
use Rattle.far_types.specs.Answers.{Totals}
use Rattle.far_types.specs.Effects.{add_count_sums}

-- the totals of entries
abbrev pub totals_of : List (Option Key × (ℕ × ℤ)) → Totals
totals_of entries = fin.from_entries entries

-- a sum that this many numbers of 64 bits can have
abbrev pub IsSumOf : ℕ → ℤ → Type 0
IsSumOf count sum = (neg_ℤ (pos (count * 2 ^ 63)) ≤ℤ sum)
    × (sum ≤ℤ pos (count * (2 ^ 63 - 1)))

-- a count of 1 to 2^26, and a sum that this many numbers can have
abbrev pub IsCountSum : ℕ × ℤ → Type 0
IsCountSum count_sum = (1 ≤ count_sum.0) × (count_sum.0 ≤ 2 ^ 26)
    × IsSumOf count_sum.0 count_sum.1

-- whether each key has a count of 1 to 2^26, and a sum that this many numbers can have
abbrev pub AreCountSums : Totals → Type 0
AreCountSums totals = (key : Option Key) → IfSome (fin.get totals key) IsCountSum

-- totals with a count and a sum added under a key
abbrev pub with_count_sum : Totals → Option Key → ℕ × ℤ → Totals
with_count_sum totals key more =
    fin.insert totals key
    (option_map_or (λ count_sum. add_count_sums count_sum more) (fin.get totals key) more)

-- whether a key has at least this count, and the remaining values can have the remaining sum
abbrev pub LeavesCountSum : ℕ × ℤ → Option (ℕ × ℤ) → Type 0
LeavesCountSum less None = ⊥
LeavesCountSum less (Some count_sum) = (less.0 ≤ count_sum.0)
    × IsSumOf (count_sum.0 - less.0) (count_sum.1 -ℤ less.1)

-- totals with a count and a sum subtracted from the given ones of a key; a key whose count is then 0 is removed
abbrev pub without_less : Totals → Option Key → ℕ × ℤ → Option (ℕ × ℤ) → Totals
without_less totals key less None = totals
without_less totals key less (Some count_sum) =
    cond (count_sum.0 == less.0) (fin.remove totals key)
    (fin.insert totals key (count_sum.0 - less.0, count_sum.1 -ℤ less.1))

-- totals with a count and a sum subtracted under a key
abbrev pub without_count_sum : Totals → Option Key → ℕ × ℤ → Totals
without_count_sum totals key less = without_less totals key less (fin.get totals key)

-- whether the entries of another map can be retracted one after another
abbrev pub CanRetractAll : Totals → List (Option Key × (ℕ × ℤ)) → Type 0
CanRetractAll totals [] = Unit {0}
CanRetractAll totals (entry ∷ entries) = LeavesCountSum entry.1 (fin.get totals entry.0)
    × CanRetractAll (without_count_sum totals entry.0 entry.1) entries

-- totals with the entries of another map retracted one after another
abbrev pub without_all : Totals → List (Option Key × (ℕ × ℤ)) → Totals
without_all totals [] = totals
without_all totals (entry ∷ entries) =
    without_all (without_count_sum totals entry.0 entry.1) entries

-- a count of at most 2^26, and a sum that this many numbers can have; two of these can be added without overflow
abbrev pub IsAddend : ℕ × ℤ → Type 0
IsAddend count_sum = (count_sum.0 ≤ 2 ^ 26) × IsSumOf count_sum.0 count_sum.1

-- whether the counts and sums that two maps have under a key can be added; either map may have none
abbrev pub AreAddends : Option (ℕ × ℤ) → Option (ℕ × ℤ) → Type 0
AreAddends one other = IfSome one IsAddend × IfSome other IsAddend

-- a count and a sum in which one value is replaced by another
abbrev pub replaced : ℤ → ℤ → ℕ × ℤ → ℕ × ℤ
replaced from to count_sum = (count_sum.0, (count_sum.1 +ℤ to) -ℤ from)
