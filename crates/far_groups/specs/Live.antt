-- Live totals: how many row groups are still pending, and the totals of the folded pairs.
use Rattle.std.specs.Prelude.{ℕ, ◌+◌, ◌-◌, ◌^◌, ◌≤◌, ℤ, ◌-ℤ◌, Option, None, Some, refl}
use Rattle.std.specs.Coded.{Coded, code_by, coded×, coded_ℕ}
use Rattle.std.specs.FinMap as fin
use Rattle.far_types.specs.declared.key.Key.{Key}
use Rattle.far_types.specs.Codes.{coded_totals}
use Rattle.far_types.specs.Answers.{Totals}
use Rattle.far_types.specs.Effects.{count_in, with_pair, without_pair}
use Rattle.far_groups.specs.CountSums.{IsSumOf}

-- how many row groups are pending, and the totals of the folded pairs
pub record TotalsState : Type 0 where
  pub left : ℕ
  pub totals : Totals

-- the code of live totals, which tells one value from another
abbrev pub coded_totals_state : Coded TotalsState
coded_totals_state = code_by (ℕ × Totals) (coded× coded_ℕ coded_totals)
    (λ live. (live.left, live.totals)) (λ p. record { left = p.0; totals = p.1 }) (λ _. refl)

-- whether a value can be retracted from a count and a sum: the remaining pairs can have the remaining sum
abbrev pub CanRetract : ℤ → Option (ℕ × ℤ) → Type 0
CanRetract value None = ⊥
CanRetract value (Some count_sum) = (1 ≤ count_sum.0)
    × IsSumOf (count_sum.0 - 1) (count_sum.1 -ℤ value)

-- whether two totals can be joined: each key then has at most 2^26 pairs
abbrev pub CanJoin : Totals → Totals → Type 0
CanJoin one other = (key : Option Key)
    → count_in (fin.get one key) + count_in (fin.get other key) ≤ 2 ^ 26

-- totals in which one value under a key is replaced by another: the new one is added, and the old one is retracted
abbrev pub with_replaced : Totals → Option Key → ℤ → ℤ → Totals
with_replaced totals key from to = without_pair (with_pair totals (key, to)) (key, from)
