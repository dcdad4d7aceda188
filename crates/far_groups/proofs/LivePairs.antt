-- The conditions of a call, for totals made from pairs.
use Rattle.std.proofs.Common.{◌≡◌, ℕ, suc, ◌+◌, ◌^◌, ◌≤◌, Bool, true, false, cond, List, [], ◌∷◌, length, sym, ap, ◌∙◌, subst, Option, None, Some, arith}
use Rattle.std.specs.Prelude.{ℤ, IfSome, FitsSigned}
use Rattle.std.specs.Int.{w64}
use Rattle.std.specs.List.{AllByRecursion}
use Rattle.std.specs.Ordering.{eq_by_cmp}
use Rattle.std.proofs.lemmas.Int.{ints}
use Rattle.std.specs.FinMap as fin
use Rattle.far_types.specs.declared.key.Key.{Key}
use Rattle.far_types.specs.Keys.{line_cmp}
use Rattle.far_types.specs.KeyOrder.{line_total}
use Rattle.far_types.specs.Pairs.{Pair, PairsFit}
use Rattle.far_types.specs.Answers.{Totals, totals, count_sum}
use Rattle.far_types.specs.Effects.{count_sum_with, with_pair, count_in}
use Rattle.far_types.proofs.EffectsLaws.{totals-cons}
use Rattle.far_types.proofs.AnswersByKeyMaps.{get_inserted}
use Rattle.far_types.proofs.AnswersLines.{int_sum-low, int_sum-high}
use Rattle.far_groups.specs.CountSums.{IsSumOf, IsCountSum}
use Rattle.far_groups.specs.Live.{CanRetract, CanJoin}

get-with_pair : (p : Pair) (ps : List Pair) (k : Option Key) → fin.get (totals (p ∷ ps)) k ≡ cond (eq_by_cmp line_cmp k p.0) (Some (count_sum_with p.1 (fin.get (totals ps) p.0))) (fin.get (totals ps) k)
get-with_pair p ps k = ap (λ m. fin.get m k) (totals-cons p ps) ∙ fin.get-insert line_total (totals ps) p.0 (count_sum_with p.1 (fin.get (totals ps) p.0)) k

either : (P : Option (ℕ × ℤ) → Type 0) (b : Bool) (x y : Option (ℕ × ℤ)) → P x → P y → P (cond b x y)
either P true x y h k = h
either P false x y h k = k

count-added : (v : ℤ) (o : Option (ℕ × ℤ)) (n : ℕ) → count_in o ≤ n → (count_sum_with v o).0 ≤ suc n
count-added v None n h = omega arith
count-added v (Some t) n h = omega arith

-- whether each key has at most n pairs
abbrev pub AreFew : Totals → ℕ → Type 0
AreFew m n = (k : Option Key) → count_in (fin.get m k) ≤ n

pub AreFew-empty : AreFew fin.empty 0
AreFew-empty k = subst (λ o. count_in o ≤ 0) (sym (fin.get-empty line_cmp k)) (omega arith)

pub AreFew-with_pair : (m : Totals) (p : Pair) (n : ℕ) → AreFew m n → AreFew (with_pair m p) (suc n)
AreFew-with_pair m p n few k =
    let here = few k in
    subst (λ o. count_in o ≤ suc n) (sym (fin.get-insert line_total m p.0 (count_sum_with p.1 (fin.get m p.0)) k))
    (either (λ o. count_in o ≤ suc n) (eq_by_cmp line_cmp k p.0) (Some (count_sum_with p.1 (fin.get m p.0))) (fin.get m k) (count-added p.1 (fin.get m p.0) n (few p.0)) (omega arith))

pub counted : (ps : List Pair) (k : Option Key) → count_in (fin.get (totals ps) k) ≤ length ps
counted [] k = AreFew-empty k
counted (p ∷ ps) k = subst (λ m. count_in (fin.get m k) ≤ suc (length ps)) (sym (totals-cons p ps)) (AreFew-with_pair (totals ps) p (length ps) (counted ps) k)

-- whether a sum is one that so many numbers can have
abbrev SumFits : Option (ℕ × ℤ) → Type 0
SumFits o = IfSome o (λ t. IsSumOf t.0 t.1)

sum-added : (v : ℤ) (o : Option (ℕ × ℤ)) → FitsSigned w64 v → SumFits o → IsSumOf (count_sum_with v o).0 (count_sum_with v o).1
sum-added v None fits h = (omega (arith, ints), omega (arith, ints))
sum-added v (Some t) fits h = (omega (arith, ints), omega (arith, ints))

sums_fit : (ps : List Pair) → PairsFit ps → (k : Option Key) → SumFits (fin.get (totals ps) k)
sums_fit [] h k = subst SumFits (sym (fin.get-empty line_cmp k)) tt
sums_fit (p ∷ ps) h k =
    subst SumFits (sym (get-with_pair p ps k))
    (either SumFits (eq_by_cmp line_cmp k p.0) (Some (count_sum_with p.1 (fin.get (totals ps) p.0))) (fin.get (totals ps) k) (sum-added p.1 (fin.get (totals ps) p.0) h.0 (sums_fit ps h.1 p.0)) (sums_fit ps h.1 k))

leaves : (v : ℤ) (o : Option (ℕ × ℤ)) → SumFits o → CanRetract v (Some (count_sum_with v o))
leaves v None h = (omega arith, (omega (arith, ints), omega (arith, ints)))
leaves v (Some t) h = (omega arith, (omega (arith, ints), omega (arith, ints)))

-- a pair that was added can be retracted
pub can_retract : (p : Pair) (ps : List Pair) → PairsFit (p ∷ ps) → CanRetract p.1 (fin.get (totals (p ∷ ps)) p.0)
can_retract p ps h =
    subst (CanRetract p.1) (sym (ap (λ m. fin.get m p.0) (totals-cons p ps) ∙ get_inserted (totals ps) p.0 (count_sum_with p.1 (fin.get (totals ps) p.0)))) (leaves p.1 (fin.get (totals ps) p.0) (sums_fit ps h.1 p.0))

-- totals of at most 2^26 pairs, both counted together, can be joined
pub can_join : (ps qs : List Pair) → length ps + length qs ≤ 2 ^ 26 → CanJoin (totals ps) (totals qs)
can_join ps qs few k = let one = counted ps k in let other = counted qs k in omega arith

-- the count and the sum of at most 2^26 numbers are valid
pub folded : (v : ℤ) (vs : List ℤ) → AllByRecursion (FitsSigned w64) (v ∷ vs) → length (v ∷ vs) ≤ 2 ^ 26 → IsCountSum (count_sum (v ∷ vs))
folded v vs fits few = (omega arith, few, (int_sum-low (v ∷ vs) fits, int_sum-high (v ∷ vs) fits))
