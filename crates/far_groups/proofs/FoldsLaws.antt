-- Totals into which pairs are folded one after another, and from which they are retracted again.
use Rattle.std.proofs.Common.{◌≡◌, ℕ, zero, suc, ◌+◌, ◌^◌, ◌<◌, ◌≤◌, true, false, cond, List, [], ◌∷◌, take, slice_get, refl, sym, ap, ◌∙◌, subst, Option, None, Some, arith}
use Rattle.std.specs.Prelude.{ℤ, ◌+ℤ◌, FitsSigned}
use Rattle.std.specs.Int.{w64}
use Rattle.std.specs.Ordering.{eq_by_cmp}
use Rattle.std.proofs.lemmas.Int.{ints}
use Rattle.std.specs.FinMap as fin
use Rattle.far_types.specs.Keys.{line_cmp}
use Rattle.far_types.specs.KeyOrder.{line_total}
use Rattle.far_types.specs.Pairs.{Pair, PairsFit}
use Rattle.far_types.specs.Answers.{Totals, totals}
use Rattle.far_types.specs.Effects.{count_sum_with, with_pair, merge_two, joined_totals, add_count_sums, count_in}
use Rattle.far_types.proofs.AnswersGrouping.{same, same_key, get-joined}
use Rattle.far_types.proofs.AnswersByKeyMaps.{joined-empty, get_inserted}
use Rattle.far_types.proofs.EffectsLaws.{totals-cons}
use Rattle.far_groups.specs.Live.{CanJoin}
use Rattle.far_groups.specs.CountSums.{IsCountSum, AreCountSums, LeavesCountSum, without_count_sum}
use Rattle.far_groups.specs.Folds.{with_pairs, CanFoldAll}
use Rattle.far_groups.proofs.CountSumsLaws.{with_count_sum-one, AreCountSums-with}
use Rattle.far_groups.proofs.CountSumsMerge.{leaves, with_undone}

-- a value can be added to either of two counts and sums before they are merged
both_added : (v : ℤ) (o t : Option (ℕ × ℤ)) → merge_two add_count_sums (Some (count_sum_with v o)) t ≡ merge_two add_count_sums o (Some (count_sum_with v t))
both_added v None None = refl
both_added v None (Some y) = let n : 1 + y.0 ≡ y.0 + 1 = omega arith in let s : v +ℤ y.1 ≡ y.1 +ℤ v = omega (arith, ints) in λ i. Some (n i, s i)
both_added v (Some x) None = refl
both_added v (Some x) (Some y) =
    let n : x.0 + 1 + y.0 ≡ x.0 + (y.0 + 1) = omega arith in
    let s : (x.1 +ℤ v) +ℤ y.1 ≡ x.1 +ℤ (y.1 +ℤ v) = omega (arith, ints) in
    λ i. Some (n i, s i)

-- a pair can be added to either of two totals before they are joined
pair_moved : (m n : Totals) (p : Pair) → joined_totals (with_pair m p) n ≡ joined_totals m (with_pair n p)
pair_moved m n p = same _ _ (λ q.
    get-joined add_count_sums (with_pair m p) n q
    ∙ ap (λ o. merge_two add_count_sums o (fin.get n q)) (fin.get-insert line_total m p.0 (count_sum_with p.1 (fin.get m p.0)) q)
    ∙ elim (eq_by_cmp line_cmp q p.0) as (λ b. eq_by_cmp line_cmp q p.0 ≡ b → merge_two add_count_sums (cond b (Some (count_sum_with p.1 (fin.get m p.0))) (fin.get m q)) (fin.get n q) ≡ merge_two add_count_sums (fin.get m q) (cond b (Some (count_sum_with p.1 (fin.get n p.0))) (fin.get n q))) [
      | true ↦ λ h.
          let key = same_key q p.0 h in
          ap (λ k. merge_two add_count_sums (Some (count_sum_with p.1 (fin.get m p.0))) (fin.get n k)) key
          ∙ both_added p.1 (fin.get m p.0) (fin.get n p.0)
          ∙ ap (λ k. merge_two add_count_sums (fin.get m k) (Some (count_sum_with p.1 (fin.get n p.0)))) (sym key)
      | false ↦ λ h. refl
    ] refl
    ∙ ap (merge_two add_count_sums (fin.get m q)) (sym (fin.get-insert line_total n p.0 (count_sum_with p.1 (fin.get n p.0)) q))
    ∙ sym (get-joined add_count_sums m (with_pair n p) q))

-- folding pairs one after another is joining their totals
pub with_pairs-joined : (m : Totals) (ps : List Pair) → with_pairs m ps ≡ joined_totals m (totals ps)
with_pairs-joined m [] = sym (joined-empty add_count_sums m)
with_pairs-joined m (p ∷ ps) = with_pairs-joined (with_pair m p) ps ∙ pair_moved m (totals ps) p ∙ ap (joined_totals m) (sym (totals-cons p ps))

count-added : (v : ℤ) (o : Option (ℕ × ℤ)) → (count_sum_with v o).0 ≡ count_in o + 1
count-added v None = refl
count-added v (Some t) = refl

-- totals can still be joined if a pair of the second is folded into the first
rest_joins : (m n : Totals) (p : Pair) → CanJoin m (with_pair n p) → CanJoin (with_pair m p) n
rest_joins m n p can q =
    subst (λ o. count_in o + count_in (fin.get n q) ≤ 2 ^ 26) (sym (fin.get-insert line_total m p.0 (count_sum_with p.1 (fin.get m p.0)) q))
    (elim (eq_by_cmp line_cmp q p.0) as (λ b. eq_by_cmp line_cmp q p.0 ≡ b → count_in (fin.get m q) + count_in (cond b (Some (count_sum_with p.1 (fin.get n p.0))) (fin.get n q)) ≤ 2 ^ 26 → count_in (cond b (Some (count_sum_with p.1 (fin.get m p.0))) (fin.get m q)) + count_in (fin.get n q) ≤ 2 ^ 26) [
      | true ↦ λ h capacity.
          let key = same_key q p.0 h in
          let own : count_in (fin.get m q) ≡ count_in (fin.get m p.0) = ap (λ k. count_in (fin.get m k)) key in
          let other : count_in (fin.get n q) ≡ count_in (fin.get n p.0) = ap (λ k. count_in (fin.get n k)) key in
          let one = count-added p.1 (fin.get m p.0) in
          let two = count-added p.1 (fin.get n p.0) in
          omega arith
      | false ↦ λ h capacity. capacity
    ] refl (subst (λ o. count_in (fin.get m q) + count_in o ≤ 2 ^ 26) (fin.get-insert line_total n p.0 (count_sum_with p.1 (fin.get n p.0)) q) (can q)))

-- pairs can be folded if their totals can be joined
pub can_fold : (m : Totals) (ps : List Pair) → PairsFit ps → CanJoin m (totals ps) → CanFoldAll m ps
can_fold m [] fits can = tt
can_fold m (p ∷ ps) fits can =
    let joins = subst (CanJoin m) (totals-cons p ps) can in
    let here : count_in (fin.get (with_pair (totals ps) p) p.0) ≡ count_in (fin.get (totals ps) p.0) + 1 = ap count_in (get_inserted (totals ps) p.0 (count_sum_with p.1 (fin.get (totals ps) p.0))) ∙ count-added p.1 (fin.get (totals ps) p.0) in
    let capacity = joins p.0 in
    (fits.0, omega arith, can_fold (with_pair m p) ps fits.1 (rest_joins m (totals ps) p joins))

-- the count and the sum of one value are valid
valid_sums : (v : ℤ) → FitsSigned w64 v → IsCountSum (1, v)
valid_sums v h = (omega arith, omega arith, (omega (arith, ints), omega (arith, ints)))

same_some : (p q : Pair) → Some p ≡ Some q → p ≡ q
same_some p q e = cc

-- at a pair's turn, all pairs before it are folded in, and it can be folded
pub can_at : (m : Totals) (ps : List Pair) (i : ℕ) (p : Pair) → slice_get ps i ≡ Some p → CanFoldAll m ps → FitsSigned w64 p.1 × (count_in (fin.get (with_pairs m (take i ps)) p.0) < 2 ^ 26)
can_at m [] i p here can = cc
can_at m (q ∷ ps) zero p here can = subst (λ (r : Pair). FitsSigned w64 r.1 × (count_in (fin.get m r.0) < 2 ^ 26)) (same_some q p here) (can.0, can.1)
can_at m (q ∷ ps) (suc i) p here can = can_at (with_pair m q) ps i p here can.2

pairs-suc : (m : Totals) (ps : List Pair) (i : ℕ) (p : Pair) → slice_get ps i ≡ Some p → with_pairs m (take (suc i) ps) ≡ with_pair (with_pairs m (take i ps)) p
pairs-suc m [] i p here = cc
pairs-suc m (q ∷ ps) zero p here = ap (with_pair m) (same_some q p here)
pairs-suc m (q ∷ ps) (suc i) p here = pairs-suc (with_pair m q) ps i p here

pub pairs-next : (m : Totals) (ps : List Pair) (n i : ℕ) (p : Pair) → slice_get ps i ≡ Some p → n ≡ i + 1 → with_pairs m (take n ps) ≡ with_pair (with_pairs m (take i ps)) p
pairs-next m ps n i p here next = let one : n ≡ suc i = omega (arith, next) in ap (λ k. with_pairs m (take k ps)) one ∙ pairs-suc m ps i p here

-- the first pairs can be folded if all pairs can
pub first_fold : (m : Totals) (ps : List Pair) (i : ℕ) → CanFoldAll m ps → CanFoldAll m (take i ps)
first_fold m ps zero can = tt
first_fold m [] (suc i) can = tt
first_fold m (p ∷ ps) (suc i) can = (can.0, can.1, first_fold (with_pair m p) ps i can.2)

-- fewer of the first pairs can be folded, too
pub fewer_fold : (m : Totals) (ps : List Pair) (n c : ℕ) → n ≤ c → CanFoldAll m (take c ps) → CanFoldAll m (take n ps)
fewer_fold m ps zero c less can = tt
fewer_fold m [] (suc n) c less can = tt
fewer_fold m (p ∷ ps) (suc n) zero less can = absurd (omega arith)
fewer_fold m (p ∷ ps) (suc n) (suc c) less can = (can.0, can.1, fewer_fold (with_pair m p) ps n c (omega arith) can.2)

-- each value of the first pairs is a number of 64 bits
pub fits_at : (m : Totals) (ps : List Pair) (n c : ℕ) (p : Pair) → slice_get ps n ≡ Some p → n < c → CanFoldAll m (take c ps) → FitsSigned w64 p.1
fits_at m [] n c p here less can = cc
fits_at m (q ∷ ps) n zero p here less can = absurd (omega arith)
fits_at m (q ∷ ps) zero (suc c) p here less can = subst (λ (r : Pair). FitsSigned w64 r.1) (same_some q p here) can.0
fits_at m (q ∷ ps) (suc n) (suc c) p here less can = fits_at (with_pair m q) ps n c p here (omega arith) can.2

with_one : (m : Totals) (p : Pair) → FitsSigned w64 p.1 → count_in (fin.get m p.0) < 2 ^ 26 → AreCountSums m → AreCountSums (with_pair m p)
with_one m p fits few all = subst AreCountSums (with_count_sum-one m p.0 p.1) (AreCountSums-with m p.0 (1, p.1) all (valid_sums p.1 fits) (omega arith))

-- folding pairs keeps all counts and sums valid
pub folded_count_sums : (m : Totals) (ps : List Pair) → AreCountSums m → CanFoldAll m ps → AreCountSums (with_pairs m ps)
folded_count_sums m [] all can = all
folded_count_sums m (p ∷ ps) all can = folded_count_sums (with_pair m p) ps (with_one m p can.0 can.1 all) can.2

-- the pair that was folded last can be retracted, which restores the previous totals
pub last_leaves : (m : Totals) (p : Pair) → AreCountSums m → LeavesCountSum (1, p.1) (fin.get (with_pair m p) p.0)
last_leaves m p all = subst (λ t. LeavesCountSum (1, p.1) (fin.get t p.0)) (with_count_sum-one m p.0 p.1) (subst (LeavesCountSum (1, p.1)) (sym (get_inserted m p.0 _)) (leaves (1, p.1) (fin.get m p.0) (all p.0)))

pub last_undone : (m : Totals) (p : Pair) → AreCountSums m → without_count_sum (with_pair m p) p.0 (1, p.1) ≡ m
last_undone m p all = ap (λ t. without_count_sum t p.0 (1, p.1)) (sym (with_count_sum-one m p.0 p.1)) ∙ with_undone m p.0 (1, p.1) (all p.0)
