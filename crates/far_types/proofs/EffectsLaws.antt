-- Totals and extrema with one pair more, with one less, in another order, and joined.
use Rattle.std.proofs.Common.{◌≡◌, ℕ, suc, ◌+◌, ◌-◌, true, false, cond, List, [], ◌∷◌, ◌++◌, length, refl, sym, ap, ◌∙◌, arith, Option, None, Some, ◌==◌}
use Rattle.std.specs.Prelude.{ℤ, ◌+ℤ◌, ◌-ℤ◌}
use Rattle.std.specs.Ordering.{eq_by_cmp}
use Rattle.std.proofs.lemmas.Int.{ints}
use Rattle.std.proofs.lemmas.Bool.Decides.{nat_tests}
use Rattle.std.specs.FinMap as fin
use Rattle.far_types.specs.declared.key.Key.{Key}
use Rattle.far_types.specs.Keys.{line_cmp}
use Rattle.far_types.specs.KeyOrder.{line_total}
use Rattle.far_types.specs.Pairs.{Pair}
use Rattle.far_types.specs.Answers.{ByKey, values_of, count_sum, min_max, totals, extrema}
use Rattle.far_types.specs.Effects.{count_sum_with, count_sum_without, min_max_with, with_pair, without_pair, without_value, with_observed, add_count_sums, join_min_maxes, joined_totals, joined_extrema}
use Rattle.far_types.proofs.AnswersGrouping.{same, same_key, own_key, if_any, get-grouped, grouped-cons, grouped-among, grouped-append}
use Rattle.far_types.proofs.AnswersValues.{count_sum-cons, count_sum-among, count_sum-append, min_max-cons, min_max-among, min_max-append}

pub totals-cons : (p : Pair) (ps : List Pair) → totals (p ∷ ps) ≡ with_pair (totals ps) p
totals-cons p ps = grouped-cons count_sum count_sum_with count_sum-cons p ps

pub totals-among : (ps : List Pair) (p : Pair) (qs : List Pair) → totals (ps ++ p ∷ qs) ≡ totals (p ∷ (ps ++ qs))
totals-among ps p qs = grouped-among count_sum count_sum-among ps p qs

pub totals-append : (ps qs : List Pair) → totals (ps ++ qs) ≡ joined_totals (totals ps) (totals qs)
totals-append ps qs = grouped-append count_sum add_count_sums count_sum-append ps qs

pub extrema-cons : (p : Pair) (ps : List Pair) → extrema (p ∷ ps) ≡ with_observed (extrema ps) p
extrema-cons p ps = grouped-cons min_max min_max_with min_max-cons p ps

pub extrema-among : (ps : List Pair) (p : Pair) (qs : List Pair) → extrema (ps ++ p ∷ qs) ≡ extrema (p ∷ (ps ++ qs))
extrema-among ps p qs = grouped-among min_max min_max-among ps p qs

pub extrema-append : (ps qs : List Pair) → extrema (ps ++ qs) ≡ joined_extrema (extrema ps) (extrema qs)
extrema-append ps qs = grouped-append min_max join_min_maxes min_max-append ps qs

-- a removal undoes an insert under a new key
insert-undone : {V : Type 0} (m : ByKey V) (k : Option Key) (x : V) → fin.get m k ≡ None → fin.remove (fin.insert m k x) k ≡ m
insert-undone m k x none = same _ _ (λ q.
    fin.get-remove line_total (fin.insert m k x) k q
    ∙ ap (cond (eq_by_cmp line_cmp q k) None) (fin.get-insert line_total m k x q)
    ∙ elim (eq_by_cmp line_cmp q k) as (λ b. eq_by_cmp line_cmp q k ≡ b → cond b None (cond b (Some x) (fin.get m q)) ≡ fin.get m q) [
      | true ↦ λ h. sym (ap (fin.get m) (same_key q k h) ∙ none)
      | false ↦ λ h. refl
    ] refl)

insert-again : {V : Type 0} (m : ByKey V) (k : Option Key) (x y : V) → fin.get m k ≡ Some y → fin.insert (fin.insert m k x) k y ≡ m
insert-again m k x y some = same _ _ (λ q.
    fin.get-insert line_total (fin.insert m k x) k y q
    ∙ ap (cond (eq_by_cmp line_cmp q k) (Some y)) (fin.get-insert line_total m k x q)
    ∙ elim (eq_by_cmp line_cmp q k) as (λ b. eq_by_cmp line_cmp q k ≡ b → cond b (Some y) (cond b (Some x) (fin.get m q)) ≡ fin.get m q) [
      | true ↦ λ h. sym (ap (fin.get m) (same_key q k h) ∙ some)
      | false ↦ λ h. refl
    ] refl)

subtracted-added : (v : ℤ) (count_sum : ℕ × ℤ) → count_sum_without v (count_sum_with v (Some count_sum)) ≡ count_sum
subtracted-added v count_sum =
    let count : count_sum.0 + 1 - 1 ≡ count_sum.0 = omega arith in
    let sum : (count_sum.1 +ℤ v) -ℤ v ≡ count_sum.1 = omega (arith, ints) in
    λ i. (count i, sum i)

not_last : (n : ℕ) → (suc n + 1 == 1) ≡ false
not_last n = grind (arith, nat_tests)

-- taking away the value that was added last restores the totals
added_undone : (m : fin.FinMap line_cmp (ℕ × ℤ)) (k : Option Key) (v : ℤ) (vs : List ℤ) → fin.get m k ≡ if_any vs (count_sum vs) → without_value (fin.insert m k (count_sum_with v (fin.get m k))) k v (Some (count_sum_with v (fin.get m k))) ≡ m
added_undone m k v [] h =
    ap (λ o. without_value (fin.insert m k (count_sum_with v o)) k v (Some (count_sum_with v o))) h
    ∙ insert-undone m k (1, v) h
added_undone m k v (w ∷ ws) h =
    ap (λ o. without_value (fin.insert m k (count_sum_with v o)) k v (Some (count_sum_with v o))) h
    ∙ ap (λ b. cond b (fin.remove (fin.insert m k (count_sum_with v (Some (count_sum (w ∷ ws))))) k) (fin.insert (fin.insert m k (count_sum_with v (Some (count_sum (w ∷ ws))))) k (count_sum_without v (count_sum_with v (Some (count_sum (w ∷ ws))))))) (not_last (length ws))
    ∙ ap (λ t. fin.insert (fin.insert m k (count_sum_with v (Some (count_sum (w ∷ ws))))) k t) (subtracted-added v (count_sum (w ∷ ws)))
    ∙ insert-again m k _ (count_sum (w ∷ ws)) h

get_inserted : {V : Type 0} (m : ByKey V) (k : Option Key) (x : V) → fin.get (fin.insert m k x) k ≡ Some x
get_inserted m k x = fin.get-insert line_total m k x k ∙ ap (λ b. cond b (Some x) (fin.get m k)) (own_key k)

pub without_pair-totals : (p : Pair) (ps : List Pair) → without_pair (totals (p ∷ ps)) p ≡ totals ps
without_pair-totals p ps =
    ap (λ m. without_pair m p) (totals-cons p ps)
    ∙ ap (without_value (with_pair (totals ps) p) p.0 p.1) (get_inserted (totals ps) p.0 (count_sum_with p.1 (fin.get (totals ps) p.0)))
    ∙ added_undone (totals ps) p.0 p.1 (values_of p.0 ps) (get-grouped count_sum ps p.0)
