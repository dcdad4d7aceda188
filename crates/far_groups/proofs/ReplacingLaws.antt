-- Totals in which one value under a key is replaced by another.
use Rattle.std.proofs.Common.{◌≡◌, ℕ, ◌+◌, ◌-◌, ◌≤◌, ◌<◌, ◌==◌, true, false, cond, length, get_or, slice_set, refl, sym, ap, ◌∙◌, subst, Option, None, Some, arith}
use Rattle.std.specs.Prelude.{ℤ, ◌+ℤ◌, ◌-ℤ◌, FitsSigned}
use Rattle.std.specs.Int.{w64}
use Rattle.std.specs.Ordering.{eq_by_cmp}
use Rattle.std.proofs.lemmas.Bool.Decides.{nat_tests}
use Rattle.std.proofs.lemmas.Int.{ints}
use Rattle.std.specs.FinMap as fin
use Rattle.far_types.specs.declared.key.Key.{Key}
use Rattle.far_types.specs.Keys.{line_cmp}
use Rattle.far_types.specs.KeyOrder.{line_total}
use Rattle.far_types.specs.Answers.{Totals}
use Rattle.far_types.specs.Effects.{count_sum_with, count_sum_without, without_value, without_pair}
use Rattle.far_types.proofs.AnswersGrouping.{same}
use Rattle.far_types.proofs.AnswersByKeyMaps.{IsSet, get_inserted, set_inserts}
use Rattle.far_groups.specs.Live.{CanRetract, with_replaced}
use Rattle.far_groups.specs.CountSums.{IsCountSum, replaced}
use Rattle.far_groups.specs.Dense.{place_key, standing, by_place}
use Rattle.far_groups.specs.ByKey.{plain_totals}
use Rattle.far_groups.proofs.DenseLaws.{Places, lines_from, set_place}
use Rattle.far_groups.proofs.DensePlaces.{get_place, stands, gone, by_count}
use Rattle.far_groups.proofs.ByKeyLaws.{one_line, get_plain, get_under_key, set_plain}

-- of two inserts under a key, the last one counts
insert_over : (m : Totals) (k : Option Key) (x y : ℕ × ℤ) → fin.insert (fin.insert m k x) k y ≡ fin.insert m k y
insert_over m k x y = same _ _ (λ q.
    fin.get-insert line_total (fin.insert m k x) k y q
    ∙ ap (cond (eq_by_cmp line_cmp q k) (Some y)) (fin.get-insert line_total m k x q)
    ∙ elim (eq_by_cmp line_cmp q k) as (λ b. cond b (Some y) (cond b (Some x) (fin.get m q)) ≡ cond b (Some y) (fin.get m q)) [ true ↦ refl | false ↦ refl ]
    ∙ sym (fin.get-insert line_total m k y q))

one_less : (from to : ℤ) (t : ℕ × ℤ) → count_sum_without from (count_sum_with to (Some t)) ≡ replaced from to t
one_less from to t =
    let count : t.0 + 1 - 1 ≡ t.0 = omega arith in
    λ i. (count i, (t.1 +ℤ to) -ℤ from)

-- replacing a value keeps the count
pub replaced_inserts : (m : Totals) (k : Option Key) (from to : ℤ) (t : ℕ × ℤ) → fin.get m k ≡ Some t → 1 ≤ t.0 → fin.insert m k (replaced from to t) ≡ with_replaced m k from to
replaced_inserts m k from to t there some =
    let added = count_sum_with to (Some t) in
    let test : (t.0 + 1 == 1) ≡ false = grind (arith, nat_tests) in
    sym (
    ap (λ o. without_pair (fin.insert m k (count_sum_with to o)) (k, from)) there
    ∙ ap (without_value (fin.insert m k added) k from) (get_inserted m k added)
    ∙ ap (λ b. cond b (fin.remove (fin.insert m k added) k) (fin.insert (fin.insert m k added) k (count_sum_without from added))) test
    ∙ insert_over m k added (count_sum_without from added)
    ∙ ap (fin.insert m k) (one_less from to t)
    )

pub replaced_valid_sums : (t : ℕ × ℤ) (from to : ℤ) → IsCountSum t → CanRetract from (Some t) → FitsSigned w64 to → IsCountSum (replaced from to t)
replaced_valid_sums t from to valid_sums there fits = (valid_sums.0, valid_sums.1, (omega (arith, ints, valid_sums, there, fits), omega (arith, ints, valid_sums, there, fits)))

-- a place where a value can be replaced has a count and a sum
pub replacing_stands : (from : ℤ) (t : ℕ × ℤ) → CanRetract from (standing t) → standing t ≡ Some t
replacing_stands from t there = by_count t (standing t ≡ Some t) (λ none. absurd (subst (CanRetract from) (gone t none) there)) (stands t)

-- setting a count and a sum at a place
pub place_written : (ts : Places) (k : ℕ) (u : ℕ × ℤ) → k < length ts → IsCountSum u → by_place (slice_set ts k u) ≡ fin.insert (by_place ts) (place_key k) u
place_written ts k u within valid_sums =
    set_inserts (lines_from 0 ts) (lines_from 0 (slice_set ts k u)) (place_key k) u
    (subst (IsSet (lines_from 0 ts) (lines_from 0 (slice_set ts k u)) (place_key k)) (stands u (λ h. omega arith)) (set_place 0 k k ts u (omega arith) within))

pub place_replaced : (ts : Places) (k : ℕ) (t u : ℕ × ℤ) (from to : ℤ) → k < length ts → t ≡ get_or ts k t → u ≡ replaced from to t → IsCountSum u → CanRetract from (fin.get (by_place ts) (place_key k))
    → by_place (slice_set ts k u) ≡ with_replaced (by_place ts) (place_key k) from to
place_replaced ts k t u from to within is made valid_sums there =
    let found = get_place ts k t within is in
    let some = found ∙ replacing_stands from t (subst (CanRetract from) found there) in
    let one : 1 ≤ t.0 = subst (λ n. 1 ≤ n) (ap (λ (c : ℕ × ℤ). c.0) made) valid_sums.0 in
    place_written ts k u within valid_sums
    ∙ ap (fin.insert (by_place ts) (place_key k)) made
    ∙ replaced_inserts (by_place ts) (place_key k) from to t some one

-- under no key alone, a value can be replaced only under no key
replaced_key : (t : ℕ × ℤ) (from : ℤ) (q : Option Key) → CanRetract from (fin.get (plain_totals t) q) → q ≡ None
replaced_key t from None there = refl
replaced_key t from (Some k) there = absurd (subst (CanRetract from) (get_under_key t (Some k) refl) there)

pub replaced_there : (t : ℕ × ℤ) (from : ℤ) (q : Option Key) → CanRetract from (fin.get (plain_totals t) q) → CanRetract from (Some t)
replaced_there t from q there = subst (CanRetract from) (ap (fin.get (plain_totals t)) (replaced_key t from q there) ∙ get_plain t) there

pub plain_replaced : (t u : ℕ × ℤ) (from to : ℤ) (q : Option Key) → u ≡ replaced from to t → IsCountSum t → CanRetract from (fin.get (plain_totals t) q) → plain_totals u ≡ with_replaced (plain_totals t) q from to
plain_replaced t u from to q made valid_sums there =
    set_inserts (one_line t) (one_line u) None u (set_plain t u)
    ∙ ap (fin.insert (plain_totals t) None) made
    ∙ replaced_inserts (plain_totals t) None from to t (get_plain t) valid_sums.0
    ∙ ap (λ k. with_replaced (plain_totals t) k from to) (sym (replaced_key t from q there))
