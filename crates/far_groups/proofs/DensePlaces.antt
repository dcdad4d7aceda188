-- The totals of a list by place: how they change at one place, and when another list is joined.
use Rattle.std.proofs.Common.{◌≡◌, ℕ, ◌+◌, ◌-◌, ◌^◌, ◌≤◌, ◌<◌, ◌==◌, Bool, true, false, cond, suc, [], ◌∷◌, ◌++◌, length, get_or, take, refl, sym, ap, ◌∙◌, subst, Option, None, Some, arith, slice_set}
use Rattle.std.specs.Prelude.{ℤ, ◌-ℤ◌, IfSome}
use Rattle.std.specs.FinMap as fin
use Rattle.std.proofs.Math.Seq.{take-suc}
use Rattle.std.proofs.lemmas.List.{length-take-le}
use Rattle.std.proofs.lemmas.Bool.Decides.{nat_tests}
use Rattle.far_types.specs.declared.key.Key.{Key}
use Rattle.far_types.specs.Answers.{Totals}
use Rattle.far_types.specs.Effects.{add_count_sums, merge_two, joined_totals, count_in}
use Rattle.far_types.proofs.AnswersGrouping.{get-joined}
use Rattle.far_types.proofs.AnswersByKeyMaps.{IsSet, with_more, get_at, set_inserts, set_removes, joined-empty, merge_two_none, moved_out}
use Rattle.far_groups.specs.Live.{CanJoin}
use Rattle.far_groups.specs.CountSums.{IsCountSum, AreCountSums, with_count_sum, LeavesCountSum, without_less, without_count_sum}
use Rattle.far_groups.specs.Dense.{place_key, standing, entries_from, by_place}
use Rattle.far_groups.proofs.CountSumsLaws.{last_goes, rest_stays}
use Rattle.far_groups.proofs.DenseLaws.{Places, lines_from, none_behind, none_elsewhere, at_place, set_place, push_place, push_none}

-- the key of a place finds the count and the sum there, unless the count is 0
pub get_place : (ts : Places) (k : ℕ) (t : ℕ × ℤ) → k < length ts → t ≡ get_or ts k t → fin.get (by_place ts) (place_key k) ≡ standing t
get_place ts k t within is = get_at (lines_from 0 ts) (place_key k) ∙ at_place 0 k k ts t (omega arith) within ∙ ap standing (sym is)

-- a place after the last one finds nothing
pub get_behind : (ts : Places) (k : ℕ) → length ts ≤ k → fin.get (by_place ts) (place_key k) ≡ None
get_behind ts k high = get_at (lines_from 0 ts) (place_key k) ∙ none_behind 0 k ts (omega arith)

-- a key without a place finds nothing
pub get_elsewhere : (ts : Places) (q : Option Key) → ((place : ℕ) → q ≡ place_key place → ⊥) → fin.get (by_place ts) q ≡ None
get_elsewhere ts q other = get_at (lines_from 0 ts) q ∙ none_elsewhere 0 ts q other

-- a place whose count is not 0 has its count and sum
pub stands : (t : ℕ × ℤ) → (t.0 ≡ 0 → ⊥) → standing t ≡ Some t
stands t some = let test : (t.0 == 0) ≡ false = grind (arith, nat_tests) in ap (λ b. cond b None (Some t)) test

pub gone : (t : ℕ × ℤ) → t.0 ≡ 0 → standing t ≡ None
gone t none = let test : (t.0 == 0) ≡ true = grind (arith, nat_tests) in ap (λ b. cond b None (Some t)) test

-- proof by cases: the count is 0, or it is not 0
pub by_count : (t : ℕ × ℤ) (P : Type 0) → (t.0 ≡ 0 → P) → ((t.0 ≡ 0 → ⊥) → P) → P
by_count t P none some = at_test (t.0 == 0) refl where
  at_test : (b : Bool) → (t.0 == 0) ≡ b → P
  at_test true is = none (grind (arith, nat_tests))
  at_test false is = some (λ h. grind (arith, nat_tests))

-- adding at a place
pub place_added : (ts : Places) (k : ℕ) (t u more : ℕ × ℤ) → k < length ts → t ≡ get_or ts k t → u ≡ with_more add_count_sums more (standing t) → IsCountSum u → by_place (slice_set ts k u) ≡ with_count_sum (by_place ts) (place_key k) more
place_added ts k t u more within is sum valid_sums =
    set_inserts (lines_from 0 ts) (lines_from 0 (slice_set ts k u)) (place_key k) u
    (subst (IsSet (lines_from 0 ts) (lines_from 0 (slice_set ts k u)) (place_key k)) (stands u (λ h. omega arith)) (set_place 0 k k ts u (omega arith) within))
    ∙ ap (fin.insert (by_place ts) (place_key k)) (sum ∙ ap (with_more add_count_sums more) (sym (get_place ts k t within is)))

-- a place from which rows can be retracted has a count and a sum
pub retracted_stands : (t less : ℕ × ℤ) → LeavesCountSum less (standing t) → standing t ≡ Some t
retracted_stands t less there = by_count t (standing t ≡ Some t) (λ none. absurd (subst (LeavesCountSum less) (gone t none) there)) (stands t)

-- subtracting at a place
pub place_subtracted : (ts : Places) (k : ℕ) (t rest less : ℕ × ℤ) → k < length ts → t ≡ get_or ts k t → rest ≡ (t.0 - less.0, t.1 -ℤ less.1) → LeavesCountSum less (fin.get (by_place ts) (place_key k)) → by_place (slice_set ts k rest) ≡ without_count_sum (by_place ts) (place_key k) less
place_subtracted ts k t rest less within is left there =
    let found = get_place ts k t within is in
    let some = found ∙ retracted_stands t less (subst (LeavesCountSum less) found there) in
    let has = subst (LeavesCountSum less) some there in
    let set = set_place 0 k k ts rest (omega arith) within in
    let put = IsSet (lines_from 0 ts) (lines_from 0 (slice_set ts k rest)) (place_key k) in
    by_count rest (by_place (slice_set ts k rest) ≡ without_less (by_place ts) (place_key k) less (Some t)) (λ none.
    set_removes (lines_from 0 ts) (lines_from 0 (slice_set ts k rest)) (place_key k) (subst put (gone rest none) set)
    ∙ last_goes (by_place ts) (place_key k) less t rest left has.0 none) (λ more.
    set_inserts (lines_from 0 ts) (lines_from 0 (slice_set ts k rest)) (place_key k) rest (subst put (stands rest more) set)
    ∙ rest_stays (by_place ts) (place_key k) less t rest left more)
    ∙ ap (without_less (by_place ts) (place_key k) less) (sym some)

-- the first k + 1 places are the first k places and the next one
next_place : (ts : Places) (k : ℕ) (t : ℕ × ℤ) → k < length ts → t ≡ get_or ts k t → take (k + 1) ts ≡ take k ts ++ t ∷ []
next_place ts k t within is =
    let one : k + 1 ≡ suc k = omega arith in
    ap (λ (n : ℕ). take n ts) one ∙ take-suc ts k t within ∙ ap (λ (x : ℕ × ℤ). take k ts ++ x ∷ []) (sym is)

-- if the next place has count 0, it adds nothing
pub next_none : (ts : Places) (k : ℕ) (t : ℕ × ℤ) → k < length ts → t ≡ get_or ts k t → t.0 ≡ 0 → entries_from 0 (take (k + 1) ts) ≡ entries_from 0 (take k ts)
next_none ts k t within is none = ap (entries_from 0) (next_place ts k t within is) ∙ push_none 0 (take k ts) t none

-- if the next place has another count:
module _ (ts : Places) (k : ℕ) (t : ℕ × ℤ) (within : k < length ts) (is : t ≡ get_or ts k t) (some : t.0 ≡ 0 → ⊥) where
  len : length (take k ts) ≡ k
  len = length-take-le k ts (omega arith)

  pub next_new : fin.get (by_place (take k ts)) (place_key k) ≡ None
  next_new = get_behind (take k ts) k (omega (arith, len))

  next_inserts : by_place (take (k + 1) ts) ≡ fin.insert (by_place (take k ts)) (place_key k) t
  next_inserts =
      ap by_place (next_place ts k t within is)
      ∙ set_inserts (lines_from 0 (take k ts)) (lines_from 0 (take k ts ++ t ∷ [])) (place_key k) t
      (subst (IsSet (lines_from 0 (take k ts)) (lines_from 0 (take k ts ++ t ∷ [])) (place_key k)) (stands t some) (push_place 0 k (take k ts) t (omega (arith, len))))

  -- its count and sum are added under its key
  pub next_more : with_count_sum (by_place (take k ts)) (place_key k) t ≡ by_place (take (k + 1) ts)
  next_more = ap (λ o. fin.insert (by_place (take k ts)) (place_key k) (with_more add_count_sums t o)) next_new ∙ sym next_inserts

  -- they are also added to totals that the places are joined to
  pub next_joined : (m : Totals) → with_count_sum (joined_totals m (by_place (take k ts))) (place_key k) t ≡ joined_totals m (by_place (take (k + 1) ts))
  next_joined m = sym (moved_out add_count_sums m (by_place (take k ts)) (place_key k) t next_new) ∙ ap (joined_totals m) (sym next_inserts)

  -- they are valid
  pub next_count_sum : AreCountSums (by_place ts) → IsCountSum t
  next_count_sum all = subst (λ o. IfSome o IsCountSum) (get_place ts k t within is ∙ stands t some) (all (place_key k))

  -- there is capacity for them
  pub next_capacity : (m : Totals) → CanJoin m (by_place ts) → count_in (fin.get (joined_totals m (by_place (take k ts))) (place_key k)) + t.0 ≤ 2 ^ 26
  next_capacity m can =
      let own = get-joined add_count_sums m (by_place (take k ts)) (place_key k) ∙ ap (merge_two add_count_sums (fin.get m (place_key k))) next_new ∙ merge_two_none add_count_sums (fin.get m (place_key k)) in
      subst (λ o. count_in o + t.0 ≤ 2 ^ 26) (sym own)
      (subst (λ o. count_in (fin.get m (place_key k)) + count_in o ≤ 2 ^ 26) (get_place ts k t within is ∙ stands t some) (can (place_key k)))

-- joining no places changes nothing
pub no_places : (m : Totals) (ts : Places) → joined_totals m (by_place (take 0 ts)) ≡ m
no_places m ts = joined-empty add_count_sums m
