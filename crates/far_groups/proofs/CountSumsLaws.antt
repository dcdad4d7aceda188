-- Totals with a count and a sum added or subtracted under one key, and totals that are joined.
use Rattle.std.proofs.Common.{◌≡◌, ℕ, ◌+◌, ◌-◌, ◌^◌, ◌≤◌, ◌==◌, Bool, true, false, cond, refl, sym, ap, ◌∙◌, subst, Option, None, Some, arith}
use Rattle.std.specs.Prelude.{ℤ, ◌-ℤ◌, IfSome}
use Rattle.std.specs.Ordering.{eq_by_cmp}
use Rattle.std.proofs.lemmas.Int.{ints}
use Rattle.std.proofs.lemmas.Bool.Decides.{nat_tests}
use Rattle.std.specs.FinMap as fin
use Rattle.far_types.specs.declared.key.Key.{Key}
use Rattle.far_types.specs.Keys.{line_cmp}
use Rattle.far_types.specs.KeyOrder.{line_total}
use Rattle.far_types.specs.Answers.{Totals}
use Rattle.far_types.specs.Effects.{count_sum_with, with_pair, without_value, without_pair, add_count_sums, count_in}
use Rattle.far_types.proofs.AnswersByKeyMaps.{Entries, with_more, at, IsSet, set_inserts, set_removes, set_again, get_at}
use Rattle.far_groups.specs.CountSums.{totals_of, IsSumOf, IsCountSum, AreCountSums, with_count_sum, LeavesCountSum, without_less, without_count_sum}

-- one pair is a count of 1 and its value
more_of_one : (v : ℤ) (o : Option (ℕ × ℤ)) → with_more add_count_sums (1, v) o ≡ count_sum_with v o
more_of_one v None = refl
more_of_one v (Some t) = refl

pub with_count_sum-one : (m : Totals) (k : Option Key) (v : ℤ) → with_count_sum m k (1, v) ≡ with_pair m (k, v)
with_count_sum-one m k v = ap (fin.insert m k) (more_of_one v (fin.get m k))

less_of_one : (m : Totals) (k : Option Key) (v : ℤ) (o : Option (ℕ × ℤ)) → without_less m k (1, v) o ≡ without_value m k v o
less_of_one m k v None = refl
less_of_one m k v (Some t) = refl

pub without_count_sum-one : (m : Totals) (k : Option Key) (v : ℤ) → without_count_sum m k (1, v) ≡ without_pair m (k, v)
without_count_sum-one m k v = less_of_one m k v (fin.get m k)

-- the count that a body reads is the count of the pair
pub no_count : {t : ℕ × ℤ} {count : ℕ} {sum : ℤ} → (count, sum) ≡ t → count ≡ 0 → t.0 ≡ 0
no_count is none = ap (λ (u : ℕ × ℤ). u.0) (sym is) ∙ none

pub some_count : {t : ℕ × ℤ} {count : ℕ} {sum : ℤ} → (count, sum) ≡ t → (count ≡ 0 → ⊥) → t.0 ≡ 0 → ⊥
some_count is some none = some (ap (λ (u : ℕ × ℤ). u.0) is ∙ none)

pub if_found : (o : Option (ℕ × ℤ)) (t : ℕ × ℤ) → o ≡ Some t → IfSome o IsCountSum → IsCountSum t
if_found o t e h = subst (λ o. IfSome o IsCountSum) e h

pub sum_valid_sums : (t u : ℕ × ℤ) → IsCountSum t → IsCountSum u → t.0 + u.0 ≤ 2 ^ 26 → IsCountSum (add_count_sums t u)
sum_valid_sums t u h k capacity = (omega arith, capacity, (omega (arith, ints), omega (arith, ints)))

chosen : (b : Bool) (o p : Option (ℕ × ℤ)) → IfSome o IsCountSum → IfSome p IsCountSum → IfSome (cond b o p) IsCountSum
chosen true o p h k = h
chosen false o p h k = k

pub AreCountSums-empty : AreCountSums fin.empty
AreCountSums-empty q = subst (λ o. IfSome o IsCountSum) (sym (fin.get-empty line_cmp q)) tt

pub AreCountSums-insert : (m : Totals) (k : Option Key) (t : ℕ × ℤ) → AreCountSums m → IsCountSum t → AreCountSums (fin.insert m k t)
AreCountSums-insert m k t all h q =
    subst (λ o. IfSome o IsCountSum) (sym (fin.get-insert line_total m k t q)) (chosen (eq_by_cmp line_cmp q k) (Some t) (fin.get m q) h (all q))

pub AreCountSums-remove : (m : Totals) (k : Option Key) → AreCountSums m → AreCountSums (fin.remove m k)
AreCountSums-remove m k all q =
    subst (λ o. IfSome o IsCountSum) (sym (fin.get-remove line_total m k q)) (chosen (eq_by_cmp line_cmp q k) None (fin.get m q) tt (all q))

pub AreCountSums-with : (m : Totals) (k : Option Key) (more : ℕ × ℤ) → AreCountSums m → IsCountSum more → count_in (fin.get m k) + more.0 ≤ 2 ^ 26 → AreCountSums (with_count_sum m k more)
AreCountSums-with m k more all h capacity = AreCountSums-insert m k (with_more add_count_sums more (fin.get m k)) all (more_valid_sums (fin.get m k) (all k) capacity) where
  more_valid_sums : (o : Option (ℕ × ℤ)) → IfSome o IsCountSum → count_in o + more.0 ≤ 2 ^ 26 → IsCountSum (with_more add_count_sums more o)
  more_valid_sums None there capacity = h
  more_valid_sums (Some t) there capacity = sum_valid_sums t more there h capacity

-- a key whose remaining count is 0 is removed, and any other key keeps the rest
pub last_goes : (m : Totals) (k : Option Key) (less t rest : ℕ × ℤ) → rest ≡ (t.0 - less.0, t.1 -ℤ less.1) → less.0 ≤ t.0 → rest.0 ≡ 0 → fin.remove m k ≡ without_less m k less (Some t)
last_goes m k less t rest is low none =
    let same_count : t.0 - less.0 ≡ 0 = sym (ap (λ (r : ℕ × ℤ). r.0) is) ∙ none in
    let test : (t.0 == less.0) ≡ true = grind (arith, nat_tests) in
    sym (ap (λ b. cond b (fin.remove m k) (fin.insert m k (t.0 - less.0, t.1 -ℤ less.1))) test)

pub rest_stays : (m : Totals) (k : Option Key) (less t rest : ℕ × ℤ) → rest ≡ (t.0 - less.0, t.1 -ℤ less.1) → (rest.0 ≡ 0 → ⊥) → fin.insert m k rest ≡ without_less m k less (Some t)
rest_stays m k less t rest is some =
    let more : t.0 - less.0 ≡ 0 → ⊥ = λ h. some (ap (λ (r : ℕ × ℤ). r.0) is ∙ h) in
    let test : (t.0 == less.0) ≡ false = grind (arith, nat_tests) in
    ap (fin.insert m k) is ∙ sym (ap (λ b. cond b (fin.remove m k) (fin.insert m k (t.0 - less.0, t.1 -ℤ less.1))) test)

rest_valid_sums : (b : Bool) (m : Totals) (k : Option Key) (less t : ℕ × ℤ) → (t.0 == less.0) ≡ b → AreCountSums m → IsCountSum t → less.0 ≤ t.0 → IsSumOf (t.0 - less.0) (t.1 -ℤ less.1) → AreCountSums (cond b (fin.remove m k) (fin.insert m k (t.0 - less.0, t.1 -ℤ less.1)))
rest_valid_sums true m k less t test all h low sum = AreCountSums-remove m k all
rest_valid_sums false m k less t test all h low sum =
    let some : 1 ≤ t.0 - less.0 = grind (arith, nat_tests) in
    AreCountSums-insert m k (t.0 - less.0, t.1 -ℤ less.1) all (some, omega arith, sum)

pub AreCountSums-without : (m : Totals) (k : Option Key) (less : ℕ × ℤ) → AreCountSums m → LeavesCountSum less (fin.get m k) → AreCountSums (without_count_sum m k less)
AreCountSums-without m k less all there = at_key (fin.get m k) (all k) there where
  at_key : (o : Option (ℕ × ℤ)) → IfSome o IsCountSum → LeavesCountSum less o → AreCountSums (without_less m k less o)
  at_key None h there = all
  at_key (Some t) h there = rest_valid_sums _ m k less t refl all h there.0 there.1

-- the entry that was set last is removed, if its remaining count is 0
pub retracted_whole : (old mid new : Entries (ℕ × ℤ)) (k : Option Key) (less t rest : ℕ × ℤ) → Some t ≡ at old k → IsSet old mid k (Some t) → IsSet mid new k None → rest ≡ (t.0 - less.0, t.1 -ℤ less.1) → LeavesCountSum less (at old k) → rest.0 ≡ 0 → totals_of new ≡ without_count_sum (totals_of old) k less
retracted_whole old mid new k less t rest found set gone is there none =
    let has = subst (LeavesCountSum less) (sym found) there in
    set_removes old new k (set_again old mid new k (Some t) None set gone)
    ∙ last_goes (totals_of old) k less t rest is has.0 none
    ∙ ap (without_less (totals_of old) k less) (found ∙ sym (get_at old k))

-- the rest is set, if its count is not 0
pub retracted_part : (old new : Entries (ℕ × ℤ)) (k : Option Key) (less t rest : ℕ × ℤ) → Some t ≡ at old k → IsSet old new k (Some rest) → rest ≡ (t.0 - less.0, t.1 -ℤ less.1) → (rest.0 ≡ 0 → ⊥) → totals_of new ≡ without_count_sum (totals_of old) k less
retracted_part old new k less t rest found set is some =
    set_inserts old new k rest set
    ∙ rest_stays (totals_of old) k less t rest is some
    ∙ ap (without_less (totals_of old) k less) (found ∙ sym (get_at old k))
