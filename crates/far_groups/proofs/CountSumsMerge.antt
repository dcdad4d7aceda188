-- Totals to which the entries of other totals are added one after another, and from which they are retracted again.
use Rattle.std.proofs.Common.{◌≡◌, ℕ, ◌+◌, ◌-◌, ◌^◌, ◌≤◌, ◌==◌, true, false, cond, [], ◌∷◌, ◌++◌, refl, sym, ap, ◌∙◌, subst, Option, None, Some, arith, zero, suc, take, drop}
use Rattle.std.specs.Prelude.{ℤ, ◌+ℤ◌, ◌-ℤ◌, IfSome}
use Rattle.std.specs.Ordering.{eq_by_cmp}
use Rattle.std.proofs.lemmas.Int.{ints}
use Rattle.std.proofs.lemmas.List.{append-nil, take-append-drop}
use Rattle.std.proofs.lemmas.Bool.Decides.{nat_tests}
use Rattle.std.specs.FinMap as fin
use Rattle.far_types.specs.declared.key.Key.{Key}
use Rattle.far_types.specs.Keys.{line_cmp}
use Rattle.far_types.specs.KeyOrder.{line_total}
use Rattle.far_types.specs.Answers.{Totals}
use Rattle.far_types.specs.Effects.{merge_two, joined_totals, add_count_sums, count_in}
use Rattle.far_types.proofs.AnswersGrouping.{same_key, get-joined}
use Rattle.far_types.proofs.AnswersByKeyMaps.{Entries, with_more, with_all, with_all-joined, joined-empty, merge_two_none, moved_out, absent, HaveDistinctKeys, take_distinct, get_inserted, insert_undone, insert_again}
use Rattle.far_groups.specs.Live.{CanJoin}
use Rattle.far_groups.specs.CountSums.{totals_of, IsCountSum, AreCountSums, with_count_sum, LeavesCountSum, without_less, without_count_sum, CanRetractAll, without_all}

-- whether the entries of another map can be added one after another
abbrev pub CanAddAll : Totals → Entries (ℕ × ℤ) → Type 0
CanAddAll totals [] = Unit {0}
CanAddAll totals (entry ∷ entries) =
    IsCountSum entry.1 × (count_in (fin.get totals entry.0) + entry.1.0 ≤ 2 ^ 26) × CanAddAll (with_count_sum totals entry.0 entry.1) entries

-- the first entries of a list that begins with e
pub take_split : (n : ℕ) (es rest : Entries (ℕ × ℤ)) (e : Option Key × (ℕ × ℤ)) → es ≡ e ∷ rest → (n ≡ 0 → ⊥) → take n es ≡ e ∷ take (n - 1) rest
take_split zero es rest e is some = absurd (some refl)
take_split (suc n) es rest e is some = ap (take (suc n)) is ∙ ap (λ k. e ∷ take k rest) (omega arith)

-- the first entry can be retracted, and then the others
pub first_retracted : (m : Totals) (n : ℕ) (es rest : Entries (ℕ × ℤ)) (e : Option Key × (ℕ × ℤ)) → es ≡ e ∷ rest → (n ≡ 0 → ⊥) → CanRetractAll m (take n es) → LeavesCountSum e.1 (fin.get m e.0) × CanRetractAll (without_count_sum m e.0 e.1) (take (n - 1) rest) × (without_all (without_count_sum m e.0 e.1) (take (n - 1) rest) ≡ without_all m (take n es))
first_retracted m n es rest e is some can =
    let split = take_split n es rest e is some in
    let all = subst (CanRetractAll m) split can in
    (all.0, all.1, ap (without_all m) (sym split))

-- the first n + 1 entries are the first n entries and the next one
take_suc : (n : ℕ) (es rest : Entries (ℕ × ℤ)) (e : Option Key × (ℕ × ℤ)) → drop n es ≡ e ∷ rest → (take (suc n) es ≡ take n es ++ e ∷ []) × (drop (suc n) es ≡ rest)
take_suc zero es rest e is = (ap (take 1) is, ap (drop 1) is)
take_suc (suc n) [] rest e is = cc
take_suc (suc n) (x ∷ es) rest e is = (ap (λ ys. x ∷ ys) (take_suc n es rest e is).0, (take_suc n es rest e is).1)

pub take_more : (n : ℕ) (es rest : Entries (ℕ × ℤ)) (e : Option Key × (ℕ × ℤ)) → drop n es ≡ e ∷ rest → (take (n + 1) es ≡ take n es ++ e ∷ []) × (drop (n + 1) es ≡ rest)
take_more n es rest e is = let one : n + 1 ≡ suc n = omega arith in (ap (λ k. take k es) one ∙ (take_suc n es rest e is).0, ap (λ k. drop k es) one ∙ (take_suc n es rest e is).1)

-- retracting the entry that was added last undoes it
undone_at : (m : Totals) (k : Option Key) (t : ℕ × ℤ) (o : Option (ℕ × ℤ)) → fin.get m k ≡ o → IfSome o IsCountSum → without_less (fin.insert m k (with_more add_count_sums t o)) k t (Some (with_more add_count_sums t o)) ≡ m
undone_at m k t None is h =
    let test : (t.0 == t.0) ≡ true = grind (arith, nat_tests) in
    ap (λ b. cond b (fin.remove (fin.insert m k t) k) (fin.insert (fin.insert m k t) k (t.0 - t.0, t.1 -ℤ t.1))) test ∙ insert_undone m k t is
undone_at m k t (Some x) is h =
    let test : (x.0 + t.0 == t.0) ≡ false = grind (arith, nat_tests) in
    let count : x.0 + t.0 - t.0 ≡ x.0 = omega arith in
    let sum : (x.1 +ℤ t.1) -ℤ t.1 ≡ x.1 = omega (arith, ints) in
    ap (λ b. cond b (fin.remove (fin.insert m k (add_count_sums x t)) k) (fin.insert (fin.insert m k (add_count_sums x t)) k (x.0 + t.0 - t.0, (x.1 +ℤ t.1) -ℤ t.1))) test
    ∙ (λ i. fin.insert (fin.insert m k (add_count_sums x t)) k (count i, sum i))
    ∙ insert_again m k (add_count_sums x t) x is

pub with_undone : (m : Totals) (k : Option Key) (t : ℕ × ℤ) → IfSome (fin.get m k) IsCountSum → without_count_sum (with_count_sum m k t) k t ≡ m
with_undone m k t h = ap (without_less (with_count_sum m k t) k t) (get_inserted m k (with_more add_count_sums t (fin.get m k))) ∙ undone_at m k t (fin.get m k) refl h

pub leaves : (t : ℕ × ℤ) (o : Option (ℕ × ℤ)) → IfSome o IsCountSum → LeavesCountSum t (Some (with_more add_count_sums t o))
leaves t None h = (omega arith, (omega (arith, ints), omega (arith, ints)))
leaves t (Some x) h = (omega arith, (omega (arith, ints), omega (arith, ints)))

-- all joined entries can be retracted one after another, which restores the previous totals
pub all_undone : (m : Totals) (es : Entries (ℕ × ℤ)) → HaveDistinctKeys es → AreCountSums m → CanRetractAll (joined_totals m (totals_of es)) es × (without_all (joined_totals m (totals_of es)) es ≡ m)
all_undone m [] h all = (tt, joined-empty add_count_sums m)
all_undone m (e ∷ es) h all =
    let before = joined_totals m (totals_of es) in
    let none = absent es e.0 h.0 in
    let there : fin.get before e.0 ≡ fin.get m e.0 = get-joined add_count_sums m (totals_of es) e.0 ∙ ap (merge_two add_count_sums (fin.get m e.0)) none ∙ merge_two_none add_count_sums (fin.get m e.0) in
    let own : IfSome (fin.get before e.0) IsCountSum = subst (λ o. IfSome o IsCountSum) (sym there) (all e.0) in
    let last : joined_totals m (totals_of (e ∷ es)) ≡ with_count_sum before e.0 e.1 = moved_out add_count_sums m (totals_of es) e.0 e.1 none in
    let retracted : without_count_sum (joined_totals m (totals_of (e ∷ es))) e.0 e.1 ≡ before = ap (λ x. without_count_sum x e.0 e.1) last ∙ with_undone before e.0 e.1 own in
    let can : LeavesCountSum e.1 (fin.get (joined_totals m (totals_of (e ∷ es))) e.0) = subst (LeavesCountSum e.1) (sym (ap (λ x. fin.get x e.0) last ∙ get_inserted before e.0 (with_more add_count_sums e.1 (fin.get before e.0)))) (leaves e.1 (fin.get before e.0) own) in
    ((can, subst (λ x. CanRetractAll x es) (sym retracted) (all_undone m es h.1 all).0), ap (λ x. without_all x es) retracted ∙ (all_undone m es h.1 all).1)

rest_count_sums : (n : Totals) (k : Option Key) (t : ℕ × ℤ) → fin.get n k ≡ None → AreCountSums (fin.insert n k t) → AreCountSums n
rest_count_sums n k t none all q =
    elim (eq_by_cmp line_cmp q k) as (λ b. eq_by_cmp line_cmp q k ≡ b → IfSome (cond b (Some t) (fin.get n q)) IsCountSum → IfSome (fin.get n q) IsCountSum) [
      | true ↦ λ h own. subst (λ o. IfSome o IsCountSum) (sym (ap (fin.get n) (same_key q k h) ∙ none)) tt
      | false ↦ λ h own. own
    ] refl (subst (λ o. IfSome o IsCountSum) (fin.get-insert line_total n k t q) (all q))

count_with : (t : ℕ × ℤ) (o : Option (ℕ × ℤ)) → (with_more add_count_sums t o).0 ≡ count_in o + t.0
count_with t None = omega arith
count_with t (Some x) = refl

rest_joins : (m n : Totals) (k : Option Key) (t : ℕ × ℤ) → fin.get n k ≡ None → CanJoin m (fin.insert n k t) → CanJoin (with_count_sum m k t) n
rest_joins m n k t none can q =
    subst (λ o. count_in o + count_in (fin.get n q) ≤ 2 ^ 26) (sym (fin.get-insert line_total m k (with_more add_count_sums t (fin.get m k)) q))
    (elim (eq_by_cmp line_cmp q k) as (λ b. eq_by_cmp line_cmp q k ≡ b → count_in (fin.get m q) + count_in (cond b (Some t) (fin.get n q)) ≤ 2 ^ 26 → count_in (cond b (Some (with_more add_count_sums t (fin.get m k))) (fin.get m q)) + count_in (fin.get n q) ≤ 2 ^ 26) [
      | true ↦ λ h capacity.
          let key = same_key q k h in
          let here : count_in (fin.get n q) ≡ 0 = ap count_in (ap (fin.get n) key ∙ none) in
          let own : count_in (fin.get m q) ≡ count_in (fin.get m k) = ap (λ x. count_in (fin.get m x)) key in
          let more = count_with t (fin.get m k) in
          omega arith
      | false ↦ λ h capacity. capacity
    ] refl (subst (λ o. count_in (fin.get m q) + count_in o ≤ 2 ^ 26) (fin.get-insert line_total n k t q) (can q)))

-- entries can be added one after another if their totals can be joined
pub can_add : (m : Totals) (es : Entries (ℕ × ℤ)) → HaveDistinctKeys es → AreCountSums (totals_of es) → CanJoin m (totals_of es) → CanAddAll m es
can_add m [] h all can = tt
can_add m (e ∷ es) h all can =
    let own = get_inserted (totals_of es) e.0 e.1 in
    let none = absent es e.0 h.0 in (
      subst (λ o. IfSome o IsCountSum) own (all e.0),
      subst (λ o. count_in (fin.get m e.0) + count_in o ≤ 2 ^ 26) own (can e.0),
      can_add (with_count_sum m e.0 e.1) es h.1 (rest_count_sums (totals_of es) e.0 e.1 none all) (rest_joins m (totals_of es) e.0 e.1 none can),
    )

-- if no entry remains, the first entries are all entries
pub take_whole : (n : ℕ) (es : Entries (ℕ × ℤ)) → drop n es ≡ [] → take n es ≡ es
take_whole n es none = sym (append-nil (take n es)) ∙ ap (λ rest. take n es ++ rest) (sym none) ∙ take-append-drop n es

-- the added entries can be retracted again, which restores the previous totals
pub undone : (m now : Totals) (n : ℕ) (es : Entries (ℕ × ℤ)) → HaveDistinctKeys es → AreCountSums m → now ≡ with_all add_count_sums m (take n es) → CanRetractAll now (take n es) × (without_all now (take n es) ≡ m)
undone m now n es distinct all is =
    let first = take_distinct n es distinct in
    let joined = is ∙ with_all-joined add_count_sums m (take n es) first in
    let retracted = all_undone m (take n es) first all in
    (subst (λ x. CanRetractAll x (take n es)) (sym joined) retracted.0, ap (λ x. without_all x (take n es)) joined ∙ retracted.1)
