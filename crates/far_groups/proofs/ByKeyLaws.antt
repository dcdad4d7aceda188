-- Counts and sums under no key, as a list with one line.
use Rattle.std.proofs.Common.{◌≡◌, ◌+◌, ◌-◌, ◌^◌, ◌≤◌, ℕ, [], ◌∷◌, length, refl, sym, ap, ◌∙◌, subst, Option, None, Some, IsSome, arith}
use Rattle.std.specs.Prelude.{ℤ, ◌-ℤ◌}
use Rattle.std.specs.List.Sorted.{IsStrictlySortedBy}
use Rattle.std.specs.Map.{keys_of}
use Rattle.std.specs.FinMap as fin
use Rattle.far_types.specs.declared.key.Key.{Key}
use Rattle.far_types.specs.Keys.{line_cmp}
use Rattle.far_types.specs.Answers.{Totals}
use Rattle.far_types.specs.Effects.{add_count_sums, count_in, joined_totals}
use Rattle.far_types.proofs.AnswersByKeyMaps.{Entries, with_more, IsSet, get_at, set_inserts, joined-empty, joined-one}
use Rattle.far_groups.specs.Live.{CanJoin}
use Rattle.far_groups.specs.CountSums.{totals_of, IsCountSum, AreCountSums, with_count_sum, LeavesCountSum, without_count_sum}
use Rattle.far_groups.specs.KeyTree.{by_kind}
use Rattle.far_groups.specs.ByKey.{plain_totals}
use Rattle.far_groups.proofs.CountSumsLaws.{if_found, AreCountSums-empty, AreCountSums-insert, retracted_whole, retracted_part}
use Rattle.far_groups.proofs.KeyTreeLaws.{Tree}

-- the one line, under no key
abbrev pub one_line : ℕ × ℤ → Entries (ℕ × ℤ)
one_line count_sum = (None, count_sum) ∷ []

pub one_ascends : (t : ℕ × ℤ) → IsStrictlySortedBy line_cmp (keys_of (one_line t))
unfolding IsStrictlySortedBy
one_ascends t = (tt, tt)

-- the line is found under no key, and nothing is found under any other key
pub get_plain : (t : ℕ × ℤ) → fin.get (plain_totals t) None ≡ Some t
get_plain t = get_at (one_line t) None

pub get_under_key : (t : ℕ × ℤ) (q : Option Key) → IsSome q → fin.get (plain_totals t) q ≡ None
get_under_key t None h = cc
get_under_key t (Some k) h = get_at (one_line t) (Some k)

-- the line with another count and sum is the line with these set under no key
pub set_plain : (t u : ℕ × ℤ) → IsSet (one_line t) (one_line u) None (Some u)
set_plain t u None = refl
set_plain t u (Some k) = refl

-- no line is the line with nothing set under no key
gone_plain : (t : ℕ × ℤ) → IsSet (one_line t) [] None None
gone_plain t None = refl
gone_plain t (Some k) = refl

pub plain_valid_sums : (t : ℕ × ℤ) → IsCountSum t → AreCountSums (plain_totals t)
plain_valid_sums t h = AreCountSums-insert fin.empty None t AreCountSums-empty h

pub count_sum_there : (t : ℕ × ℤ) → AreCountSums (plain_totals t) → IsCountSum t
count_sum_there t all = if_found _ _ (get_plain t) (all None)

-- adding a count and a sum under no key
pub plain_added : (t more : ℕ × ℤ) → plain_totals (add_count_sums t more) ≡ with_count_sum (plain_totals t) None more
plain_added t more =
    set_inserts (one_line t) (one_line (add_count_sums t more)) None (add_count_sums t more) (set_plain t (add_count_sums t more))
    ∙ ap (λ o. fin.insert (plain_totals t) None (with_more add_count_sums more o)) (sym (get_plain t))

-- a list of length 0 is empty
none_there : {K : Type 0} (es : Tree K) → length es ≡ 0 → es ≡ []
none_there [] h = refl
none_there (e ∷ es) h = absurd (omega arith)

-- a key that is not in has capacity for any count and sum
pub new_capacity : (o : Option (ℕ × ℤ)) (more : ℕ × ℤ) → o ≡ None → IsCountSum more → count_in o + more.0 ≤ 2 ^ 26
new_capacity o more none h = subst (λ o. count_in o + more.0 ≤ 2 ^ 26) (sym none) (let few = h.1 in omega (arith, few))

-- joining an empty tree changes nothing
pub joined_none : {K : Type 0} (key : K → Key) (m : Totals) (es : Tree K) → length es ≡ 0 → m ≡ joined_totals m (by_kind key es)
joined_none {K} key m es empty = sym (joined-empty add_count_sums m) ∙ ap (λ (lines : Tree K). joined_totals m (by_kind key lines)) (sym (none_there es empty))

-- rows can be retracted only under no key
pub retracted_key : (t less : ℕ × ℤ) (q : Option Key) → LeavesCountSum less (fin.get (plain_totals t) q) → q ≡ None
retracted_key t less None h = refl
retracted_key t less (Some k) h = absurd (subst (LeavesCountSum less) (get_under_key t (Some k) refl) h)

pub retracted_leaves : (t less : ℕ × ℤ) (q : Option Key) → LeavesCountSum less (fin.get (plain_totals t) q) → LeavesCountSum less (Some t)
retracted_leaves t less q h = subst (LeavesCountSum less) (ap (fin.get (plain_totals t)) (retracted_key t less q h) ∙ get_plain t) h

-- if the remaining count is 0, no line is left
pub plain_gone : (t less rest : ℕ × ℤ) (q : Option Key) → rest ≡ (t.0 - less.0, t.1 -ℤ less.1) → LeavesCountSum less (fin.get (plain_totals t) q) → rest.0 ≡ 0 → totals_of [] ≡ without_count_sum (plain_totals t) q less
plain_gone t less rest q is there none =
    retracted_whole (one_line t) (one_line t) [] None less t rest refl (set_plain t t) (gone_plain t) is (retracted_leaves t less q there) none
    ∙ ap (λ k. without_count_sum (plain_totals t) k less) (sym (retracted_key t less q there))

-- if the remaining count is not 0, the line has the rest
pub plain_subtracted : (t less rest : ℕ × ℤ) (q : Option Key) → rest ≡ (t.0 - less.0, t.1 -ℤ less.1) → LeavesCountSum less (fin.get (plain_totals t) q) → (rest.0 ≡ 0 → ⊥) → plain_totals rest ≡ without_count_sum (plain_totals t) q less
plain_subtracted t less rest q is there some =
    retracted_part (one_line t) (one_line rest) None less t rest refl (set_plain t rest) is some
    ∙ ap (λ k. without_count_sum (plain_totals t) k less) (sym (retracted_key t less q there))

-- a join has capacity for the line under no key
pub plain_capacity : (m : Totals) (t : ℕ × ℤ) → CanJoin m (plain_totals t) → count_in (fin.get m None) + t.0 ≤ 2 ^ 26
plain_capacity m t can = subst (λ o. count_in (fin.get m None) + count_in o ≤ 2 ^ 26) (get_plain t) (can None)

-- joining the line is adding its count and sum under no key
pub plain_joined : (m : Totals) (t : ℕ × ℤ) → with_count_sum m None t ≡ joined_totals m (plain_totals t)
plain_joined m t = joined-one add_count_sums m None t
