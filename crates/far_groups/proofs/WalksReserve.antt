-- Keys that are inserted with a count of 0, and removed again because of it.
use Rattle.std.proofs.Common.{◌≡◌, ◌==◌, not, ap, ◌∙◌, sym, refl, subst, Bool, true, false, cond, Option, None, Some, [], ◌∷◌, ◌++◌, filter, arith}
use Rattle.std.specs.Prelude.{ℕ, ℤ, pos, IfSome}
use Rattle.std.specs.List.{AllByRecursion}
use Rattle.std.specs.Map.{keys_of, update, update_all}
use Rattle.std.specs.Cmp.{eq_by_cmp_equiv}
use Rattle.std.specs.Ordering.{eq_by_cmp}
use Rattle.std.proofs.lemmas.Map.Entries.{option_filter, lookup-filter-values}
use Rattle.std.proofs.lemmas.Map.Keys.{IsDistinct-from_sorted}
use Rattle.std.proofs.lemmas.Bool.Decides.{nat_tests}
use Rattle.far_types.specs.declared.key.Key.{Key}
use Rattle.far_types.specs.Keys.{line_cmp}
use Rattle.far_types.specs.KeyOrder.{line_total}
use Rattle.far_types.proofs.AnswersGrouping.{same_key}
use Rattle.far_types.proofs.AnswersByKeyMaps.{get_at}
use Rattle.far_groups.specs.CountSums.{totals_of, IsCountSum, AreCountSums}
use Rattle.far_groups.specs.Walks.{Lines, count_sum_at}
use Rattle.far_groups.proofs.WalksLaws.{Ascend}

-- whether lines have keys that the map does not have, each with a count of 0
abbrev pub AreAbsent : Lines → Lines → Type 0
AreAbsent es lines = AllByRecursion (λ (e : Option Key × (ℕ × ℤ)). (count_sum_at es e.0 ≡ None) × (e.1 ≡ (0, pos 0))) lines

pub first_absent : (es xs ys : Lines) → AreAbsent es (xs ++ ys) → AreAbsent es xs
first_absent es [] ys h = tt
first_absent es (x ∷ xs) ys h = (h.0, first_absent es xs ys h.1)

-- whether a key with this count has rows
abbrev pub is_used : ℕ × ℤ → Bool
is_used count_sum = not (count_sum.0 == 0)

-- whether lookups find what was there before, if counts of 0 are left out
abbrev pub Keeps : Lines → (Option Key → Option (ℕ × ℤ)) → Type 0
Keeps es found = (q : Option Key) → option_filter is_used (found q) ≡ count_sum_at es q

used : (o : Option (ℕ × ℤ)) → IfSome o IsCountSum → option_filter is_used o ≡ o
used None h = refl
used (Some t) h = let test : is_used t ≡ true = grind (arith, nat_tests) in ap (λ b. cond b (Some t) None) test

pub keeps_all : (es : Lines) → AreCountSums (totals_of es) → Keeps es (count_sum_at es)
keeps_all es all q = used (count_sum_at es q) (subst (λ o. IfSome o IsCountSum) (get_at es q) (all q))

-- inserting one more key with a count of 0 does not change that
keeps_more : (es : Lines) (found : Option Key → Option (ℕ × ℤ)) (e : Option Key × (ℕ × ℤ)) → count_sum_at es e.0 ≡ None → e.1 ≡ (0, pos 0) → Keeps es found → Keeps es (update (eq_by_cmp line_cmp) found e.0 (Some e.1))
keeps_more es found e none zero keeps q = at_test (eq_by_cmp line_cmp e.0 q) refl where
  at_test : (b : Bool) → eq_by_cmp line_cmp e.0 q ≡ b → option_filter is_used (cond b (Some e.1) (found q)) ≡ count_sum_at es q
  at_test true is = ap (λ t. option_filter is_used (Some t)) zero ∙ sym none ∙ ap (count_sum_at es) (same_key e.0 q is)
  at_test false is = keeps q

-- inserting all new keys does not change that
pub keeps_reserved : (es : Lines) (found : Option Key → Option (ℕ × ℤ)) (xs : Lines) → AreAbsent es xs → Keeps es found → Keeps es (update_all (eq_by_cmp line_cmp) found xs)
keeps_reserved es found [] h keeps = keeps
keeps_reserved es found (x ∷ xs) h keeps = keeps_reserved es (update (eq_by_cmp line_cmp) found x.0 (Some x.1)) xs h.1 (keeps_more es found x h.0.0 h.0.1 keeps)

-- lookups in lines whose keys ascend, if the lines of count 0 are left out
pub used_filtered : (es filtered : Lines) → Ascend es → filtered ≡ filter (λ (e : Option Key × (ℕ × ℤ)). is_used e.1) es → (q : Option Key) → count_sum_at filtered q ≡ option_filter is_used (count_sum_at es q)
used_filtered es filtered up is q = ap (λ ls. count_sum_at ls q) is ∙ lookup-filter-values (eq_by_cmp_equiv line_total) is_used q es (IsDistinct-from_sorted line_cmp (keys_of es) up)
