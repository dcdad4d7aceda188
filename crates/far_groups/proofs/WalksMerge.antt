-- Inserting the new keys with a count of 0, and then adding under each key, joins two maps.
use Rattle.std.proofs.Common.{◌≡◌, ◌+◌, ◌^◌, ◌≤◌, ap, ◌∙◌, sym, refl, subst, Option, None, Some, arith}
use Rattle.std.specs.Prelude.{ℕ, ℤ, pos, ◌+ℤ◌, IfSome}
use Rattle.std.proofs.lemmas.Int.{ints}
use Rattle.std.specs.FinMap as fin
use Rattle.far_types.specs.declared.key.Key.{Key}
use Rattle.far_types.specs.Answers.{Totals}
use Rattle.far_types.specs.Effects.{add_count_sums, merge_two, joined_totals, count_in}
use Rattle.far_types.proofs.AnswersGrouping.{same, get-joined}
use Rattle.far_types.proofs.AnswersByKeyMaps.{get_at}
use Rattle.far_groups.specs.Live.{CanJoin}
use Rattle.far_groups.specs.CountSums.{totals_of, IsCountSum, AreCountSums, IsAddend, AreAddends}
use Rattle.far_groups.specs.Walks.{Lines, count_sum_at, new_lines, added_to}
use Rattle.far_groups.proofs.CountSumsLaws.{sum_valid_sums}
use Rattle.far_groups.proofs.WalksNewLines.{new_count_sum, new_at}

both : (a b : Option (ℕ × ℤ)) → added_to b (merge_two add_count_sums a (new_count_sum a b)) ≡ merge_two add_count_sums a b
both None None = refl
both None (Some u) =
    let count : 0 + u.0 ≡ u.0 = omega arith in
    let sum : pos 0 +ℤ u.1 ≡ u.1 = omega (arith, ints) in
    λ i. Some (count i, sum i)
both (Some t) None = refl
both (Some t) (Some u) = refl

addend : (a b : Option (ℕ × ℤ)) → IfSome a IsCountSum → IfSome (merge_two add_count_sums a (new_count_sum a b)) IsAddend
addend None None h = tt
addend None (Some u) h = (omega arith, (omega (arith, ints), omega (arith, ints)))
addend (Some t) None h = (h.1, h.2)
addend (Some t) (Some u) h = (h.1, h.2)

others_addend : (b : Option (ℕ × ℤ)) → IfSome b IsCountSum → IfSome b IsAddend
others_addend None h = tt
others_addend (Some u) h = (h.1, h.2)

-- for a map in which the new keys are reserved
module _ (old mid others : Lines) (reserved : totals_of mid ≡ joined_totals (totals_of old) (totals_of (new_lines old others))) where
  mid_at : (q : Option Key) → count_sum_at mid q ≡ merge_two add_count_sums (count_sum_at old q) (new_count_sum (count_sum_at old q) (count_sum_at others q))
  mid_at q =
      sym (get_at mid q) ∙ ap (λ m. fin.get m q) reserved ∙ get-joined add_count_sums (totals_of old) (totals_of (new_lines old others)) q
      ∙ (λ i. merge_two add_count_sums (get_at old q i) (get_at (new_lines old others) q i))
      ∙ ap (merge_two add_count_sums (count_sum_at old q)) (new_at old others q)

  -- the counts and sums of both maps can be added under each key
  pub addends_fit : AreCountSums (totals_of old) → AreCountSums (totals_of others) → (q : Option Key) → AreAddends (count_sum_at mid q) (count_sum_at others q)
  addends_fit all others_all q = (
    subst (λ o. IfSome o IsAddend) (sym (mid_at q)) (addend (count_sum_at old q) (count_sum_at others q) (subst (λ o. IfSome o IsCountSum) (get_at old q) (all q))),
    others_addend (count_sum_at others q) (subst (λ o. IfSome o IsCountSum) (get_at others q) (others_all q)),
  )

  -- adding all of them joins both maps
  pub walked_join : (now : Lines) → ((q : Option Key) → count_sum_at now q ≡ added_to (count_sum_at others q) (count_sum_at mid q)) → totals_of now ≡ joined_totals (totals_of old) (totals_of others)
  walked_join now added = same _ _ (λ q.
      get_at now q ∙ added q ∙ ap (added_to (count_sum_at others q)) (mid_at q) ∙ both (count_sum_at old q) (count_sum_at others q)
      ∙ sym (get-joined add_count_sums (totals_of old) (totals_of others) q ∙ (λ i. merge_two add_count_sums (get_at old q i) (get_at others q i))))

merged_valid_sums : (a b : Option (ℕ × ℤ)) → IfSome a IsCountSum → IfSome b IsCountSum → count_in a + count_in b ≤ 2 ^ 26 → IfSome (merge_two add_count_sums a b) IsCountSum
merged_valid_sums None b h k capacity = k
merged_valid_sums (Some t) None h k capacity = h
merged_valid_sums (Some t) (Some u) h k capacity = sum_valid_sums t u h k capacity

pub AreCountSums-joined : (m n : Totals) → AreCountSums m → AreCountSums n → CanJoin m n → AreCountSums (joined_totals m n)
AreCountSums-joined m n all others_all can q = subst (λ o. IfSome o IsCountSum) (sym (get-joined add_count_sums m n q)) (merged_valid_sums (fin.get m q) (fin.get n q) (all q) (others_all q) (can q))
