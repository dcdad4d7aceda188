-- Totals that are made anew from their entries, one after another.
use Rattle.std.proofs.Common.{◌≡◌, ℕ, ◌^◌, ◌≤◌, refl, ap, ◌∙◌, Option, None, Some, arith}
use Rattle.std.specs.Prelude.{ℤ, IfSome}
use Rattle.std.specs.FinMap as fin
use Rattle.far_types.specs.Keys.{line_cmp}
use Rattle.far_types.specs.Answers.{Totals}
use Rattle.far_types.specs.Effects.{merge_two, joined_totals, add_count_sums, count_in}
use Rattle.far_types.proofs.AnswersGrouping.{same, get-joined}
use Rattle.far_types.proofs.AnswersByKeyMaps.{Entries, with_all, with_all-joined, HaveDistinctKeys}
use Rattle.far_groups.specs.Live.{CanJoin}
use Rattle.far_groups.specs.CountSums.{totals_of, IsCountSum, AreCountSums}
use Rattle.far_groups.proofs.CountSumsMerge.{CanAddAll, can_add}

merged_none : (o : Option (ℕ × ℤ)) → merge_two add_count_sums None o ≡ o
merged_none None = refl
merged_none (Some t) = refl

-- totals that are joined to empty totals are unchanged
joined_alone : (n : Totals) → joined_totals fin.empty n ≡ n
joined_alone n = same _ _ (λ q. get-joined add_count_sums fin.empty n q ∙ ap (λ o. merge_two add_count_sums o (fin.get n q)) (fin.get-empty line_cmp q) ∙ merged_none (fin.get n q))

pub all_copied : (es : Entries (ℕ × ℤ)) → HaveDistinctKeys es → with_all add_count_sums fin.empty es ≡ totals_of es
all_copied es distinct = with_all-joined add_count_sums fin.empty es distinct ∙ joined_alone (totals_of es)

few : (o : Option (ℕ × ℤ)) → IfSome o IsCountSum → count_in o ≤ 2 ^ 26
few None h = omega arith
few (Some t) h = h.1

fits_alone : (n : Totals) → AreCountSums n → CanJoin fin.empty n
fits_alone n all key =
    let none : count_in (fin.get fin.empty key) ≡ 0 = ap count_in (fin.get-empty line_cmp key) in
    omega (arith, none, few (fin.get n key) (all key))

pub can_copy : (es : Entries (ℕ × ℤ)) → HaveDistinctKeys es → AreCountSums (totals_of es) → CanAddAll fin.empty es
can_copy es distinct all = can_add fin.empty es distinct all (fits_alone (totals_of es) all)
