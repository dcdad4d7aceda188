-- A test that either all things of a list pass, or none does.
use Rattle.std.proofs.Common.{◌≡◌, inl, inr, ℕ, ◌<◌, Bool, true, false, List, length, get_or, sym, subst, ◌∙◌, arith}
use Rattle.std.specs.Prelude.{All, AllPairs}
use Rattle.std.specs.List.{list_all}
use Rattle.std.proofs.lemmas.Bool.{cases_lt, cases_eq, cases_Bool}
use Rattle.std.proofs.lemmas.List.{get_or_default}
use Rattle.std.proofs.lemmas.List.Sums.{list_all-from_AllPass}

module _ {C : Type 0} (test : C → Bool) (Has : C → Type 0) (HaveSameLength : C → C → Type 0) (turned : (c d : C) → HaveSameLength c d → HaveSameLength d c) (alike : (c d : C) → Has c → Has d → HaveSameLength c d → test c ≡ true → test d ≡ true) (cs : List C) (has : All Has cs) (same_length : AllPairs HaveSameLength cs) where
  -- if one thing passes, all do
  pub all-with : (k : ℕ) (d : C) → k < length cs → test (get_or cs k d) ≡ true → All (λ c. test c ≡ true) cs
  all-with k d below passes j e inside =
      let c = get_or cs k e in
      let c_passes = subst (λ x. test x ≡ true) (get_or_default cs k d e below) passes in
      elim (cases_eq k j) [
        | inl same ↦ subst (λ i. test (get_or cs i e) ≡ true) same c_passes
        | inr ne ↦ elim (cases_lt k j) [
          | inl before ↦ alike c (get_or cs j e) (has k e below) (has j e inside) (same_length k j e before inside) c_passes
          | inr behind ↦ alike c (get_or cs j e) (has k e below) (has j e inside) (turned (get_or cs j e) c (same_length j k e (omega (arith, behind, ne)) below)) c_passes
        ]
      ]

  pub none-pass : list_all test cs ≡ false → All (λ c. test c ≡ false) cs
  none-pass not_all k d below = elim (cases_Bool (test (get_or cs k d))) [
    | inl passes ↦ absurd (let all = sym (list_all-from_AllPass test cs (all-with k d below passes)) ∙ not_all in cc)
    | inr not ↦ not
  ]
