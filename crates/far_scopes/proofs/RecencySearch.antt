-- Searches in an order of use, from its end.
use Rattle.std.proofs.Common.{◌≡◌, ℕ, ◌||◌, Bool, true, false, inl, inr, List, [], ◌∷◌, ◌++◌, Some, None, nat_eq, reverse, refl, sym, ap, subst, ◌∙◌}
use Rattle.std.specs.List.{find}
use Rattle.std.proofs.lemmas.Bool.{cases_Bool, cases_eq, ne_eqb}
use Rattle.std.proofs.lemmas.List.{reverse-append}
use Rattle.std.proofs.lemmas.List.Folds.{list_any-append}
use Rattle.std.proofs.Math.Bool.{or_comm}
use Rattle.far_scopes.specs.Recency.{has}
use Rattle.far_scopes.proofs.RecencyLaws.{has-cons_same}

or-none : (b : Bool) → b || false ≡ b
or-none true = refl
or-none false = refl

pub has-last : (order : List ℕ) (o p : ℕ) → has (order ++ o ∷ []) p ≡ has (o ∷ order) p
has-last order o p = list_any-append (λ q. nat_eq p q) order (o ∷ []) ∙ ap (λ b. has order p || b) (or-none (nat_eq p o)) ∙ or_comm (has order p) (nat_eq p o)

-- a reversed order has the same objects
pub has-reverse : (order : List ℕ) (p : ℕ) → has (reverse order) p ≡ has order p
has-reverse [] p = refl
has-reverse (o ∷ order) p = ap (λ l. has l p) (reverse-append (o ∷ []) order) ∙ has-last (reverse order) o p ∙ ap (λ b. nat_eq p o || b) (has-reverse order p)

module _ (test : ℕ → Bool) where
  -- an object that is found is in the order, and passes
  pub found-is : (order : List ℕ) (o : ℕ) → find test order ≡ Some o → (test o ≡ true) × (has order o ≡ true)
  found-is [] o is = cc
  found-is (p ∷ order) o is = elim (cases_Bool (test p)) [
    | inl passes ↦ (let same : p ≡ o = (let e : Some p ≡ Some o = sym (rw passes refl) ∙ is in cc) in subst (λ k. (test k ≡ true) × (has (p ∷ order) k ≡ true)) same (passes, has-cons_same order p))
    | inr fails ↦ (let rest = found-is order o (sym (rw fails refl) ∙ is) in (rest.0, rw rest.1 (or_comm (nat_eq o p) true)))
  ]

  -- if none is found, no object in the order passes
  pub found-none : (order : List ℕ) → find test order ≡ None → (o : ℕ) → has order o ≡ true → test o ≡ false
  found-none [] none o there = cc
  found-none (p ∷ order) none o there = elim (cases_Bool (test p)) [
    | inl passes ↦ absurd (let e : Some p ≡ None = sym (rw passes refl) ∙ none in cc)
    | inr fails ↦ elim (cases_eq o p) [
      | inl same ↦ ap test same ∙ fails
      | inr ne ↦ found-none order (sym (rw fails refl) ∙ none) o (sym (rw (ne_eqb o p ne) refl) ∙ there)
    ]
  ]
