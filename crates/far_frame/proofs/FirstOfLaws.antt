-- The first refusal of a list of tests, between which other tests are inserted.
use Rattle.std.proofs.Common.{◌≡◌, ◌⊎◌, inl, inr, Bool, true, false, List, [], ◌∷◌, ◌++◌, None, Some, refl, subst}
use Rattle.far_types.specs.declared.refusal.Refusal.{Refusal}
use Rattle.far_types.specs.FirstOf.{first_of}

-- each test that applies has a refusal with the property P
abbrev pub AllTell : (Refusal → Type 0) → List (Bool × Refusal) → Type 0
AllTell P [] = Unit {0}
AllTell P (case ∷ cases) = (case.0 ≡ true → P case.1) × AllTell P cases

free-last : (n : List (Bool × Refusal)) (d : Bool × Refusal) → first_of (n ++ d ∷ []) ≡ None → first_of (d ∷ []) ≡ None
free-last [] d free = free
free-last ((true, e) ∷ n) d free = absurd cc
free-last ((false, e) ∷ n) d free = free-last n d free

free-two : (a n : List (Bool × Refusal)) (c d : Bool × Refusal) → first_of (a ++ (c ∷ (n ++ d ∷ []))) ≡ None → first_of (c ∷ d ∷ []) ≡ None
free-two [] n (true, e) d free = absurd cc
free-two [] n (false, e) d free = free-last n d free
free-two ((true, e) ∷ a) n c d free = absurd cc
free-two ((false, e) ∷ a) n c d free = free-two a n c d free

-- if no test of the longer list applies, none of the shorter list does
pub free-plain : (xs a n : List (Bool × Refusal)) (c d : Bool × Refusal) → first_of (xs ++ (a ++ (c ∷ (n ++ d ∷ [])))) ≡ None → first_of (xs ++ c ∷ d ∷ []) ≡ None
free-plain [] a n c d free = free-two a n c d free
free-plain ((true, e) ∷ xs) a n c d free = absurd cc
free-plain ((false, e) ∷ xs) a n c d free = free-plain xs a n c d free

module _ (P : Refusal → Type 0) where
  pub found-last : (n : List (Bool × Refusal)) (d : Bool × Refusal) (g : Refusal) → AllTell P n → first_of (n ++ d ∷ []) ≡ Some g → (first_of (d ∷ []) ≡ Some g) ⊎ P g
  found-last [] d g all due = inl due
  found-last ((true, e) ∷ n) d g all due = (let is : e ≡ g = cc in inr (subst P is (all.0 refl)))
  found-last ((false, e) ∷ n) d g all due = found-last n d g all.1 due

  found-two : (a n : List (Bool × Refusal)) (c d : Bool × Refusal) (g : Refusal) → AllTell P a → (c.0 ≡ false → AllTell P n) → first_of (a ++ (c ∷ (n ++ d ∷ []))) ≡ Some g → (first_of (c ∷ d ∷ []) ≡ Some g) ⊎ P g
  found-two [] n (true, e) d g of_a of_n due = inl due
  found-two [] n (false, e) d g of_a of_n due = found-last n d g (of_n refl) due
  found-two ((true, e) ∷ a) n c d g of_a of_n due = (let is : e ≡ g = cc in inr (subst P is (of_a.0 refl)))
  found-two ((false, e) ∷ a) n c d g of_a of_n due = found-two a n c d g of_a.1 of_n due

  or_other : (plain : Type 0) {g : Refusal} → plain ⊎ P g → plain ⊎ ((first_of [] ≡ None) × P g)
  or_other plain (inl is) = inl is
  or_other plain (inr other) = inr (refl, other)

  -- a refusal of the longer list is one of the shorter list, or one of the inserted tests, and then no test before them applies.
  -- The second inserted tests are known only if the test before them does not apply
  pub found-plain : (xs a n : List (Bool × Refusal)) (c d : Bool × Refusal) (g : Refusal) → AllTell P a → (c.0 ≡ false → AllTell P n) → first_of (xs ++ (a ++ (c ∷ (n ++ d ∷ [])))) ≡ Some g
      → (first_of (xs ++ c ∷ d ∷ []) ≡ Some g) ⊎ ((first_of xs ≡ None) × P g)
  found-plain [] a n c d g of_a of_n due = or_other (first_of (c ∷ d ∷ []) ≡ Some g) (found-two a n c d g of_a of_n due)
  found-plain ((true, e) ∷ xs) a n c d g of_a of_n due = inl due
  found-plain ((false, e) ∷ xs) a n c d g of_a of_n due = found-plain xs a n c d g of_a of_n due
