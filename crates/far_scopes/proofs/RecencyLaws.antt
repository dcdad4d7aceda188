-- Which objects are in an order of use after it changes.
use Rattle.std.proofs.Common.{◌≡◌, ◌≢◌, ℕ, ◌||◌, Bool, true, false, inl, inr, List, [], ◌∷◌, nat_eq, cond, refl, sym, ap, ◌∙◌}
use Rattle.std.proofs.lemmas.Bool.{cases_eq, cases_Bool, eq-eqb, ne_eqb}
use Rattle.far_scopes.specs.Recency.{has, without, after_use, Once}

pub has-cons_same : (order : List ℕ) (o : ℕ) → has (o ∷ order) o ≡ true
has-cons_same order o = rw (eq-eqb o o refl) refl

pub has-cons_other : (order : List ℕ) (o p : ℕ) → p ≢ o → has (o ∷ order) p ≡ has order p
has-cons_other order o p ne = rw (ne_eqb p o ne) refl

-- an object is removed
pub has-without_other : (order : List ℕ) (o p : ℕ) → p ≢ o → has (without order o) p ≡ has order p
has-without_other [] o p ne = refl
has-without_other (q ∷ order) o p ne = elim (cases_eq o q) [
  | inl same ↦ rw (eq-eqb o q same) (sym (has-cons_other order q p (λ e. ne (e ∙ sym same))))
  | inr differ ↦ rw (ne_eqb o q differ) (ap (λ b. nat_eq p q || b) (has-without_other order o p ne))
]

pub has-without_same : (order : List ℕ) (o : ℕ) → Once order → has (without order o) o ≡ false
has-without_same [] o once = refl
has-without_same (q ∷ order) o once = elim (cases_eq o q) [
  | inl same ↦ rw (eq-eqb o q same) (ap (has order) same ∙ once.0)
  | inr differ ↦ rw (ne_eqb o q differ, ne_eqb o q differ) (has-without_same order o once.1)
]

pub or-left : (a b : Bool) → a || b ≡ false → a ≡ false
or-left true b e = cc
or-left false b e = refl

pub or-right : (a b : Bool) → a || b ≡ false → b ≡ false
or-right true b e = cc
or-right false b e = e

-- an object that is not in an order is not in it after another is removed
not-without : (order : List ℕ) (o p : ℕ) → has order p ≡ false → has (without order o) p ≡ false
not-without [] o p absent = absent
not-without (q ∷ order) o p absent = elim (cases_eq o q) [
  | inl same ↦ rw (eq-eqb o q same) (or-right (nat_eq p q) (has order p) absent)
  | inr differ ↦ rw (ne_eqb o q differ, or-left (nat_eq p q) (has order p) absent) (not-without order o p (or-right (nat_eq p q) (has order p) absent))
]

pub once-without : (order : List ℕ) (o : ℕ) → Once order → Once (without order o)
once-without [] o once = tt
once-without (q ∷ order) o once = elim (cases_eq o q) [
  | inl same ↦ rw (eq-eqb o q same) once.1
  | inr differ ↦ rw (ne_eqb o q differ) (not-without order o q once.0, once-without order o once.1)
]

-- an object is used again
pub has-after_use : (order : List ℕ) (o p : ℕ) → has (after_use order o) p ≡ has order p
has-after_use order o p = elim (cases_Bool (has order o)) [
  | inl there ↦ ap (λ b. has (cond b (o ∷ without order o) order) p) there ∙ elim (cases_eq p o) [
    | inl same ↦ ap (has (o ∷ without order o)) same ∙ has-cons_same (without order o) o ∙ sym there ∙ ap (has order) (sym same)
    | inr ne ↦ has-cons_other (without order o) o p ne ∙ has-without_other order o p ne
  ]
  | inr gone ↦ ap (λ b. has (cond b (o ∷ without order o) order) p) gone
]

pub once-after_use : (order : List ℕ) (o : ℕ) → Once order → Once (after_use order o)
once-after_use order o once = elim (cases_Bool (has order o)) [
  | inl there ↦ rw there (has-without_same order o once, once-without order o once)
  | inr gone ↦ rw gone once
]

-- an object that was added and is removed again
pub without-cons : (order : List ℕ) (o : ℕ) → without (o ∷ order) o ≡ order
without-cons order o = rw (eq-eqb o o refl) refl

-- using the first object again does not change the order
pub after_use-first : (order : List ℕ) (o : ℕ) → after_use (o ∷ order) o ≡ o ∷ order
after_use-first order o = rw (eq-eqb o o refl) refl
