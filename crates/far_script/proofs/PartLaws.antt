-- The parts between separators.
use Rattle.std.proofs.Common.{◌≡◌, ◌==◌, ℕ, suc, ◌+◌, ◌<◌, Bool, true, false, not, List, [], ◌∷◌, length, slice_index, ◌∙◌, refl, ap, subst, arith}
use Rattle.std.specs.Prelude.{◌||◌}
use Rattle.std.specs.List.{list_any, slice_split, position_or_len}
use Rattle.std.proofs.lemmas.Bool.{eqb-true}
use Rattle.std.proofs.lemmas.List.Sums.{prefix_len_stops}

left : (a b : Bool) → (a || b) ≡ false → a ≡ false
left false b e = refl
left true b e = cc e

right : (a b : Bool) → (a || b) ≡ false → b ≡ false
right false b e = e
right true b e = cc e

-- a list without the separator is one part
no-separator : (p : ℕ → Bool) (c : ℕ) (cs : List ℕ) → p c ≡ false → slice_split p cs ≡ cs ∷ [] → slice_split p (c ∷ cs) ≡ (c ∷ cs) ∷ []
no-separator p c cs other rest = rw other (rw rest refl)

pub one-part : (p : ℕ → Bool) (xs : List ℕ) → list_any p xs ≡ false → slice_split p xs ≡ xs ∷ []
one-part p [] h = refl
one-part p (c ∷ cs) h = no-separator p c cs (left (p c) (list_any p cs) h) (one-part p cs (right (p c) (list_any p cs) h))

-- if the first separator is at the end of a list, there is none
past-end : (n m : ℕ) → 1 + n ≡ suc m → n ≡ m
past-end n m h = omega (arith, h)

not-there : (m : ℕ) → 0 ≡ suc m → ⊥
not-there m h = omega (arith, h)

last-part-at : (p : ℕ → Bool) (b : Bool) (c : ℕ) (cs : List ℕ) → p c ≡ b → position_or_len p (c ∷ cs) ≡ suc (length cs)
    → (position_or_len p cs ≡ length cs → slice_split p cs ≡ cs ∷ []) → slice_split p (c ∷ cs) ≡ (c ∷ cs) ∷ []
last-part-at p true c cs is h rest = absurd (not-there (length cs) (rw is at h))
last-part-at p false c cs is h rest = no-separator p c cs is (rest (past-end (position_or_len p cs) (length cs) (rw is at h)))

pub last-part : (p : ℕ → Bool) (xs : List ℕ) → position_or_len p xs ≡ length xs → slice_split p xs ≡ xs ∷ []
last-part p [] h = refl
last-part p (c ∷ cs) h = last-part-at p (p c) c cs refl h (last-part p cs)

-- the separator after the first part
not-false : (b : Bool) → not b ≡ false → b ≡ true
not-false true e = refl
not-false false e = cc e

pub separates : (wanted : ℕ) (text : List ℕ) (at : ℕ) → at ≡ position_or_len (λ b. b == wanted) text → at < length text → slice_index text at ≡ wanted
separates wanted text at is low =
    let first = position_or_len (λ b. b == wanted) text in
    let stops = prefix_len_stops (λ b. not (b == wanted)) text 0 (subst (λ (k : ℕ). k < length text) is low) in
    eqb-true (slice_index text at) wanted (ap (λ (k : ℕ). slice_index text k == wanted) is ∙ not-false (slice_index text first == wanted) stops)
