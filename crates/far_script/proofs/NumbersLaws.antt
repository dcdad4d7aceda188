-- How the number grows that digits spell.
use Rattle.std.proofs.Common.{◌≡◌, ℕ, suc, ◌+◌, ◌-◌, ◌*◌, ◌^◌, ◌<◌, ◌≤◌, ◌==◌, true, false, List, [], ◌∷◌, None, Some, length, drop, slice_index, if◌then◌else◌, drop-cons, refl, arith}
use Rattle.std.proofs.lemmas.List.{drop_all}
use Rattle.std.specs.Char.{is_ascii_digit}
use Rattle.far_script.specs.Numbers.{digits_from, digits_of, below}

-- a number that is too large stays so
pub too-large : (n : ℕ) (cs : List ℕ) → 2 ^ 64 ≤ n → below (2 ^ 64) (digits_from n cs) ≡ None
too-large n [] h = grind arith
too-large n (c ∷ cs) h = elim (is_ascii_digit c) as (λ b. below (2 ^ 64) (if b then digits_from (n * 10 + (c - 48)) cs else None) ≡ None) [
  | true ↦ too-large (n * 10 + (c - 48)) cs (omega arith)
  | false ↦ refl
]

grows : (n c : ℕ) (cs : List ℕ) → 2 ^ 64 ≤ n * 10 + (c - 48) → below (2 ^ 64) (digits_from n (c ∷ cs)) ≡ None
grows n c cs h = elim (is_ascii_digit c) as (λ b. below (2 ^ 64) (if b then digits_from (n * 10 + (c - 48)) cs else None) ≡ None) [
  | true ↦ too-large (n * 10 + (c - 48)) cs h
  | false ↦ refl
]

-- a digit that makes the number too large
pub overflows : (n i : ℕ) (text : List ℕ) → i < length text → 2 ^ 64 ≤ n * 10 + (slice_index text i - 48) → below (2 ^ 64) (digits_from n (drop i text)) ≡ None
overflows n i text h k = rw (drop-cons text i 0) (grows n (slice_index text i) (drop (suc i) text) k)

-- a text of one byte or more
pub digits_of-nonempty : (text : List ℕ) → (length text == 0) ≡ false → digits_of text ≡ digits_from 0 text
digits_of-nonempty [] h = cc h
digits_of-nonempty (c ∷ cs) h = refl

-- all bytes were digits
pub whole : (n i : ℕ) (text : List ℕ) → length text ≤ i → n < 2 ^ 64 → Some n ≡ below (2 ^ 64) (digits_from n (drop i text))
whole n i text h k = rw (drop_all i text h) (grind arith)
