-- The locations in the words of objects, after one word changes.
use Rattle.std.proofs.Common.{inl, inr, true, ◌≡◌, ◌≢◌, ℕ, zero, suc, ◌<◌, List, [], ◌∷◌, ◌++◌, length, Option, Some, None, refl, ap, sym, subst, ◌∙◌, ◌-◌, length-append, arith, IsSome, get_or}
use Rattle.std.specs.Prelude.{is_some, slice_get, slice_set, take}
use Rattle.std.specs.Option.{option_and_then}
use Rattle.far_pointer.specs.declared.pointer.At.{At}
use Rattle.far_pointer.specs.declared.pointer.Pointer.{Pointer}
use Rattle.std.proofs.lemmas.Option.{slice_get-get_or}
use Rattle.std.proofs.lemmas.Bool.{cases_lt}
use Rattle.std.proofs.Math.Seq.{take-append_seam}
use Rattle.std.proofs.lemmas.Option.{slice_get_past}
use Rattle.far_scopes.specs.Memory.{Memory, at_of, place_of, list_in}

module _ {X : Type 0} where
  pub slice_get-set_other : (xs : List X) (i j : ℕ) (y : X) → j ≢ i → slice_get (slice_set xs i y) j ≡ slice_get xs j
  slice_get-set_other [] i j y ne = refl
  slice_get-set_other (x ∷ xs) zero zero y ne = absurd (ne refl)
  slice_get-set_other (x ∷ xs) zero (suc j) y ne = refl
  slice_get-set_other (x ∷ xs) (suc i) zero y ne = refl
  slice_get-set_other (x ∷ xs) (suc i) (suc j) y ne = slice_get-set_other xs i j y (λ e. ne (ap suc e))

  pub slice_get-set_same : (xs : List X) (i : ℕ) (y : X) → i < length xs → slice_get (slice_set xs i y) i ≡ Some y
  slice_get-set_same [] i y h = absurd (omega (arith, h))
  slice_get-set_same (z ∷ xs) zero y h = refl
  slice_get-set_same (z ∷ xs) (suc i) y h = slice_get-set_same xs i y (omega (arith, h))

  pub slice_get-push_last : (xs : List X) (y : X) → slice_get (xs ++ y ∷ []) (length xs) ≡ Some y
  slice_get-push_last [] y = refl
  slice_get-push_last (x ∷ xs) y = slice_get-push_last xs y

  pub slice_get-push_other : (xs : List X) (y : X) (i : ℕ) → i ≢ length xs → slice_get (xs ++ y ∷ []) i ≡ slice_get xs i
  slice_get-push_other [] y zero ne = absurd (ne refl)
  slice_get-push_other [] y (suc i) ne = refl
  slice_get-push_other (x ∷ xs) y zero ne = refl
  slice_get-push_other (x ∷ xs) y (suc i) ne = slice_get-push_other xs y i (λ e. ne (ap suc e))

  pub slice_get-end : (xs : List X) → slice_get xs (length xs) ≡ None
  slice_get-end [] = refl
  slice_get-end (x ∷ xs) = slice_get-end xs

pub place-set_same : (words : List Pointer) (o : ℕ) (word : Pointer) → o < length words → place_of (slice_set words o word) o ≡ at_of word
place-set_same words o word h = ap (option_and_then at_of) (slice_get-set_same words o word h)

pub place-set_other : (words : List Pointer) (o : ℕ) (word : Pointer) (p : ℕ) → p ≢ o → place_of (slice_set words o word) p ≡ place_of words p
place-set_other words o word p ne = ap (option_and_then at_of) (slice_get-set_other words o p word ne)

pub place-push_last : (words : List Pointer) (word : Pointer) → place_of (words ++ word ∷ []) (length words) ≡ at_of word
place-push_last words word = ap (option_and_then at_of) (slice_get-push_last words word)

pub place-push_other : (words : List Pointer) (word : Pointer) (p : ℕ) → p ≢ length words → place_of (words ++ word ∷ []) p ≡ place_of words p
place-push_other words word p ne = ap (option_and_then at_of) (slice_get-push_other words word p ne)

pub place-end : (words : List Pointer) → place_of words (length words) ≡ None
place-end words = ap (option_and_then at_of) (slice_get-end words)

-- a list without its last element
pub last-of : {X : Type 0} (xs ys : List X) (y : X) → xs ≡ ys ++ y ∷ [] → length xs - 1 ≡ length ys
last-of xs ys y is = omega (arith, ap (λ l. length l) is, length-append ys (y ∷ []))

pub take-last : {X : Type 0} (xs ys : List X) (y : X) → xs ≡ ys ++ y ∷ [] → take (length xs - 1) xs ≡ ys
take-last xs ys y is = rw (last-of xs ys y is, is) (take-append_seam ys (y ∷ []))

-- an element that was read exists
pub word-read : {X : Type 0} (xs : List X) (o : ℕ) (x : X) → o < length xs → x ≡ get_or xs o x → slice_get xs o ≡ Some x
word-read xs o x h read = slice_get-get_or xs o x h ∙ ap Some (sym read)

-- the location in the word that was read
pub place-read : (words : List Pointer) (o : ℕ) (word : Pointer) (at : At) → o < length words → word ≡ get_or words o word → at_of word ≡ Some at → place_of words o ≡ Some at
place-read words o word at h read is = ap (option_and_then at_of) (slice_get-get_or words o word h ∙ ap Some (sym read)) ∙ is

-- an object with a list has a number in use
pub list-within : {X : Type 0} (memory : Memory X) (o : ℕ) → IsSome (list_in memory o) → o < length memory.words
list-within memory o h = elim (cases_lt o (length memory.words)) [
  | inl within ↦ within
  | inr past ↦ absurd (let none : list_in memory o ≡ None = rw (slice_get_past memory.words o past) refl in let k = subst IsSome none h in cc)
]

pub place-within : (words : List Pointer) (o : ℕ) → IsSome (place_of words o) → o < length words
place-within words o h = elim (cases_lt o (length words)) [
  | inl within ↦ within
  | inr past ↦ absurd (let none : place_of words o ≡ None = rw (slice_get_past words o past) refl in let k = subst IsSome none h in cc)
]

pub some-true : {A : Type 0} (o : Option A) → is_some o ≡ true → IsSome o
some-true None h = cc
some-true (Some x) h = refl
