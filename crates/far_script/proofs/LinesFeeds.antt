-- The first end of a line.
use Rattle.std.proofs.Common.{◌≡◌, ◌+◌, ◌<◌, ◌≤◌, ℕ, suc, Bool, true, false, List, [], ◌∷◌, length, take, drop, Option, None, Some, ◌∙◌, refl, sym, ap, arith, slice_index}
use Rattle.std.specs.Prelude.{◌||◌, MatchOption}
use Rattle.std.specs.List.{list_any, position_or_len}
use Rattle.std.proofs.lemmas.Bool.{cases_Bool}
use Rattle.std.proofs.lemmas.List.{length-drop, get_or-drop, take-append-drop, take_all}
use Rattle.std.proofs.lemmas.List.Folds.{list_any-append}
use Rattle.std.proofs.lemmas.List.Sums.{position_or_len_is}
use Rattle.std.proofs.Math.Seq.{take-add}
use Rattle.std.proofs.Common.{inl, inr}
use Rattle.memchr.specs.Find.{IsFirstByte, is_byte}
use Rattle.far_script.specs.Lines.{is_line_feed}
use Rattle.far_script.proofs.PartLaws.{separates}

not-true : (b : Bool) → (b ≡ true → ⊥) → b ≡ false
not-true true never = absurd (never refl)
not-true false never = refl

neither : (a b : Bool) → a ≡ false → b ≡ false → (a || b) ≡ false
neither a b p q = rw (p, q) refl

-- what a search for the byte finds
pub first-feed : (bytes : List ℕ) (r : Option ℕ) → IsFirstByte (is_byte 10) bytes r → MatchOption r (position_or_len is_line_feed bytes ≡ length bytes) (λ at. (at < length bytes) × (at ≡ position_or_len is_line_feed bytes))
first-feed bytes None none =
    position_or_len_is is_line_feed bytes (length bytes) 0 (omega arith) (λ k low. not-true (is_line_feed (slice_index bytes k)) (λ is. none k (omega arith) low is)) (λ low. absurd (omega (arith, low)))
first-feed bytes (Some at) found =
    (found.0.high, sym (position_or_len_is is_line_feed bytes at 0 (omega (arith, found.0.high)) (λ k low. not-true (is_line_feed (slice_index bytes k)) (λ is. found.0.before k (omega arith) low is)) (λ low. found.1)))

one-place : (n : ℕ) → 1 + n ≡ suc n
one-place n = omega arith

-- there is no end before the first
none-before : (xs : List ℕ) → list_any is_line_feed (take (position_or_len is_line_feed xs) xs) ≡ false
none-before [] = refl
none-before (x ∷ xs) = elim (cases_Bool (is_line_feed x)) [
  | inl feed ↦ rw feed refl
  | inr other ↦ rw other (ap (λ (n : ℕ). list_any is_line_feed (take n (x ∷ xs))) (one-place (position_or_len is_line_feed xs)) ∙ neither (is_line_feed x) (list_any is_line_feed (take (position_or_len is_line_feed xs) xs)) other (none-before xs))
]

-- the first end of a list without one in its first bytes
module _ (bytes : List ℕ) (from : ℕ) (within : from ≤ length bytes) (front : list_any is_line_feed (take from bytes) ≡ false) where
  pub feed-later : (at : ℕ) → at < length (drop from bytes) → at ≡ position_or_len is_line_feed (drop from bytes)
      → (from + at < length bytes) × (slice_index bytes (from + at) ≡ 10) × (list_any is_line_feed (take (from + at) bytes) ≡ false)
  feed-later at low is = (
    omega (arith, low, within, length-drop from bytes),
    sym (get_or-drop from bytes at 0) ∙ separates 10 (drop from bytes) at is low,
    ap (list_any is_line_feed) (take-add from at bytes)
        ∙ list_any-append is_line_feed (take from bytes) (take at (drop from bytes))
        ∙ neither (list_any is_line_feed (take from bytes)) (list_any is_line_feed (take at (drop from bytes))) front (ap (λ (n : ℕ). list_any is_line_feed (take n (drop from bytes))) is ∙ none-before (drop from bytes)),
  )

  pub feed-none : position_or_len is_line_feed (drop from bytes) ≡ length (drop from bytes) → list_any is_line_feed bytes ≡ false
  feed-none none =
      let rest = drop from bytes in
      let all : take (position_or_len is_line_feed rest) rest ≡ rest = take_all (position_or_len is_line_feed rest) rest (omega (arith, none)) in
      ap (list_any is_line_feed) (sym (take-append-drop from bytes))
      ∙ list_any-append is_line_feed (take from bytes) rest
      ∙ neither (list_any is_line_feed (take from bytes)) (list_any is_line_feed rest) front (sym (ap (list_any is_line_feed) all) ∙ none-before rest)
