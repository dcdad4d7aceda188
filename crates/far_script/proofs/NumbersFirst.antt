-- The number at the start of a text, up to a byte or the end.
use Rattle.std.proofs.Common.{◌≡◌, ◌==◌, ◌+◌, ◌-◌, ◌*◌, ◌^◌, ◌≤◌, ◌<◌, ℕ, zero, suc, true, false, List, [], ◌∷◌, ◌++◌, length, take, drop, Option, Some, option_map, slice_index, ◌∙◌, refl, sym, ap, subst, inl, inr, arith}
use Rattle.std.specs.Prelude.{ℤ, pos, neg_ℤ, ◌-ℤ◌}
use Rattle.std.specs.Char.{is_ascii_digit}
use Rattle.std.specs.List.{before_first, position_or_len}
use Rattle.std.proofs.lemmas.Bool.{cases_Bool, eqb-true, eq-eqb}
use Rattle.std.proofs.lemmas.List.Sums.{position_or_len_is}
use Rattle.std.proofs.lemmas.List.{take_rest}
use Rattle.std.proofs.Math.IntN.{+ℤ_idl}
use Rattle.std.proofs.Math.Seq.{take-suc}
use Rattle.far_types.specs.declared.cell.Cell.TheVariants as cell
use Rattle.far_types.specs.declared.cell.Kind.TheVariants as kind
use Rattle.far_script.specs.Fields.{cell_of, is_missing_mark}
use Rattle.far_script.specs.Numbers.{below, digits_from, digits_of, long_number_of, signed_number_of}
use Rattle.far_script.specs.OneRecord.{is_comma}

same-number : (n m : ℕ) → Some n ≡ Some m → n ≡ m
same-number n m e = cc e

one-on : (n : ℕ) → suc n ≡ n + 1
one-on n = omega arith

-- digits after digits
digits-then : (n m : ℕ) (xs ys : List ℕ) → digits_from n xs ≡ Some m → digits_from n (xs ++ ys) ≡ digits_from m ys
digits-then n m [] ys e = ap (λ (k : ℕ). digits_from k ys) (same-number n m e)
digits-then n m (c ∷ cs) ys e = elim (cases_Bool (is_ascii_digit c)) [
  | inl digit ↦ rw digit (digits-then (n * 10 + (c - 48)) m cs ys (rw digit at e))
  | inr letter ↦ cc (rw letter at e)
]

last-digit : (n c : ℕ) → is_ascii_digit c ≡ true → digits_from n (c ∷ []) ≡ Some (n * 10 + (c - 48))
last-digit n c digit = rw digit refl

pub one-digit-more : (text : List ℕ) (at n : ℕ) → at < length text → is_ascii_digit (slice_index text at) ≡ true → digits_from 0 (take at text) ≡ Some n
    → digits_from 0 (take (at + 1) text) ≡ Some (n * 10 + (slice_index text at - 48))
one-digit-more text at n low digit e =
    ap (λ (k : ℕ). digits_from 0 (take k text)) (sym (one-on at)) ∙ ap (digits_from 0) (take-suc text at 0 low) ∙ digits-then 0 n (take at text) (slice_index text at ∷ []) e ∙ last-digit n (slice_index text at) digit

pub digit-small : (c : ℕ) → is_ascii_digit c ≡ true → c - 48 < 10
digit-small c digit = grind (arith, digit)

-- a digit is none of the other bytes
pub not-this : (c sign : ℕ) → is_ascii_digit c ≡ true → is_ascii_digit sign ≡ false → (c == sign) ≡ false
not-this c sign digit foreign = elim (cases_Bool (c == sign)) [
  | inl same ↦ cc (sym (subst (λ (b : ℕ). is_ascii_digit b ≡ true) (eqb-true c sign same) digit) ∙ foreign)
  | inr other ↦ other
]

-- the first part of a text
pub first-ends : (end : ℕ) (text : List ℕ) (len : ℕ) → is_ascii_digit end ≡ false → len ≤ length text → ((k : ℕ) → k < len → is_ascii_digit (slice_index text k) ≡ true) → (len < length text → slice_index text len ≡ end)
    → len ≡ position_or_len (λ b. b == end) text
first-ends end text len foreign within digits stops =
    sym (position_or_len_is (λ b. b == end) text len 0 within (λ k low. not-this (slice_index text k) end (digits k low) foreign) (λ low. eq-eqb (slice_index text len) end (stops low)))

first-digits : (text : List ℕ) (len n : ℕ) → 0 < len → len ≤ length text → digits_from 0 (take len text) ≡ Some n → digits_of (take len text) ≡ Some n
first-digits [] len n some within e = absurd (omega (arith, some, within))
first-digits (c ∷ cs) zero n some within e = absurd (omega (arith, some))
first-digits (c ∷ cs) (suc k) n some within e = e

pub first-size : (end : ℕ) (text : List ℕ) (len n : ℕ) → 0 < len → len ≤ length text → len ≡ position_or_len (λ b. b == end) text → digits_from 0 (take len text) ≡ Some n → digits_of (before_first (λ b. b == end) text) ≡ Some n
first-size end text len n some within ends e = ap (λ (k : ℕ). digits_of (take k text)) (sym ends) ∙ first-digits text len n some within e

-- its number
digit-first : (c : ℕ) (cs : List ℕ) (n : ℕ) → digits_of (c ∷ cs) ≡ Some n → is_ascii_digit c ≡ true
digit-first c cs n e = elim (cases_Bool (is_ascii_digit c)) [
  | inl digit ↦ digit
  | inr letter ↦ cc (rw letter at e)
]

small : (limit n : ℕ) → n < limit → below limit (Some n) ≡ Some n
small limit n low = grind arith

-- a number of a script
pub long-size : (word : List ℕ) (n : ℕ) → n < 10 ^ 18 → digits_of word ≡ Some n → long_number_of word ≡ Some n
long-size word n low e = ap (below (2 ^ 64)) e ∙ small (2 ^ 64) n (omega (arith, low))

-- and of a cell
pub without-sign : (field : List ℕ) (n : ℕ) → n < 10 ^ 18 → digits_of field ≡ Some n → signed_number_of field ≡ Some (pos n)
without-sign [] n low e = cc e
without-sign (c ∷ cs) n low e =
    let digit = digit-first c cs n e in
    rw (not-this c 45 digit refl, not-this c 43 digit refl)
    (ap (λ (found : Option ℕ). option_map pos (below (2 ^ 63) found)) e ∙ ap (option_map pos) (small (2 ^ 63) n (omega (arith, low))))

one-place : (n : ℕ) → 1 + n ≡ suc n
one-place n = omega arith

below-zero : (n : ℕ) → pos 0 -ℤ pos n ≡ neg_ℤ (pos n)
below-zero n = +ℤ_idl (neg_ℤ (pos n))

signed-size : (rest : List ℕ) (n : ℕ) → n < 10 ^ 18 → digits_of (before_first is_comma rest) ≡ Some n → signed_number_of (before_first is_comma (45 ∷ rest)) ≡ Some (neg_ℤ (pos n))
signed-size rest n low e =
    ap (λ (k : ℕ). signed_number_of (take k (45 ∷ rest))) (one-place (position_or_len is_comma rest))
    ∙ ap (λ (found : Option ℕ). option_map (λ (m : ℕ). neg_ℤ (pos m)) (below (2 ^ 63 + 1) found)) e ∙ ap (option_map (λ (m : ℕ). neg_ℤ (pos m))) (small (2 ^ 63 + 1) n (omega (arith, low)))

pub with-minus : (text rest : List ℕ) (len n : ℕ) (z : ℤ) → 1 ≤ length text → slice_index text 0 ≡ 45 → rest ≡ take (length text - 1) (drop 1 text) → n < 10 ^ 18 → len ≡ position_or_len is_comma rest → digits_of (before_first is_comma rest) ≡ Some n
    → z ≡ pos 0 -ℤ pos n → (len + 1 ≡ position_or_len is_comma text) × (signed_number_of (before_first is_comma text) ≡ Some z)
with-minus [] rest len n z some minus behind low ends size is = absurd (omega (arith, some))
with-minus (c ∷ cs) rest len n z some minus behind low ends size is =
    let whole : c ∷ cs ≡ 45 ∷ rest = ap (λ (b : ℕ). b ∷ cs) minus ∙ ap (λ (t : List ℕ). 45 ∷ t) (sym (behind ∙ take_rest (c ∷ cs) 1)) in
    subst (λ (t : List ℕ). (len + 1 ≡ position_or_len is_comma t) × (signed_number_of (before_first is_comma t) ≡ Some z)) (sym whole)
    (omega (arith, ends), signed-size rest n low size ∙ ap (λ (v : ℤ). Some v) (sym (is ∙ below-zero n)))

-- a number is not the mark of a missing cell
not-mark : (field : List ℕ) (z : ℤ) → signed_number_of field ≡ Some z → is_missing_mark field ≡ false
not-mark [] z e = cc e
not-mark (c ∷ cs) z e = elim (cases_Bool (c == 92)) [
  | inl mark ↦ cc (subst (λ (b : ℕ). signed_number_of (b ∷ cs) ≡ Some z) (eqb-true c 92 mark) e)
  | inr other ↦ rw other refl
]

pub number-cell : (field : List ℕ) (z : ℤ) → signed_number_of field ≡ Some z → cell_of (Some kind.Int) field ≡ cell.Int z
number-cell field z e = rw (not-mark field z e, e) refl
