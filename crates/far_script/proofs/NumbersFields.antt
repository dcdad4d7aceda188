-- A text that reads as a number is a record of one field.
use Rattle.std.proofs.Common.{◌≡◌, ◌==◌, ◌+◌, ◌-◌, ◌*◌, ◌^◌, ℕ, Bool, true, false, List, [], ◌∷◌, length, Option, Some, None, option_map, ◌∙◌, refl, ap, inl, inr}
use Rattle.std.specs.Prelude.{◌||◌, ℤ, pos, neg_ℤ}
use Rattle.std.specs.Char.{is_ascii_digit}
use Rattle.std.specs.List.{list_any}
use Rattle.std.proofs.lemmas.Bool.{cases_Bool, eqb-true}
use Rattle.far_types.specs.declared.cell.Cell.TheVariants as cell
use Rattle.far_types.specs.declared.cell.Kind.TheVariants as kind
use Rattle.far_script.specs.Fields.{cell_of, lone_cell_of, only_field}
use Rattle.far_script.specs.Numbers.{below, digits_from, digits_of, signed_number_of}
use Rattle.far_script.specs.OneRecord.{begins_as_order_mark, is_comma, is_mark, is_plain}
use Rattle.far_script.proofs.FieldsLaws.{plain-record}
use Rattle.far_script.proofs.NumbersFirst.{not-this, number-cell}
use Rattle.far_script.proofs.PartLaws.{one-part}
use Rattle.far_script.proofs.PrintingLaws.{is-some, not-zero}

-- a byte that no number has
record IsForeign (test : ℕ → Bool) : Type 0 where
  digit : (c : ℕ) → is_ascii_digit c ≡ true → test c ≡ false
  minus : test 45 ≡ false
  plus : test 43 ≡ false

neither : (a b : Bool) → a ≡ false → b ≡ false → (a || b) ≡ false
neither a b p q = rw (p, q) refl

in-digits : (test : ℕ → Bool) → IsForeign test → (n m : ℕ) (xs : List ℕ) → digits_from n xs ≡ Some m → list_any test xs ≡ false
in-digits test foreign n m [] e = refl
in-digits test foreign n m (c ∷ cs) e = elim (cases_Bool (is_ascii_digit c)) [
  | inl digit ↦ neither (test c) (list_any test cs) (foreign.digit c digit) (in-digits test foreign (n * 10 + (c - 48)) m cs (rw digit at e))
  | inr letter ↦ cc (rw letter at e)
]

in-size : (test : ℕ → Bool) → IsForeign test → (m : ℕ) (xs : List ℕ) → digits_of xs ≡ Some m → list_any test xs ≡ false
in-size test foreign m [] e = refl
in-size test foreign m (c ∷ cs) e = in-digits test foreign 0 m (c ∷ cs) e

some-size : (limit : ℕ) (make : ℕ → ℤ) (found : Option ℕ) (z : ℤ) → option_map make (below limit found) ≡ Some z → (m : ℕ) × (found ≡ Some m)
some-size limit make None z e = cc e
some-size limit make (Some m) z e = (m, refl)

in-number : (test : ℕ → Bool) → IsForeign test → (xs : List ℕ) (z : ℤ) → signed_number_of xs ≡ Some z → list_any test xs ≡ false
in-number test foreign [] z e = refl
in-number test foreign (c ∷ cs) z e = elim (cases_Bool (c == 45)) [
  | inl minus ↦
      let size = some-size (2 ^ 63 + 1) (λ (n : ℕ). neg_ℤ (pos n)) (digits_of cs) z (rw minus at e) in
      neither (test c) (list_any test cs) (ap test (eqb-true c 45 minus) ∙ foreign.minus) (in-size test foreign size.0 cs size.1)
  | inr unsigned ↦
      elim (cases_Bool (c == 43)) [
        | inl plus ↦
            let size = some-size (2 ^ 63) pos (digits_of cs) z (rw (unsigned, plus) at e) in
            neither (test c) (list_any test cs) (ap test (eqb-true c 43 plus) ∙ foreign.plus) (in-size test foreign size.0 cs size.1)
        | inr bare ↦
            let size = some-size (2 ^ 63) pos (digits_of (c ∷ cs)) z (rw (unsigned, bare) at e) in
            in-size test foreign size.0 (c ∷ cs) size.1
      ]
]

foreign-comma : IsForeign is_comma
foreign-comma = record { digit = λ c digit. not-this c 44 digit refl; minus = refl; plus = refl }

no-mark : (c : ℕ) → is_ascii_digit c ≡ true → is_mark c ≡ false
no-mark c digit = rw (not-this c 34 digit refl, not-this c 13 digit refl, not-this c 10 digit refl) refl

foreign-mark : IsForeign is_mark
foreign-mark = record { digit = no-mark; minus = refl; plus = refl }

foreign-order : IsForeign (λ c. c == 239)
foreign-order = record { digit = λ c digit. not-this c 239 digit refl; minus = refl; plus = refl }

first-false : (a b : Bool) → (a || b) ≡ false → a ≡ false
first-false false b e = refl
first-false true b e = cc e

no-order : (xs : List ℕ) → list_any (λ c. c == 239) xs ≡ false → begins_as_order_mark xs ≡ false
no-order [] e = refl
no-order (c ∷ cs) e = first-false (c == 239) (list_any (λ c. c == 239) cs) e

has-byte : (xs : List ℕ) (z : ℤ) → signed_number_of xs ≡ Some z → (length xs == 0) ≡ false
has-byte [] z e = cc e
has-byte (c ∷ cs) z e = is-some (length (c ∷ cs) == 0) (not-zero (length cs))

plain-number : (xs : List ℕ) (z : ℤ) → signed_number_of xs ≡ Some z → is_plain xs ≡ true
plain-number xs z e = rw (no-order xs (in-number (λ c. c == 239) foreign-order xs z e), in-number is_mark foreign-mark xs z e) refl

pub lone-number : (xs : List ℕ) (z : ℤ) → signed_number_of xs ≡ Some z → lone_cell_of (Some kind.Int) xs ≡ Some (cell.Int z)
lone-number xs z e =
    let parts = plain-record xs (has-byte xs z e) (plain-number xs z e) ∙ ap (λ (fields : List (List ℕ)). Some fields) (one-part is_comma xs (in-number is_comma foreign-comma xs z e)) in
    ap (λ (found : Option (List (List ℕ))). option_map (cell_of (Some kind.Int)) (only_field found)) parts ∙ ap (λ made. Some made) (number-cell xs z e)
