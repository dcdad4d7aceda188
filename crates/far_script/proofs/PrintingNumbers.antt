-- A number is written as it is: it has no byte that the csv writer sets apart.
use Rattle.std.proofs.Common.{◌≡◌, ◌==◌, ◌+◌, ◌/◌, ◌%◌, ◌<◌, ℕ, zero, suc, true, false, List, [], ◌∷◌, ◌++◌, length, decimal, append_assoc, refl, sym, ap, arith, ◌∙◌, if◌then◌else◌}
use Rattle.std.specs.Prelude.{ℤ, pos, negsuc, nat_lt}
use Rattle.std.specs.Fmt.{digit_glyph, digits, digits_onto, signed_decimal}
use Rattle.std.proofs.lemmas.Bool.{eqb-true}
use Rattle.csv.specs.Quoting.{needs_byte}
use Rattle.csv.specs.Writing.{default_writer, field_text, needs_quotes}
use Rattle.far_script.specs.Printing.{record_text, space}
use Rattle.far_script.proofs.PrintingLaws.{is-some, lone-same, not-zero}

-- a byte above another is no such byte
above : (b low : ℕ) → low < b → (b == low) ≡ false
above b low h = is-some (b == low) (λ e. let same = eqb-true b low e in omega (arith, same, h))

-- a byte above the comma calls for no quotes
plain-byte : (b : ℕ) → 44 < b → needs_byte default_writer b ≡ false
plain-byte b h = rw (above b 44 h, above b 34 (omega (arith, h)), above b 13 (omega (arith, h)), above b 10 (omega (arith, h))) refl

plain-glyph : (d : ℕ) → needs_byte default_writer (digit_glyph false d) ≡ false
plain-glyph d = elim (nat_lt d 10) as (λ low. needs_byte default_writer (if low then 48 + d else 87 + d) ≡ false) [
  | true ↦ plain-byte (48 + d) (omega arith)
  | false ↦ plain-byte (87 + d) (omega arith)
]

-- a plain byte before plain ones
plain-more : (b : ℕ) (rest : List ℕ) → needs_byte default_writer b ≡ false → needs_quotes default_writer rest ≡ false → needs_quotes default_writer (b ∷ rest) ≡ false
plain-more b rest h k = rw h k

plain-digits : (k n : ℕ) (behind : List ℕ) → needs_quotes default_writer behind ≡ false → needs_quotes default_writer (digits_onto k 10 false n behind) ≡ false
plain-digits zero n behind h = h
plain-digits (suc k) n behind h =
    let glyph = digit_glyph false (n % 10) in
    let more = plain-more glyph behind (plain-glyph (n % 10)) h in
    elim (n / 10 == 0) as (λ last. needs_quotes default_writer (if last then glyph ∷ behind else digits_onto k 10 false (n / 10) (glyph ∷ behind)) ≡ false) [
      | true ↦ more
      | false ↦ plain-digits k (n / 10) (glyph ∷ behind) more
    ]

shown-digits : (k n : ℕ) (behind : List ℕ) → 0 < k + length behind → (length (digits_onto k 10 false n behind) == 0) ≡ false
shown-digits zero n [] h = absurd (omega (arith, h))
shown-digits zero n (b ∷ behind) h = is-some (length (b ∷ behind) == 0) (not-zero (length behind))
shown-digits (suc k) n behind h =
    let glyph = digit_glyph false (n % 10) in
    elim (n / 10 == 0) as (λ last. (length (if last then glyph ∷ behind else digits_onto k 10 false (n / 10) (glyph ∷ behind)) == 0) ≡ false) [
      | true ↦ is-some (length (glyph ∷ behind) == 0) (not-zero (length behind))
      | false ↦ shown-digits k (n / 10) (glyph ∷ behind) (omega arith)
    ]

plain-decimal : (n : ℕ) → needs_quotes default_writer (decimal n) ≡ false
unfolding digits
plain-decimal n = plain-digits 64 n [] refl

shown-decimal : (n : ℕ) → (length (decimal n) == 0) ≡ false
unfolding digits
shown-decimal n = shown-digits 64 n [] (omega arith)

plain-signed : (z : ℤ) → needs_quotes default_writer (signed_decimal z) ≡ false
plain-signed (pos n) = plain-decimal n
plain-signed (negsuc n) = plain-more 45 (decimal (suc n)) refl (plain-decimal (suc n))

shown-signed : (z : ℤ) → (length (signed_decimal z) == 0) ≡ false
shown-signed (pos n) = shown-decimal n
shown-signed (negsuc n) = is-some (length (45 ∷ decimal (suc n)) == 0) (not-zero (length (decimal (suc n))))

-- a field without such a byte is written as it is
field-same : (text : List ℕ) → needs_quotes default_writer text ≡ false → field_text default_writer text ≡ text
field-same text plain = rw plain refl

-- a number as a field, and alone in its record
pub signed-field : (z : ℤ) → field_text default_writer (signed_decimal z) ≡ signed_decimal z
signed-field z = field-same (signed_decimal z) (plain-signed z)

pub signed-record : (z : ℤ) → record_text (signed_decimal z ∷ []) ≡ signed_decimal z
signed-record z = lone-same (signed_decimal z) (shown-signed z) ∙ signed-field z

-- a key that is a number, and the space after it
pub number-key : (page mid : List ℕ) (z : ℤ) → mid ≡ page ++ signed_decimal z → mid ++ 32 ∷ [] ≡ page ++ (record_text (signed_decimal z ∷ []) ++ space)
number-key page mid z grown = ap (λ (t : List ℕ). t ++ 32 ∷ []) grown ∙ append_assoc page (signed_decimal z) (32 ∷ []) ∙ ap (λ (t : List ℕ). page ++ (t ++ 32 ∷ [])) (sym (signed-record z))
