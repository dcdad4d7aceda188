-- A list of numbers, none of which is missing, has only one far form, and decoding it returns the numbers.
use Rattle.std.proofs.Common.{◌≡◌, ℕ, ◌+◌, ◌*◌, Bool, false, cond, ℤ, List, [], ◌∷◌, ◌++◌, length, map, Some, All, FitsSigned, refl, sym, ap, ◌∙◌, arith}
use Rattle.std.specs.Prelude.{is_none}
use Rattle.std.specs.Int.{w32, w64, to_le_bytes, cast_unsigned, cast_signed}
use Rattle.std.specs.List.{list_any, flat_map, AllByRecursion}
use Rattle.std.specs.Simd.{first_chunks}
use Rattle.std.proofs.lemmas.List.{length-map, length-append, append-nil}
use Rattle.std.proofs.lemmas.List.Elements.{recursion_from_All}
use Rattle.std.proofs.lemmas.List.Folds.{flat_map-map}
use Rattle.std.proofs.lemmas.Nat.{from_le_bytes-to_le_bytes_8, from_le_bytes-to_le_bytes_4}
use Rattle.std.proofs.lemmas.Int.{to_z-of_z}
use Rattle.std.proofs.Math.Facts.{Fits-of_z}
use Rattle.far_codec.specs.FarForm.{mask_of, head, number_bytes, ints_form, FitsCount}
use Rattle.far_codec.specs.MaskLaws.{no_mask}
use Rattle.far_codec.specs.ReadingLaws.{chunks_again, length-number_bytes}
use Rattle.far_codec.specs.PlainNumbers.{plain_form, plain_meaning}
use Rattle.far_codec.specs.Reading.{number_of, count_in}

none_missing : (numbers : List ℤ)
    → list_any (λ missing. missing) (map is_none (map Some numbers)) ≡ false
none_missing [] = refl
none_missing (x ∷ numbers) = none_missing numbers

-- a head without a mask
pub plain_head : (kind : ℕ) (flags : List Bool) → list_any (λ missing. missing) flags ≡ false
    → head kind flags ≡ 1 ∷ kind ∷ to_le_bytes w32 (length flags)
unfolding head
plain_head kind flags none =
    ap (λ b. cond b 2 1 ∷ kind ∷ to_le_bytes w32 (length flags) ++ mask_of flags) none
    ∙ ap (λ m. 1 ∷ kind ∷ to_le_bytes w32 (length flags) ++ m) (no_mask flags none)
    ∙ append-nil (1 ∷ kind ∷ to_le_bytes w32 (length flags))

-- the bytes of the form
pub plain_form_is : (numbers : List ℤ)
    → plain_form numbers
    ≡ 1 ∷ 0 ∷ to_le_bytes w32 (length numbers)
    ++ flat_map (λ x. number_bytes (Some x)) numbers
unfolding ints_form
plain_form_is numbers =
    ap (λ front. front ++ flat_map number_bytes (map Some numbers))
    (plain_head 0 (map is_none (map Some numbers)) (none_missing numbers))
    ∙ ap (λ n. 1 ∷ 0 ∷ to_le_bytes w32 n ++ flat_map number_bytes (map Some numbers))
    (length-map (map Some numbers) is_none ∙ length-map numbers Some)
    ∙ ap (λ rest. 1 ∷ 0 ∷ to_le_bytes w32 (length numbers) ++ rest)
    (flat_map-map number_bytes Some numbers)

-- each number has eight bytes
pub length-numbers : (numbers : List ℤ)
    → length (flat_map (λ x. number_bytes (Some x)) numbers) ≡ 8 * length numbers
length-numbers [] = refl
length-numbers (x ∷ numbers) = omega (
  arith,
  length-append (number_bytes (Some x)) (flat_map (λ y. number_bytes (Some y)) numbers),
  length-number_bytes (Some x),
  length-numbers numbers,
)

-- decoding a number's eight bytes returns the number
pub number_back : (x : ℤ) → FitsSigned w64 x → number_of (number_bytes (Some x)) ≡ x
unfolding number_of number_bytes
number_back x fits = ap (cast_signed w64)
    (from_le_bytes-to_le_bytes_8 (cast_unsigned w64 x) (omega (arith, Fits-of_z fits)))
    ∙ to_z-of_z w64 x fits

-- the words of a form are the bytes of its numbers
pub words_again : (numbers : List ℤ)
    → first_chunks 8 (length numbers) (flat_map (λ x. number_bytes (Some x)) numbers)
    ≡ map (λ x. number_bytes (Some x)) numbers
words_again numbers = chunks_again 8 (λ x. number_bytes (Some x))
    (λ x. length-number_bytes (Some x)) numbers

-- decoding the bytes of each number returns the numbers
pub numbers_again : (numbers : List ℤ) → AllByRecursion (FitsSigned w64) numbers
    → map number_of (map (λ x. number_bytes (Some x)) numbers) ≡ numbers
numbers_again [] fits = refl
numbers_again (x ∷ numbers) fits =
    ap (λ y. y ∷ map number_of (map (λ x. number_bytes (Some x)) numbers))
    (number_back x fits.0)
    ∙ ap (λ ys. x ∷ ys) (numbers_again numbers fits.1)

-- decoding the form returns the numbers
pub plain_reads_back : (numbers : List ℤ) → All (FitsSigned w64) numbers → FitsCount numbers
    → plain_meaning (plain_form numbers) ≡ numbers
plain_reads_back numbers fits few =
    let count : count_in (1
    ∷ 0
    ∷ to_le_bytes w32 (length numbers)
    ++ flat_map (λ x. number_bytes (Some x)) numbers) ≡ length numbers =
    from_le_bytes-to_le_bytes_4 (length numbers) few in
    ap plain_meaning (plain_form_is numbers)
    ∙ ap (λ n. map number_of (first_chunks 8 n (flat_map (λ x. number_bytes (Some x)) numbers)))
    count
    ∙ ap (map number_of) (words_again numbers)
    ∙ numbers_again numbers (recursion_from_All (FitsSigned w64) numbers fits)

-- how many bytes the form has
pub length-plain_form : (numbers : List ℤ)
    → length (plain_form numbers) ≡ 6 + 8 * length numbers
length-plain_form numbers = ap length (plain_form_is numbers)
    ∙ omega (arith, length-numbers numbers)

-- different lists have different forms
pub one_plain_list : (one other : List ℤ) → All (FitsSigned w64) one
    → All (FitsSigned w64) other
    → FitsCount one → plain_form one ≡ plain_form other → one ≡ other
one_plain_list one other fits fits_too few e =
    let few_too : FitsCount other =
    omega (arith, ap length e, length-plain_form one, length-plain_form other) in
    sym (plain_reads_back one fits few)
    ∙ ap plain_meaning e
    ∙ plain_reads_back other fits_too few_too
