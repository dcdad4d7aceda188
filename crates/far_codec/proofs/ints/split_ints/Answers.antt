use Rattle.std.proofs.Common.{◌≡◌, ◌<◌, ◌*◌, ◌/◌, ◌^◌, ◌++◌, ℕ, ℤ, Bool, List, length, map, Option, sym, ap, ◌∙◌, arith}
use Rattle.std.specs.Prelude.{is_none}
use Rattle.std.specs.List.{flat_map}
use Rattle.std.specs.Simd.{first_chunks}
use Rattle.std.proofs.lemmas.List.{length-map}
use Rattle.far_codec.specs.FarForm.{mask_of, head, number_bytes, ints_form, FitsCount, AreInts}
use Rattle.far_codec.specs.Reading.{flags_of}
use Rattle.far_codec.proofs.FarFormNumbers.{ints_found, HasIntParts, length-numbers, zeros_in}
use Rattle.far_codec.proofs.PlainNumbersWords.{IsBytes, IsBytes-behind}
use Rattle.far_codec.proofs.ints.split_ints.Goals as goal

few_flags : (numbers : List (Option ℤ)) → AreInts numbers → FitsCount (map is_none numbers)
few_flags numbers are = omega (arith, length-map numbers is_none, are.count)

as_head : (bytes : List ℕ) (numbers : List (Option ℤ)) → bytes ≡ ints_form numbers → bytes ≡ head 0 (map is_none numbers) ++ flat_map number_bytes numbers
unfolding ints_form
as_head bytes numbers e = e

pub returns-in_err-count-clause-only : goal.returns-in_err-count-clause-only
returns-in_err-count-clause-only c numbers are e =
    absurd (c.in_err-count.ensures.only (map is_none numbers) (flat_map number_bytes numbers) (few_flags numbers are) (as_head c.args.bytes.now numbers e))

parts_of : (bytes mask fields : List ℕ) (count : ℕ) (numbers : List (Option ℤ)) → ((flags : List Bool) (rest : List ℕ) → length flags < 2 ^ 32 → bytes ≡ head 0 flags ++ rest → (count ≡ length flags) × (mask ≡ mask_of flags) × (fields ≡ rest)) → AreInts numbers → bytes ≡ ints_form numbers → HasIntParts mask fields count numbers
parts_of bytes mask fields count numbers only are e =
    let parts = only (map is_none numbers) (flat_map number_bytes numbers) (few_flags numbers are) (as_head bytes numbers e) in
    record { count_is = parts.0 ∙ length-map numbers is_none; mask_is = parts.1; fields_are = parts.2 }

pub returns-then-fields-count-clause-only : goal.returns-then-fields-count-clause-only
returns-then-fields-count-clause-only c numbers are e =
    let m = c.in_ok-count.field-0 in
    let parts = parts_of c.args.bytes.now m.mask.now m.fields.now m.count numbers c.in_ok-count.ensures.only are e in
    absurd (c.if-fields-count.true (omega (arith, parts.count_is, ap length parts.fields_are, length-numbers numbers)))

pub returns-then-not-missing_are_zero-clause-only : goal.returns-then-not-missing_are_zero-clause-only
returns-then-not-missing_are_zero-clause-only c numbers are e =
    let m = c.in_ok-count.field-0 in
    let parts = parts_of c.args.bytes.now m.mask.now m.fields.now m.count numbers c.in_ok-count.ensures.only are e in
    sym c.if-not-missing_are_zero.true ∙ c.missing_are_zero.ensures.1 (zeros_in m.mask.now m.fields.now m.count numbers c.as_chunks.result.0.now parts c.as_chunks.ensures.front)

pub returns-clause-found : goal.returns-clause-found
returns-clause-found c =
    let bytes = c.args.bytes.now in
    let m = c.in_ok-count.field-0 in
    let all_fit : IsBytes bytes = λ i. omega (arith, c.type_inv.bytes i) in
    let head_is = c.in_ok-count.ensures.found in
    let fits = IsBytes-behind bytes (head 0 (flags_of m.mask.now m.count)) m.fields.now all_fit head_is.1 in
    let len : length m.fields.now ≡ m.count * 8 = omega (arith, c.if-fields-count.false) in
    let many : length m.fields.now / 8 ≡ m.count = omega (arith, len) in
    let words = c.as_chunks.ensures.front ∙ ap (λ (n : ℕ). first_chunks 8 n m.fields.now) many in
    ints_found bytes m.mask.now m.fields.now c.as_chunks.result.0.now m.count fits head_is.0 head_is.1 len words (c.missing_are_zero.ensures.0 c.if-not-missing_are_zero.false)
