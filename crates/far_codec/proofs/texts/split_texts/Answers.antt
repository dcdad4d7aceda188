use Rattle.std.proofs.Common.{◌≡◌, ◌<◌, ◌*◌, ◌/◌, ◌^◌, ◌++◌, ℕ, Bool, List, length, map, take, sym, ap, subst, ◌∙◌, arith}
use Rattle.std.specs.Prelude.{is_none}
use Rattle.std.specs.Int.{w32, to_le_bytes}
use Rattle.std.specs.List.{flat_map}
use Rattle.std.specs.Simd.{first_chunks}
use Rattle.std.proofs.lemmas.List.{length-map, length-append, take-append-drop}
use Rattle.far_codec.specs.FarForm.{mask_of, head, FitsCount}
use Rattle.far_codec.specs.Reading.{flags_of}
use Rattle.far_codec.specs.TextForm.{bytes_of, ends_of, texts_form, ends_in, AreTexts, AreTextParts}
use Rattle.far_codec.specs.TextLaws.{Texts, length-end_bytes, length-ends_of}
use Rattle.far_codec.proofs.PlainNumbersWords.{IsBytes, IsBytes-behind, IsBytes-take}
use Rattle.far_codec.proofs.TextFormLaws.{texts_form_is, texts_found, parts_of_form, HasTextParts, parts_in}
use Rattle.far_codec.proofs.texts.split_texts.Goals as goal

few_flags : (texts : Texts) → AreTexts texts → FitsCount (map is_none texts)
few_flags texts are = omega (arith, length-map texts is_none, are.count)

parts_of : (bytes mask fields : List ℕ) (count : ℕ) (texts : Texts) → ((flags : List Bool) (rest : List ℕ) → length flags < 2 ^ 32 → bytes ≡ head 1 flags ++ rest → (count ≡ length flags) × (mask ≡ mask_of flags) × (fields ≡ rest)) → AreTexts texts → bytes ≡ texts_form texts → HasTextParts mask fields count texts
parts_of bytes mask fields count texts only are e =
    let parts = only (map is_none texts) (flat_map (to_le_bytes w32) (ends_of texts) ++ flat_map bytes_of texts) (few_flags texts are) (e ∙ texts_form_is texts) in
    record { count_is = parts.0 ∙ length-map texts is_none; mask_is = parts.1; fields_are = parts.2 }

pub returns-in_err-count-clause-only : goal.returns-in_err-count-clause-only
returns-in_err-count-clause-only c texts are e =
    absurd (c.in_err-count.ensures.only (map is_none texts) (flat_map (to_le_bytes w32) (ends_of texts) ++ flat_map bytes_of texts) (few_flags texts are) (e ∙ texts_form_is texts))

pub returns-then-fields-count-clause-only : goal.returns-then-fields-count-clause-only
returns-then-fields-count-clause-only c texts are e =
    let m = c.in_ok-count.field-0 in
    let parts = parts_of c.args.bytes.now m.mask.now m.fields.now m.count texts c.in_ok-count.ensures.only are e in
    absurd (omega (arith, c.if-fields-count.true, parts.count_is, ap length parts.fields_are, length-append (flat_map (to_le_bytes w32) (ends_of texts)) (flat_map bytes_of texts), length-end_bytes (ends_of texts), length-ends_of texts))

pub returns-then-not-are_texts-clause-only : goal.returns-then-not-are_texts-clause-only
returns-then-not-are_texts-clause-only c texts are e =
    let m = c.in_ok-count.field-0 in
    let parts = parts_of c.args.bytes.now m.mask.now m.fields.now m.count texts c.in_ok-count.ensures.only are e in
    let same = parts_in m.mask.now m.fields.now c.split_at.result.0.now c.split_at.result.1.now m.count texts c.as_chunks.result.0.now are parts c.split_at.ensures.front c.split_at.ensures.back c.as_chunks.ensures.front in
    let made : AreTextParts m.mask.now (ends_in c.as_chunks.result.0.now) c.split_at.result.1.now = rw (parts.mask_is, same.0, same.1) (parts_of_form texts are) in
    sym c.if-not-are_texts.true ∙ c.are_texts.ensures.1 made

pub returns-clause-found : goal.returns-clause-found
returns-clause-found c =
    let bytes = c.args.bytes.now in
    let m = c.in_ok-count.field-0 in
    let all_fit : IsBytes bytes = λ i. omega (arith, c.type_inv.bytes i) in
    let head_is = c.in_ok-count.ensures.found in
    let front = c.split_at.result.0.now in
    let body = c.split_at.result.1.now in
    let fits = IsBytes-behind bytes (head 1 (flags_of m.mask.now m.count)) m.fields.now all_fit head_is.1 in
    let front_fits = subst IsBytes (sym c.split_at.ensures.front) (IsBytes-take (4 * m.count) m.fields.now fits) in
    let parts : front ++ body ≡ m.fields.now = ap (λ (l : List ℕ). l ++ body) c.split_at.ensures.front ∙ ap (λ (l : List ℕ). take (4 * m.count) m.fields.now ++ l) c.split_at.ensures.back ∙ take-append-drop (4 * m.count) m.fields.now in
    let len : length front ≡ m.count * 4 = omega (arith, c.split_at.ensures.front_len) in
    let many : length front / 4 ≡ m.count = omega (arith, len) in
    let words = c.as_chunks.ensures.front ∙ ap (λ (n : ℕ). first_chunks 4 n front) many in
    texts_found bytes m.mask.now front body c.as_chunks.result.0.now m.count front_fits head_is.0 (head_is.1 ∙ ap (λ (l : List ℕ). head 1 (flags_of m.mask.now m.count) ++ l) (sym parts)) len words (c.are_texts.ensures.0 c.if-not-are_texts.false)
