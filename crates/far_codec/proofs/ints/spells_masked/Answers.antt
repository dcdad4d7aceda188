use Rattle.std.proofs.Common.{◌≡◌, ◌++◌, ◌%◌, ℕ, List, length, map, sym, ap, ◌∙◌, arith}
use Rattle.std.specs.Prelude.{is_none}
use Rattle.std.specs.List.{flat_map}
use Rattle.std.proofs.lemmas.Bool.Decides.{nat_tests}
use Rattle.far_codec.specs.FarForm.{head, number_bytes}
use Rattle.far_codec.proofs.FarFormNumbers.{ints_form_is, fields_from_words, words_from_fields, length-numbers}
use Rattle.far_codec.proofs.ints.spells_masked.Goals as goal

pub returns-then-is_empty-clause-found : goal.returns-then-is_empty-clause-found
returns-then-is_empty-clause-found c h =
    let view = c.args.numbers.now in
    let fields = c.in-Some.fields.now in
    let words = c.as_chunks.result.0.now in
    let p = c.is_empty.ensures in
    let q = c.if-is_empty.true in
    let back = c.as_chunks.ensures.back_len in
    let none : length fields % 8 ≡ 0 = grind (arith, nat_tests) in (
      c.in-Some.ensures.found.0 ∙ ap (λ (l : List ℕ). head 0 (map is_none view) ++ l) (fields_from_words fields words view c.as_chunks.ensures.front none (c.are_words.ensures.exact.0 h)) ∙ sym (ints_form_is view),
      c.are_words.ensures.range h,
    )

pub returns-then-is_empty-clause-only : goal.returns-then-is_empty-clause-only
returns-then-is_empty-clause-only c e any =
    let view = c.args.numbers.now in
    c.are_words.ensures.exact.1 (words_from_fields c.in-Some.fields.now c.as_chunks.result.0.now view c.as_chunks.ensures.front (c.in-Some.ensures.only (flat_map number_bytes view) (e ∙ ints_form_is view) any))

pub returns-else-is_empty-clause-only : goal.returns-else-is_empty-clause-only
returns-else-is_empty-clause-only c e any =
    let view = c.args.numbers.now in
    let fields = c.in-Some.fields.now in
    let p = c.is_empty.ensures in
    let q = c.if-is_empty.false in
    let back = c.as_chunks.ensures.back_len in
    let same : fields ≡ flat_map number_bytes view = c.in-Some.ensures.only (flat_map number_bytes view) (e ∙ ints_form_is view) any in
    let none : length fields % 8 ≡ 0 = omega (arith, ap length same, length-numbers view) in
    let empty : length c.as_chunks.result.1.now ≡ 0 = back ∙ none in
    absurd (grind (arith, nat_tests))

pub returns-in-None-clause-only : goal.returns-in-None-clause-only
returns-in-None-clause-only c e any = absurd (c.in-None.ensures.only (flat_map number_bytes c.args.numbers.now) (e ∙ ints_form_is c.args.numbers.now) any)
