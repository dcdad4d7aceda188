use Rattle.std.proofs.Common.{◌≡◌, ◌+◌, ◌++◌, ◌∷◌, [], false, length, map, sym, ap, ◌∙◌, arith}
use Rattle.std.specs.Prelude.{is_none, ◌||◌}
use Rattle.std.specs.List.{list_any}
use Rattle.std.proofs.lemmas.List.{length-append}
use Rattle.far_types.specs.FormLengths.{text_bytes}
use Rattle.far_codec.specs.FarForm.{some_missing}
use Rattle.far_codec.specs.Reading.{flags_of}
use Rattle.far_codec.specs.TextForm.{texts_meaning}
use Rattle.far_codec.proofs.TextFormLengthChanges.{tells, missing_next, bytes_next, length_is, none_is, set_past}
use Rattle.far_codec.proofs.ReadingMasks.{length-flags_of}
use Rattle.far_codec.proofs.lengths.parted_length_with_next.Goals as goal

pub length_of-requires-clause-few : goal.length_of-requires-clause-few
length_of-requires-clause-few c =
    let p = c.form_parts-parts.result in
    let texts = texts_meaning c.args.form.now in
    let known = tells p.mask.now p.ends.now p.body.now texts c.form_parts-parts.ensures.parts c.form_parts-parts.ensures.same in
    omega (arith, known.count, c.requires.texts.count)

pub length_of-requires-clause-space : goal.length_of-requires-clause-space
length_of-requires-clause-space c =
    let p = c.form_parts-parts.result in
    let texts = texts_meaning c.args.form.now in
    let known = tells p.mask.now p.ends.now p.body.now texts c.form_parts-parts.ensures.parts c.form_parts-parts.ensures.same in
    let size = c.bytes_in.type_inv in
    omega (arith, known.bytes, c.requires.texts.bytes, size.1)

pub returns : goal.returns
returns c =
    let p = c.form_parts-parts.result in
    let texts = texts_meaning c.args.form.now in
    let text = c.args.text.now in
    let count = length p.ends.now in
    let known = tells p.mask.now p.ends.now p.body.now texts c.form_parts-parts.ensures.parts c.form_parts-parts.ensures.same in
    let flags = flags_of p.mask.now count in
    let others : some_missing (map is_none texts) ≡ c.other_missing.result =
    ap some_missing (known.flags ∙ sym (set_past flags count false (omega (arith, length-flags_of p.mask.now count)))) ∙ sym c.other_missing.ensures in
    let any : list_any is_none (texts ++ text ∷ []) ≡ (c.is_none.result || c.other_missing.result) =
    missing_next texts text ∙ ap (λ b. is_none text || b) others ∙ ap (λ b. b || c.other_missing.result) (sym (none_is text c.is_none.result c.is_none.ensures)) in
    let many : length (texts ++ text ∷ []) ≡ count + 1 = omega (arith, length-append texts (text ∷ []), known.count) in
    let size : text_bytes (texts ++ text ∷ []) ≡ length p.body.now + length c.bytes_in.result.now = omega (arith, bytes_next texts text, known.bytes, ap length c.bytes_in.ensures.bytes) in
    c.length_of.ensures ∙ length_is texts (texts ++ text ∷ []) (c.is_none.result || c.other_missing.result) (count + 1) (length p.body.now + length c.bytes_in.result.now) any many size
