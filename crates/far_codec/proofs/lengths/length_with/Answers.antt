use Rattle.std.proofs.Common.{◌≡◌, ◌+◌, ◌-◌, false, length, set, sym, ap, ◌∙◌, arith}
use Rattle.std.specs.Prelude.{is_none, ◌||◌}
use Rattle.std.specs.List.{list_any}
use Rattle.std.proofs.lemmas.List.{length-set}
use Rattle.far_types.specs.FormLengths.{text_bytes}
use Rattle.far_codec.specs.FarForm.{some_missing}
use Rattle.far_codec.specs.TextForm.{bytes_of, texts_meaning}
use Rattle.far_codec.proofs.TextFormLengthChanges.{tells, lent_is, one_of, missing_set, bytes_set, length_is, none_is}
use Rattle.far_codec.proofs.lengths.length_with.Goals as goal

pub overflow_sub-parts : goal.overflow_sub-parts
overflow_sub-parts c =
    let p = c.form_parts-parts.result in
    let texts = texts_meaning c.args.form.now in
    let known = tells p.mask.now p.ends.now p.body.now texts c.form_parts-parts.ensures.parts c.form_parts-parts.ensures.same in
    let lent = lent_is _ _ texts c.args.i c.text_in.ensures c.form_parts-parts.ensures.same c.requires.there in
    omega (arith, c.lent_length-old.ensures, ap (λ t. length (bytes_of t)) lent, one_of texts c.args.i c.requires.there, known.bytes)

pub length_of-requires-clause-few : goal.length_of-requires-clause-few
length_of-requires-clause-few c =
    let p = c.form_parts-parts.result in
    let texts = texts_meaning c.args.form.now in
    let known = tells p.mask.now p.ends.now p.body.now texts c.form_parts-parts.ensures.parts c.form_parts-parts.ensures.same in
    omega (arith, known.count, c.requires.form.texts.count)

pub length_of-requires-clause-space : goal.length_of-requires-clause-space
length_of-requires-clause-space c =
    let p = c.form_parts-parts.result in
    let texts = texts_meaning c.args.form.now in
    let known = tells p.mask.now p.ends.now p.body.now texts c.form_parts-parts.ensures.parts c.form_parts-parts.ensures.same in
    let size = c.bytes_in.type_inv in
    omega (arith, known.bytes, c.requires.form.texts.bytes, size.1)

pub returns : goal.returns
returns c =
    let p = c.form_parts-parts.result in
    let texts = texts_meaning c.args.form.now in
    let i = c.args.i in
    let text = c.args.text.now in
    let known = tells p.mask.now p.ends.now p.body.now texts c.form_parts-parts.ensures.parts c.form_parts-parts.ensures.same in
    let lent = lent_is _ _ texts i c.text_in.ensures c.form_parts-parts.ensures.same c.requires.there in
    let any : list_any is_none (set texts i text) ≡ (c.is_none.result || c.other_missing.result) =
    missing_set texts i text c.requires.there
    ∙ ap (λ b. is_none text || b) (ap (λ flags. some_missing (set flags i false)) known.flags ∙ sym c.other_missing.ensures)
    ∙ ap (λ b. b || c.other_missing.result) (sym (none_is text c.is_none.result c.is_none.ensures)) in
    let many : length (set texts i text) ≡ length p.ends.now = length-set texts i text ∙ sym known.count in
    let size : text_bytes (set texts i text) ≡ length p.body.now - c.lent_length-old.result + length c.bytes_in.result.now =
    omega (arith, bytes_set texts i text c.requires.there, known.bytes, c.lent_length-old.ensures, ap (λ t. length (bytes_of t)) lent, one_of texts i c.requires.there, ap length c.bytes_in.ensures.bytes) in
    c.length_of.ensures ∙ length_is texts (set texts i text) (c.is_none.result || c.other_missing.result) (length p.ends.now) (length p.body.now - c.lent_length-old.result + length c.bytes_in.result.now) any many size
