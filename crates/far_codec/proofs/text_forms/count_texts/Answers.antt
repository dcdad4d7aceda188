use Rattle.std.proofs.Common.{length, sym, ap, ◌∙◌}
use Rattle.far_codec.specs.TextForm.{ends_in}
use Rattle.far_codec.specs.TextLaws.{length-texts_of}
use Rattle.far_codec.proofs.TextFormLaws.{length-ends_in}
use Rattle.far_codec.proofs.text_forms.count_texts.Goals as goal

pub returns : goal.returns
returns c =
    let p = c.form_parts.result in
    sym (length-ends_in p.ends.now) ∙ sym (length-texts_of p.mask.now (ends_in p.ends.now) p.body.now) ∙ ap length c.form_parts.ensures.same
