use Rattle.std.proofs.Common.{refl, sym, ◌∙◌}
use Rattle.far_codec.specs.Reading.{numbers_of}
use Rattle.far_codec.specs.TextForm.{texts_of, ends_in, texts_meaning}
use Rattle.far_codec.proofs.FarFormHeads.{some_value}
use Rattle.far_codec.proofs.FormsMeaning.{is_ints_form, is_texts_form, not_both}
use Rattle.far_codec.proofs.values.kind_of.Goals as goal

pub returns-then-is_some-clause-ints : goal.returns-then-is_some-clause-ints
returns-then-is_some-clause-ints c =
    let there = some_value c.split_ints.result _ c.split_ints.ensures.found (sym c.is_some.ensures ∙ c.if-is_some.true) in
    (λ e. is_ints_form c.args.bytes.now (numbers_of there.0.mask.now there.0.words.now) there.1.0 there.1.1, λ form. refl)

pub returns-then-is_some-clause-texts : goal.returns-then-is_some-clause-texts
returns-then-is_some-clause-texts c =
    let there = some_value c.split_ints.result _ c.split_ints.ensures.found (sym c.is_some.ensures ∙ c.if-is_some.true) in
    (λ e. absurd cc, λ form. absurd (not_both c.args.bytes.now (numbers_of there.0.mask.now there.0.words.now) (texts_meaning c.args.bytes.now) there.1.1 form.is))

pub returns-then-is_some-2-clause-texts : goal.returns-then-is_some-2-clause-texts
returns-then-is_some-2-clause-texts c =
    let there = some_value c.split_texts.result _ c.split_texts.ensures.found (sym c.is_some-2.ensures ∙ c.if-is_some-2.true) in
    (λ e. is_texts_form c.args.bytes.now (texts_of there.0.mask.now (ends_in there.0.ends.now) there.0.body.now) there.1.0 there.1.1, λ form. refl)
