use Rattle.std.proofs.Common.{Some, ap, ◌∙◌}
use Rattle.far_codec.specs.Reading.{numbers_of}
use Rattle.far_codec.specs.TextForm.{texts_of, ends_in}
use Rattle.far_codec.specs.declared.values.Values.TheVariants.{Ints, Texts}
use Rattle.far_codec.proofs.FormsMeaning.{ints_only, texts_only}
use Rattle.far_codec.proofs.values.decode.Goals as goal

pub returns-in-Some-clause-only : goal.returns-in-Some-clause-only
returns-in-Some-clause-only c values have e =
    let p = c.in-Some.parts in
    let found = c.in-Some.ensures.found in
    ap (λ l. Some (Ints l)) (c.new.ensures ∙ c.in_ok-read_ints.ensures) ∙ ap Some (ints_only c.args.bytes.now (numbers_of p.mask.now p.words.now) found.0 found.1 values have e)

pub returns-in-Some-split_texts-clause-only : goal.returns-in-Some-split_texts-clause-only
returns-in-Some-split_texts-clause-only c values have e =
    let p = c.in-Some-split_texts.parts in
    let found = c.in-Some-split_texts.ensures.found in
    ap (λ l. Some (Texts l)) (c.new-in-Some-split_texts.ensures ∙ c.in_ok-read_texts.ensures.read) ∙ ap Some (texts_only c.args.bytes.now (texts_of p.mask.now (ends_in p.ends.now) p.body.now) found.0 found.1 values have e)
