use Rattle.std.proofs.Common.{◌≡◌, length, set, sym, ap, ◌∙◌, arith}
use Rattle.far_codec.specs.Effects.{with_text}
use Rattle.far_codec.specs.Reading.{flags_of}
use Rattle.far_codec.specs.TextForm.{texts_form, texts_of, ends_in}
use Rattle.far_codec.proofs.TextFormChanges.{flags_with}
use Rattle.far_codec.proofs.TextFormLengthChanges.{none_is}
use Rattle.far_codec.proofs.EffectsLaws.{are_with, form_made}
use Rattle.far_codec.proofs.FarFormLaws.{texts_form_length}
use Rattle.far_codec.proofs.FormsMeaning.{is_texts_form, texts_meant}
use Rattle.far_codec.proofs.TextFormLaws.{length-ends_in}
use Rattle.far_codec.proofs.changes.form_around.Goals as goal

spelled : (c : goal.In_ok-push_fields) → c.push_fields.new.form.items ≡ texts_form (with_text (texts_of c.args.parts.mask.now (ends_in c.args.parts.ends.now) c.args.parts.body.now) c.args.i c.args.text.now)
spelled c =
    let p = c.args.parts in
    let ends = ends_in p.ends.now in
    let text = c.args.text.now in
    let count = c.max.result in
    let flags = set (flags_of p.mask.now count) c.args.i c.is_none.result in
    let many = length-ends_in p.ends.now in
    let same = flags_with p.mask.now ends p.body.now count c.args.i text (omega (arith, c.requires.there, many)) (omega (arith, c.max.ensures, many)) ∙ ap (set (flags_of p.mask.now count) c.args.i) (sym (none_is text c.is_none.result c.is_none.ensures)) in
    form_made (with_text (texts_of p.mask.now ends p.body.now) c.args.i text) c.push_fields.new.form.items c.in_ok-form.form.items c.push_head.new.form.items flags c.in_ok-push_fields.ensures.written c.in_ok-push_head.ensures c.in_ok-form.ensures.items same

pub returns-clause-form : goal.returns-clause-form
returns-clause-form c =
    let p = c.args.parts in
    let texts = texts_of p.mask.now (ends_in p.ends.now) p.body.now in
    is_texts_form c.push_fields.new.form.items (with_text texts c.args.i c.args.text.now) (are_with texts c.args.i c.args.text.now c.requires.texts c.push_fields.ensures.utf8 c.requires.space) (spelled c)

pub returns-clause-texts : goal.returns-clause-texts
returns-clause-texts c =
    let p = c.args.parts in
    let texts = texts_of p.mask.now (ends_in p.ends.now) p.body.now in
    texts_meant c.push_fields.new.form.items (with_text texts c.args.i c.args.text.now) (are_with texts c.args.i c.args.text.now c.requires.texts c.push_fields.ensures.utf8 c.requires.space) (spelled c)

pub returns-clause-length : goal.returns-clause-length
returns-clause-length c =
    let p = c.args.parts in
    ap length (spelled c) ∙ texts_form_length (with_text (texts_of p.mask.now (ends_in p.ends.now) p.body.now) c.args.i c.args.text.now)
