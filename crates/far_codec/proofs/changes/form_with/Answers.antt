use Rattle.std.proofs.Common.{sym, ap, arith}
use Rattle.far_types.specs.FormLengths.{texts_length}
use Rattle.far_codec.specs.TextForm.{texts_meaning}
use Rattle.far_codec.proofs.TextFormLengthChanges.{tells}
use Rattle.far_codec.proofs.EffectsLaws.{with_is_set}
use Rattle.far_codec.proofs.changes.form_with.Goals as goal

pub form_around-requires-clause-there : goal.form_around-requires-clause-there
form_around-requires-clause-there c =
    let p = c.form_parts.result in
    let known = tells p.mask.now p.ends.now p.body.now (texts_meaning c.args.form.now) c.form_parts.ensures.parts c.form_parts.ensures.same in
    omega (arith, known.count, c.requires.there)

pub form_around-requires-clause-space : goal.form_around-requires-clause-space
form_around-requires-clause-space c =
    let changed = with_is_set _ (texts_meaning c.args.form.now) c.args.i c.args.text.now c.form_parts.ensures.same c.requires.there in
    omega (arith, ap texts_length changed, c.requires.space)

pub returns-clause-texts : goal.returns-clause-texts
returns-clause-texts c =
    let changed = with_is_set _ (texts_meaning c.args.form.now) c.args.i c.args.text.now c.form_parts.ensures.same c.requires.there in
    rw (sym changed) c.form_around.ensures.texts

pub returns-clause-length : goal.returns-clause-length
returns-clause-length c =
    let changed = with_is_set _ (texts_meaning c.args.form.now) c.args.i c.args.text.now c.form_parts.ensures.same c.requires.there in
    rw (sym changed) c.form_around.ensures.length
