use Rattle.std.proofs.Common.{length, sym, ap, ◌∙◌, arith}
use Rattle.std.specs.Prelude.{is_none}
use Rattle.std.specs.List.{list_any}
use Rattle.far_types.specs.FormLengths.{texts_length}
use Rattle.far_codec.specs.TextForm.{texts_meaning}
use Rattle.far_codec.proofs.TextFormLengthChanges.{tells}
use Rattle.far_codec.proofs.EffectsLaws.{with_is_next}
use Rattle.far_codec.proofs.TextFormNextLengths.{form_head, some_none, none_next}
use Rattle.far_codec.proofs.changes.form_with_next.Goals as goal

pub bounds-form-0 : goal.bounds-form-0
bounds-form-0 c = let long = form_head c.args.form.now c.requires.form in omega (arith, long)

pub form_behind-requires-clause-there : goal.form_behind-requires-clause-there
form_behind-requires-clause-there c =
    let p = c.form_parts-parts.result in
    let form = c.args.form.now in
    let text = c.args.text.now in
    let texts = texts_meaning form in
    let known = tells p.mask.now p.ends.now p.body.now texts c.form_parts-parts.ensures.parts c.form_parts-parts.ensures.same in
    let there = some_none text (sym c.is_some.ensures ∙ c.if-is_some.true) in
    ap (list_any is_none) (with_is_next _ texts (length p.ends.now) text c.form_parts-parts.ensures.same known.count) ∙ none_next form text c.requires.form c.if-form-eq1.true there

pub form_behind-requires-clause-space : goal.form_behind-requires-clause-space
form_behind-requires-clause-space c =
    let p = c.form_parts-parts.result in
    let texts = texts_meaning c.args.form.now in
    let known = tells p.mask.now p.ends.now p.body.now texts c.form_parts-parts.ensures.parts c.form_parts-parts.ensures.same in
    let changed = with_is_next _ texts (length p.ends.now) c.args.text.now c.form_parts-parts.ensures.same known.count in
    omega (arith, ap texts_length changed, c.requires.space)

pub returns-then-is_some-clause-texts : goal.returns-then-is_some-clause-texts
returns-then-is_some-clause-texts c =
    let p = c.form_parts-parts.result in
    let texts = texts_meaning c.args.form.now in
    let known = tells p.mask.now p.ends.now p.body.now texts c.form_parts-parts.ensures.parts c.form_parts-parts.ensures.same in
    rw (sym (with_is_next _ texts (length p.ends.now) c.args.text.now c.form_parts-parts.ensures.same known.count)) c.form_behind.ensures.texts

pub returns-then-is_some-clause-length : goal.returns-then-is_some-clause-length
returns-then-is_some-clause-length c =
    let p = c.form_parts-parts.result in
    let texts = texts_meaning c.args.form.now in
    let known = tells p.mask.now p.ends.now p.body.now texts c.form_parts-parts.ensures.parts c.form_parts-parts.ensures.same in
    rw (sym (with_is_next _ texts (length p.ends.now) c.args.text.now c.form_parts-parts.ensures.same known.count)) c.form_behind.ensures.length

pub form_around-requires-clause-space : goal.form_around-requires-clause-space
form_around-requires-clause-space c =
    let p = c.form_parts-old.result in
    let texts = texts_meaning c.args.form.now in
    let known = tells p.mask.now p.ends.now p.body.now texts c.form_parts-old.ensures.parts c.form_parts-old.ensures.same in
    let changed = with_is_next _ texts (length p.ends.now) c.args.text.now c.form_parts-old.ensures.same known.count in
    omega (arith, ap texts_length changed, c.requires.space)

pub returns-clause-texts : goal.returns-clause-texts
returns-clause-texts c =
    let p = c.form_parts-old.result in
    let texts = texts_meaning c.args.form.now in
    let known = tells p.mask.now p.ends.now p.body.now texts c.form_parts-old.ensures.parts c.form_parts-old.ensures.same in
    rw (sym (with_is_next _ texts (length p.ends.now) c.args.text.now c.form_parts-old.ensures.same known.count)) c.form_around.ensures.texts

pub returns-clause-length : goal.returns-clause-length
returns-clause-length c =
    let p = c.form_parts-old.result in
    let texts = texts_meaning c.args.form.now in
    let known = tells p.mask.now p.ends.now p.body.now texts c.form_parts-old.ensures.parts c.form_parts-old.ensures.same in
    rw (sym (with_is_next _ texts (length p.ends.now) c.args.text.now c.form_parts-old.ensures.same known.count)) c.form_around.ensures.length
