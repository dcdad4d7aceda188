use Rattle.std.proofs.Common.{◌<◌, ◌+◌, length, refl, sym, ap, subst, ◌∙◌, arith}
use Rattle.std.proofs.lemmas.List.{length_push}
use Rattle.std.proofs.lemmas.Option.{slice_get_within, slice_get_read}
use Rattle.far_texts.specs.Texts.{Lists, lists_of, IsTextColumn}
use Rattle.far_texts.specs.Effects.{group_with_next}
use Rattle.far_texts.specs.Together.{object_for}
use Rattle.far_texts.proofs.EffectsAppend.{form-is}
use Rattle.far_texts.proofs.RefusingTogetherFormSize.{none-full-at}
use Rattle.far_texts.proofs.TogetherMadeForms.{is-next, made-more, valid-more}
use Rattle.far_texts.proofs.text_column.together.forms.next_forms.Goals as goal

pub form_pushed-requires-clause-is : goal.form_pushed-requires-clause-is
form_pushed-requires-clause-is g c κs within =
    subst (IsTextColumn (lists_of g.S.FarTickets.content c.args.objects.now)) (sym c.index-columns-k.is) (c.requires.each c.loop-k.k c.index-columns-k.result c.loop-k-test.true)

pub form_pushed-requires-clause-short : goal.form_pushed-requires-clause-short
form_pushed-requires-clause-short g c κs within =
    let columns = c.args.columns.now in
    let texts = c.args.texts.now in
    let k = c.loop-k.k in
    none-full-at (lists_of g.S.FarTickets.content c.args.objects.now) columns texts c.requires.short k c.index-columns-k.result c.index-texts-k.result
    (slice_get_read columns (length columns) k c.index-columns-k.result refl c.loop-k-test.true c.index-columns-k.is)
    (slice_get_read texts (length texts) k c.index-texts-k.result refl (omega (arith, c.requires.same_length, c.loop-k-test.true)) c.index-texts-k.is)

pub loop-k-preserved : goal.loop-k-preserved
loop-k-preserved g c =
    let lists : Lists = lists_of g.S.FarTickets.content c.args.objects.now in
    let columns = c.args.columns.now in
    let texts = c.args.texts.now in
    let k = c.loop-k.k in
    let column = c.index-columns-k.result in
    let text = c.index-texts-k.result in
    let n = length c.args.objects.now.records in
    let inside : k < length texts = omega (arith, c.requires.same_length, c.loop-k-test.true) in
    let short = none-full-at lists columns texts c.requires.short k column text
    (slice_get_read columns (length columns) k column refl c.loop-k-test.true c.index-columns-k.is)
    (slice_get_read texts (length texts) k text refl inside c.index-texts-k.is) in
    let is = form-is c.in_ok-list.list.items (group_with_next lists column text) c.in_ok-list.ensures.form c.in_ok-list.ensures.texts in
    let valid = is-next lists column text c.in_ok-list.list.items c.in_ok-list.ensures.form c.in_ok-list.ensures.texts c.in_ok-list.ensures.length short in (
      made-more lists n columns texts k column text c.loop-k-test.true inside c.index-columns-k.is c.index-texts-k.is _ _ _ _ c.loop-k.invariant.0 c.push_reserved.ensures.items (c.object_for-object.ensures ∙ ap (λ i. object_for column (i + k)) c.count-count.ensures) is,
      valid-more lists n columns texts k column text c.loop-k-test.true inside c.index-columns-k.is c.index-texts-k.is valid c.loop-k.invariant.1,
      ap (λ l. length l) c.push_reserved.ensures.items ∙ length_push c.loop-k.forms.items _ ∙ ap (λ i. i + 1) c.loop-k.invariant.2,
      c.push_reserved.ensures.capacity ∙ c.loop-k.invariant.3,
    )

pub returns-clause-valid : goal.returns-clause-valid
returns-clause-valid g c = λ k column text here there. c.loop-k.invariant.1 k column text (let within = slice_get_within c.args.columns.now k column here in omega (arith, within, c.loop-k-test.false)) here there
