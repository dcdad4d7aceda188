use Rattle.std.proofs.Common.{◌≡◌, ℕ, ◌<◌, ◌+◌, [], ◌∷◌, ◌++◌, length, drop, refl, sym, ap, subst, ◌∙◌, arith}
use Rattle.std.proofs.lemmas.List.{append-nil, drop_all}
use Rattle.std.proofs.lemmas.Option.{slice_get_within, slice_get_read}
use Rattle.far_scopes.specs.declared.replacement.Replacement.{Replacement}
use Rattle.far_texts.specs.Texts.{Lists, lists_of, IsTextColumn}
use Rattle.far_texts.specs.Effects.{group_with_next}
use Rattle.far_texts.specs.Together.{object_for, next_forms, forms_of}
use Rattle.far_texts.proofs.EffectsAppend.{form-is}
use Rattle.far_texts.proofs.RefusingTogetherFormSize.{none-full-at}
use Rattle.far_texts.proofs.TogetherMadeForms.{is-next, made-more, valid-more}
use Rattle.far_texts.proofs.text_column.together.forms.next_form.Goals as goal

pub bounds-columns-0 : goal.bounds-columns-0
bounds-columns-0 g c = omega (arith, c.requires.one)

pub bounds-texts-0 : goal.bounds-texts-0
bounds-texts-0 g c = omega (arith, c.requires.one, c.requires.same_length)

pub form_pushed-requires-clause-is : goal.form_pushed-requires-clause-is
form_pushed-requires-clause-is g c κs within =
    subst (IsTextColumn (lists_of g.S.FarTickets.content c.args.objects.now)) (sym c.index-columns-0.is) (c.requires.each 0 c.index-columns-0.result (omega (arith, c.requires.one)))

pub form_pushed-requires-clause-short : goal.form_pushed-requires-clause-short
form_pushed-requires-clause-short g c κs within =
    let columns = c.args.columns.now in
    let texts = c.args.texts.now in
    none-full-at (lists_of g.S.FarTickets.content c.args.objects.now) columns texts c.requires.short 0 c.index-columns-0.result c.index-texts-0.result
    (slice_get_read columns (length columns) 0 c.index-columns-0.result refl (omega (arith, c.requires.one)) c.index-columns-0.is)
    (slice_get_read texts (length texts) 0 c.index-texts-0.result refl (omega (arith, c.requires.same_length, c.requires.one)) c.index-texts-0.is)

pub returns-clause-form : goal.returns-clause-form
returns-clause-form g c =
    let lists : Lists = lists_of g.S.FarTickets.content c.args.objects.now in
    let columns = c.args.columns.now in
    let texts = c.args.texts.now in
    let column = c.index-columns-0.result in
    let text = c.index-texts-0.result in
    let n = length c.args.objects.now.records in
    let one : 0 < length columns = omega (arith, c.requires.one) in
    let inside : 0 < length texts = omega (arith, c.requires.same_length, c.requires.one) in
    let is = form-is c.in_ok-list.list.items (group_with_next lists column text) c.in_ok-list.ensures.form c.in_ok-list.ensures.texts in
    let place : n + 0 ≡ n = omega arith in
    let whole : next_forms lists (n + 0) columns texts ≡ next_forms lists n columns texts = ap (λ i. next_forms lists i columns texts) place in
    let none : drop 1 columns ≡ [] = drop_all 1 columns (omega (arith, c.requires.one)) in
    let r : Replacement ℕ = record { object = c.object_for-object.result; list = c.in_ok-list.list } in
    let made = made-more lists n columns texts 0 column text one inside c.index-columns-0.is c.index-texts-0.is [] (r ∷ []) r (next_forms lists n columns texts) whole refl (c.object_for-object.ensures ∙ ap (λ i. object_for column (i + 0)) c.count.ensures) is in
    sym (append-nil (forms_of (r ∷ []))) ∙ ap (λ cs. forms_of (r ∷ []) ++ next_forms lists (n + 1) cs (drop 1 texts)) (sym none) ∙ made

pub returns-clause-valid : goal.returns-clause-valid
returns-clause-valid g c = λ k column text here there.
    let columns = c.args.columns.now in
    let texts = c.args.texts.now in
    let lists : Lists = lists_of g.S.FarTickets.content c.args.objects.now in
    let first = c.index-columns-0.result in
    let given = c.index-texts-0.result in
    let one : 0 < length columns = omega (arith, c.requires.one) in
    let inside : 0 < length texts = omega (arith, c.requires.same_length, c.requires.one) in
    let short = none-full-at lists columns texts c.requires.short 0 first given (slice_get_read columns (length columns) 0 first refl one c.index-columns-0.is) (slice_get_read texts (length texts) 0 given refl inside c.index-texts-0.is) in
    let valid = is-next lists first given c.in_ok-list.list.items c.in_ok-list.ensures.form c.in_ok-list.ensures.texts c.in_ok-list.ensures.length short in
    valid-more lists c.args.objects.now.number columns texts 0 first given one inside c.index-columns-0.is c.index-texts-0.is valid (λ j d t below at is. absurd (omega (arith, below))) k column text (let within = slice_get_within columns k column here in omega (arith, within, c.requires.one)) here there
