use Rattle.std.proofs.Common.{◌∷◌, ◌∙◌, arith}
use Rattle.std.proofs.lemmas.Result.{err_from_is_err_and}
use Rattle.far_types.specs.FirstOf.{first_of}
use Rattle.far_texts.specs.Texts.{lists_of}
use Rattle.far_texts.specs.RefusingTogether.{any_full, last_tests, push_texts_refusal}
use Rattle.far_texts.proofs.RefusingTogetherForms.{due-measured, first-asked, second-asked}
use Rattle.far_texts.proofs.RefusingTogetherOneColumn.{one-asked}
use Rattle.far_texts.proofs.text_column.together.asking.may_push_texts.Goals as goal

pub returns-in_err-may_measure_forms : goal.returns-in_err-may_measure_forms
returns-in_err-may_measure_forms g c =
    let p = err_from_is_err_and c.from_residual.result c.from_residual.ensures.1 in
    let content = g.S.FarTickets.content in
    let m = c.args.objects.now in
    let columns = c.args.columns.now in
    let texts = c.args.texts.now in
    let behind = first_of (any_full (lists_of content m) columns texts ∷ last_tests content m columns texts) in
    rw (p.1, p.2) (first-asked (push_texts_refusal content m columns texts) _ behind c.in_err-may_measure_forms.field-0.0 (due-measured content m columns texts) c.in_err-may_measure_forms.ensures.refused)

pub returns : goal.returns
returns g c =
    let content = g.S.FarTickets.content in
    let m = c.args.objects.now in
    let columns = c.args.columns.now in
    let texts = c.args.texts.now in
    let behind = first_of (any_full (lists_of content m) columns texts ∷ last_tests content m columns texts) in
    c.may_place_forms.ensures ∙ second-asked (push_texts_refusal content m columns texts) _ behind (due-measured content m columns texts) c.in_ok-may_measure_forms.ensures.refused

pub bounds-texts-0 : goal.bounds-texts-0
bounds-texts-0 g c = omega (arith, c.requires.same_length)

pub returns-then-columns-eq1 : goal.returns-then-columns-eq1
returns-then-columns-eq1 g c = c.may_push.ensures ∙ one-asked g.S.FarTickets.content c.args.objects.now c.args.columns.now c.args.texts.now c.index-columns-0.result c.index-texts-0.result (omega arith) c.requires.same_length c.index-columns-0.is c.index-texts-0.is
