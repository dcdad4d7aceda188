use Rattle.std.proofs.Common.{[], ◌∷◌, ◌∙◌}
use Rattle.std.proofs.lemmas.Result.{err_from_is_err_and}
use Rattle.far_types.specs.FirstOf.{first_of}
use Rattle.far_texts.specs.Texts.{lists_of}
use Rattle.far_texts.specs.RefusingTogether.{any_full, first_tests}
use Rattle.far_texts.proofs.RefusingTogetherForms.{first-measured, first-asked, second-asked}
use Rattle.far_texts.proofs.text_column.together.checking.may_make_forms.Goals as goal

pub returns-in_err-may_measure_forms : goal.returns-in_err-may_measure_forms
returns-in_err-may_measure_forms g c =
    let p = err_from_is_err_and c.from_residual.result c.from_residual.ensures.1 in
    let content = g.S.FarTickets.content in
    let m = c.args.objects.now in
    let columns = c.args.columns.now in
    let texts = c.args.texts.now in
    rw (p.1, p.2) (first-asked (first_of (first_tests content m columns texts)) _ (first_of (any_full (lists_of content m) columns texts ∷ [])) c.in_err-may_measure_forms.field-0.0 (first-measured content m columns texts) c.in_err-may_measure_forms.ensures.refused)

pub returns : goal.returns
returns g c =
    let content = g.S.FarTickets.content in
    let m = c.args.objects.now in
    let columns = c.args.columns.now in
    let texts = c.args.texts.now in
    c.none_full.ensures ∙ second-asked (first_of (first_tests content m columns texts)) _ (first_of (any_full (lists_of content m) columns texts ∷ [])) (first-measured content m columns texts) c.in_ok-may_measure_forms.ensures.refused
