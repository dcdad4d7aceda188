use Rattle.std.proofs.Common.{◌≡◌, false, sym, subst, ◌∙◌}
use Rattle.std.proofs.lemmas.Result.{err_from_is_err_and}
use Rattle.far_texts.specs.Texts.{Texts, lists_of, IsTextColumn}
use Rattle.far_texts.specs.Effects.{begins_group, last_object}
use Rattle.far_scopes.specs.Refusing.{absent}
use Rattle.far_scopes.proofs.FirstOfCases.{next-free, next-due}
use Rattle.far_texts.proofs.text_column.together.checking.all_here.Goals as goal

pub last_form-requires-clause-begun : goal.last_form-requires-clause-begun
last_form-requires-clause-begun g c κs within =
    subst (λ (t : Texts). begins_group t ≡ false) (sym c.column-item.is) (c.requires.begun c.loop-column.column-index c.column-item.result c.loop-column-test.true)

pub last_form-requires-clause-is : goal.last_form-requires-clause-is
last_form-requires-clause-is g c κs within =
    subst (IsTextColumn (lists_of g.S.FarTickets.content c.args.objects.now)) (sym c.column-item.is) (c.requires.each c.loop-column.column-index c.column-item.result c.loop-column-test.true)

pub returns-in_err-_form : goal.returns-in_err-_form
returns-in_err-_form g c =
    let p = err_from_is_err_and c.from_residual.result c.from_residual.ensures.1 in
    rw (p.1, p.2) (sym (c.loop-column.invariant ∙ next-due (λ (t : Texts). absent c.args.objects.now (last_object t)) c.args.columns.now c.loop-column.column-index c.column-item.result c.in_err-_form.field-0.0 c.loop-column-test.true c.column-item.is c.in_err-_form.ensures.refused))

pub loop-column-preserved : goal.loop-column-preserved
loop-column-preserved g c =
    c.loop-column.invariant ∙ next-free (λ (t : Texts). absent c.args.objects.now (last_object t)) c.args.columns.now c.loop-column.column-index c.column-item.result c.loop-column-test.true c.column-item.is c.in_ok-_form.ensures.refused
