use Rattle.std.proofs.Common.{◌≡◌, Bool, false, cond, None, Some, sym, ap, subst, ◌∙◌}
use Rattle.std.specs.List.{list_any}
use Rattle.std.proofs.lemmas.Result.{err_from_is_err_and}
use Rattle.std.proofs.lemmas.List.{drop_all}
use Rattle.far_types.specs.declared.refusal.Refusal.TheVariants as refusal
use Rattle.far_scopes.specs.Refusing.{absent, written_out}
use Rattle.far_texts.specs.Texts.{Texts, lists_of, IsTextColumn}
use Rattle.far_texts.specs.Effects.{begins_group, last_object}
use Rattle.far_texts.specs.Refusing.{next_length_refusal}
use Rattle.far_scopes.proofs.FirstOfCases.{any-later, any-here, written-free, written-due}
use Rattle.far_texts.proofs.RefusingTogetherForms.{last-here}
use Rattle.far_texts.proofs.text_column.together.asking.all_writable.Goals as goal

pub last_is_writable-requires-clause-begun : goal.last_is_writable-requires-clause-begun
last_is_writable-requires-clause-begun g c κs within =
    subst (λ (t : Texts). begins_group t ≡ false) (sym c.column-item.is) (c.requires.begun c.loop-column.column-index c.column-item.result c.loop-column-test.true)

pub last_is_writable-requires-clause-is : goal.last_is_writable-requires-clause-is
last_is_writable-requires-clause-is g c κs within =
    subst (IsTextColumn (lists_of g.S.FarTickets.content c.args.objects.now)) (sym c.column-item.is) (c.requires.each c.loop-column.column-index c.column-item.result c.loop-column-test.true)

pub returns-in_err-last_is_writable : goal.returns-in_err-last_is_writable
returns-in_err-last_is_writable g c =
    let p = err_from_is_err_and c.from_residual.result c.from_residual.ensures.1 in
    let m = c.args.objects.now in
    let at = c.column-item.result in
    let k = c.loop-column.column-index in
    let begun = subst (λ (t : Texts). begins_group t ≡ false) (sym c.column-item.is) (c.requires.begun k at c.loop-column-test.true) in
    let free = subst (λ (t : Texts). next_length_refusal g.S.FarTickets.content m t ≡ None) (sym c.column-item.is) (c.requires.here k at c.loop-column-test.true) in
    let here = last-here m g.S.FarTickets.content at begun free in
    let due = written-due (absent m (last_object at)) (written_out m (last_object at)) c.in_err-last_is_writable.field-0.0 here c.in_err-last_is_writable.ensures in
    let some = c.loop-column.invariant ∙ any-here (λ (t : Texts). written_out m (last_object t)) c.args.columns.now k at c.loop-column-test.true c.column-item.is due.0 in
    rw (p.1, p.2) (ap Some (sym due.1) ∙ sym (ap (λ (b : Bool). cond b (Some refusal.EditsUsedUp) None) some))

pub loop-column-preserved : goal.loop-column-preserved
loop-column-preserved g c =
    let m = c.args.objects.now in
    let at = c.column-item.result in
    c.loop-column.invariant ∙ any-later (λ (t : Texts). written_out m (last_object t)) c.args.columns.now c.loop-column.column-index at c.loop-column-test.true c.column-item.is (written-free (absent m (last_object at)) (written_out m (last_object at)) c.in_ok-last_is_writable.ensures)

pub returns : goal.returns
returns g c = ap (λ (b : Bool). cond b (Some refusal.EditsUsedUp) None) (sym (c.loop-column.invariant ∙ ap (list_any (λ (t : Texts). (written_out c.args.objects.now (last_object t)).0)) (drop_all c.loop-column.column-index c.args.columns.now c.loop-column-test.false)))
