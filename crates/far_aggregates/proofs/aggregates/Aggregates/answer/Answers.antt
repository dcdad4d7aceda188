use Rattle.std.proofs.Common.{◌≡◌, Some, true, ap, sym, ◌∙◌, subst, slice_get}
use Rattle.std.proofs.lemmas.Result.{IfErr-weaker, IfOk-weaker}
use Rattle.far_types.specs.MayRefuse.{MayRefuse}
use Rattle.far_aggregates.specs.Aggregates.{flattened, aggregate_in, ask_refusal, Answers}
use Rattle.far_aggregates.specs.Accumulators.{KeepsEntry, registered_in}
use Rattle.far_aggregates.proofs.AggregatesLaws.{entry-at, keeps-at}
use Rattle.far_aggregates.proofs.aggregates.Aggregates.answer.Goals as goal

pub returns-clause-ok : goal.returns-clause-ok
returns-clause-ok c =
    let registry = c.args.self.now in
    let w = c.in-Some.aggregate.now in
    let found : flattened (slice_get registry c.args.a) ≡ Some w = ap (λ l. flattened (slice_get l c.args.a)) (sym (c.as_slice.ensures.value ∙ c.self.view_is)) ∙ sym c.in-Some.ensures in
    let here : aggregate_in registry c.args.a ≡ registered_in (Some w) = entry-at registry c.args.a ∙ ap registered_in found in
    IfOk-weaker c.answer.result _ _ (λ answer given size places pos h.
    subst (λ o. Answers places o answer) (sym here) (given size places pos (subst (KeepsEntry size places) found (keeps-at size places registry c.args.a h))))
    c.answer.ensures.ok

pub returns-clause-err : goal.returns-clause-err
returns-clause-err c =
    let registry = c.args.self.now in
    let w = c.in-Some.aggregate.now in
    let found : flattened (slice_get registry c.args.a) ≡ Some w = ap (λ l. flattened (slice_get l c.args.a)) (sym (c.as_slice.ensures.value ∙ c.self.view_is)) ∙ sym c.in-Some.ensures in
    let here : aggregate_in registry c.args.a ≡ registered_in (Some w) = entry-at registry c.args.a ∙ ap registered_in found in
    IfErr-weaker c.answer.result _ _ (λ e given size places h.
    subst (λ o. MayRefuse (ask_refusal o) true e) (sym here) (given size places (subst (KeepsEntry size places) found (keeps-at size places registry c.args.a h))))
    c.answer.ensures.err
