use Rattle.std.proofs.Common.{◌≡◌, Some, false, ap, sym, ◌∙◌, subst, slice_get}
use Rattle.std.proofs.lemmas.Result.{IfErr-weaker, IfOk-weaker}
use Rattle.far_types.specs.MayRefuse.{MayRefuse}
use Rattle.far_aggregates.specs.Aggregates.{flattened, aggregate_in, ask_refusal}
use Rattle.far_aggregates.specs.Accumulators.{KeepsEntry, registered_in}
use Rattle.far_aggregates.specs.Lines.{AnswersKey}
use Rattle.far_aggregates.proofs.AggregatesLaws.{entry-at, keeps-at}
use Rattle.far_aggregates.proofs.aggregates.Aggregates.line.Goals as goal

pub returns-clause-ok : goal.returns-clause-ok
returns-clause-ok c =
    let registry = c.args.self.now in
    let a = c.in-Some.aggregate.now in
    let found : flattened (slice_get registry c.args.a) ≡ Some a = ap (λ l. flattened (slice_get l c.args.a)) (sym (c.as_slice.ensures.value ∙ c.self.view_is)) ∙ sym c.in-Some.ensures in
    let here : aggregate_in registry c.args.a ≡ registered_in (Some a) = entry-at registry c.args.a ∙ ap registered_in found in
    IfOk-weaker c.line.result _ _ (λ line given size places pos h.
    subst (λ o. AnswersKey places o c.args.key.now line) (sym here) (given size places pos (subst (KeepsEntry size places) found (keeps-at size places registry c.args.a h))))
    c.line.ensures.ok

pub returns-clause-err : goal.returns-clause-err
returns-clause-err c =
    let registry = c.args.self.now in
    let a = c.in-Some.aggregate.now in
    let found : flattened (slice_get registry c.args.a) ≡ Some a = ap (λ l. flattened (slice_get l c.args.a)) (sym (c.as_slice.ensures.value ∙ c.self.view_is)) ∙ sym c.in-Some.ensures in
    let here : aggregate_in registry c.args.a ≡ registered_in (Some a) = entry-at registry c.args.a ∙ ap registered_in found in
    IfErr-weaker c.line.result _ _ (λ e given size places h.
    subst (λ o. MayRefuse (ask_refusal o) false e) (sym here) (given size places (subst (KeepsEntry size places) found (keeps-at size places registry c.args.a h))))
    c.line.ensures.err
