use Rattle.std.proofs.Common.{◌≡◌, Some, subst, ◌∙◌}
use Rattle.far_types.specs.Bounds.{spec_refusal}
use Rattle.far_shared.proofs.JobsRefusals.{if-err}
use Rattle.far_shared.proofs.StripesRegistry.{check-allowed}
use Rattle.far_shared.proofs.WorksLaws.{either-carried}
use Rattle.far_shared.proofs.stripe.Stripe.check.Goals as goal

pub returns-clause-allowed : goal.returns-clause-allowed
returns-clause-allowed g c =
    let s = c.self.inside in
    either-carried c.check.result _ _ (check-allowed g.N.PlanTag.plan s.keeper s.frame.table c.self.invariant.0 _ c.args.spec.now c.schema.ensures) c.check.ensures.ok

pub returns-clause-refused : goal.returns-clause-refused
returns-clause-refused g c =
    if-err c.check.result _ _ (λ e h. subst (λ kinds. spec_refusal kinds c.args.spec.now ≡ Some e) (c.schema.ensures ∙ c.self.invariant.0.schema) h) c.check.ensures.refused
