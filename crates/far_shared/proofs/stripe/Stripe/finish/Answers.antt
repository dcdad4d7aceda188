use Rattle.std.proofs.Common.{ap, subst}
use Rattle.std.proofs.lemmas.Result.{on_err_weaker}
use Rattle.far_rows.specs.Jobs.{AreAt}
use Rattle.far_shared.proofs.StripesColumns.{still-of}
use Rattle.far_shared.proofs.StripesLaws.{stripe-unchanged}
use Rattle.far_shared.proofs.WatchingUndo.{held}
use Rattle.far_shared.proofs.stripe.Stripe.finish.Goals as goal

pub returns-clause-ended : goal.returns-clause-ended
returns-clause-ended g c = rw (← c.self.view_is) c.finish_on.ensures.ended

pub returns-clause-why : goal.returns-clause-why
returns-clause-why g c = rw (← c.self.view_is) c.finish_on.ensures.refused

pub returns-clause-err : goal.returns-clause-err
returns-clause-err g c = rw (← c.self.view_is) (on_err_weaker c.finish_on.result (λ same. ap (held c.self.inside.keeper) same) c.finish_on.ensures.err)

pub invariant_of-self : goal.invariant_of-self
invariant_of-self g c =
    let s = c.self.inside in
    let done = c.finish_on.ensures in (
      stripe-unchanged g.N.PlanTag.plan s.keeper s.frame.table c.finish_on.new.frame.table done.keeps.rows c.self.invariant.0,
      subst (λ n. AreAt g.S.FarTickets.is_of n c.finish_on.new.frame.rows) c.requires.store done.keeps.here,
      still-of g.N.PlanTag.plan.schema _ _ _ done.keeps.columns c.self.invariant.2,
    )
