use Rattle.std.proofs.Common.{ap, sym, subst}
use Rattle.std.proofs.lemmas.Result.{on_err_weaker}
use Rattle.far_rows.specs.Jobs.{AreAt}
use Rattle.far_shared.proofs.StripesColumns.{same-columns, still-of}
use Rattle.far_shared.proofs.StripesLaws.{stripe-unchanged}
use Rattle.far_shared.proofs.WatchingUndo.{held}
use Rattle.far_shared.proofs.stripe.Stripe.scan.Goals as goal

pub returns-clause-scanned : goal.returns-clause-scanned
returns-clause-scanned g c = rw (← c.self.view_is) c.scan_on.ensures.scanned

pub returns-clause-why : goal.returns-clause-why
returns-clause-why g c = rw (← c.self.view_is) c.scan_on.ensures.refused

pub returns-clause-err : goal.returns-clause-err
returns-clause-err g c = rw (← c.self.view_is) (on_err_weaker c.scan_on.result (λ same. ap (held c.self.inside.keeper) same) c.scan_on.ensures.err)

pub invariant_of-self : goal.invariant_of-self
invariant_of-self g c =
    let s = c.self.inside in
    let done = c.scan_on.ensures in (
      stripe-unchanged g.N.PlanTag.plan s.keeper s.frame.table c.scan_on.new.frame.table done.keeps c.self.invariant.0,
      subst (AreAt g.S.FarTickets.is_of g.B.TableTag.store) (sym done.rows) c.self.invariant.1,
      still-of g.N.PlanTag.plan.schema _ _ _ (same-columns _ _ done.rows) c.self.invariant.2,
    )
