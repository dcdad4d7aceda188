use Rattle.far_shared.proofs.UnderLockLaws.{under-lock}
use Rattle.far_shared.proofs.stripe.Stripe.known.Goals as goal

pub returns : goal.returns
returns g c =
    let s = c.self.inside in
    rw (← c.self.view_is) (under-lock g.N.PlanTag.plan g.S.FarTickets.is_of g.B.TableTag.store _ s.keeper s.frame c.known.ensures.legal c.self.invariant)
