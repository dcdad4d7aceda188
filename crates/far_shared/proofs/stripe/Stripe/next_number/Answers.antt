use Rattle.far_shared.proofs.WatchingUndo.{next-number}
use Rattle.far_shared.proofs.stripe.Stripe.next_number.Goals as goal

pub free_number-requires-clause-all : goal.free_number-requires-clause-all
free_number-requires-clause-all g c κs within = c.self.invariant.0.aggregates

pub returns-clause-free : goal.returns-clause-free
returns-clause-free g c = rw (← c.self.view_is) c.free_number.ensures

pub returns-clause-number : goal.returns-clause-number
returns-clause-number g c =
    let s = c.self.inside in
    next-number g.N.PlanTag.plan s.keeper s.frame.table c.self.invariant.0 c.free_number.result c.free_number.ensures
