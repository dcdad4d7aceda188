use Rattle.std.proofs.Common.{ap}
use Rattle.far_shared.proofs.StripesRegistry.{held-unwatch}
use Rattle.far_shared.proofs.WatchingUndo.{forgotten, held}
use Rattle.far_shared.proofs.stripe.Stripe.unwatch.Goals as goal

pub returns : goal.returns
returns g c =
    let s = c.self.inside in
    rw (← c.self.view_is) (ap (held s.keeper) (forgotten g.S.FarTickets.content s.frame c.unwatch-done.new.self c.args.a c.unwatch-done.result c.unwatch-done.ensures.ok c.unwatch-done.ensures.err))

pub invariant_of-self : goal.invariant_of-self
invariant_of-self g c =
    let s = c.self.inside in
    held-unwatch g.S.FarTickets.content s.frame c.unwatch-done.new.self g.N.PlanTag.plan s.keeper c.self.invariant.0 g.S.FarTickets.is_of g.B.TableTag.store c.self.invariant.1 _ c.self.invariant.2
    c.args.a c.requires c.unwatch-done.result c.unwatch-done.ensures.ok c.unwatch-done.ensures.err
