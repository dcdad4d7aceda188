use Rattle.far_shared.proofs.StripesRegistry.{empty-stripe}
use Rattle.far_shared.proofs.stripe.parts.under_lock.Goals as goal

pub invariant_of-new : goal.invariant_of-new
invariant_of-new g c = empty-stripe g.S.FarTickets.is_of g.N.PlanTag.plan _ g.B.TableTag.store c.args.keeper c.args.frame c.requires.new c.requires.empty
