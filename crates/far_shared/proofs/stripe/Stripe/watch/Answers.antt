use Rattle.std.proofs.Common.{ap}
use Rattle.std.proofs.lemmas.Result.{IfOk-weaker}
use Rattle.far_shared.proofs.JobsRefusals.{if-err}
use Rattle.far_shared.proofs.StripesRegistry.{held-watch, refused-watched}
use Rattle.far_shared.proofs.UnderLockLaws.{registers, under-lock}
use Rattle.far_shared.proofs.WatchingUndo.{held, watched}
use Rattle.far_shared.proofs.stripe.Stripe.watch.Goals as goal

pub returns-clause-ok : goal.returns-clause-ok
returns-clause-ok g c =
    let s = c.self.inside in
    rw (← c.self.view_is) (IfOk-weaker c.watch.result _ _ (λ a h. watched g.S.FarTickets.content s.frame c.watch.new.self s.keeper c.args.spec a h) c.watch.ensures.ok)

pub returns-clause-err : goal.returns-clause-err
returns-clause-err g c =
    let s = c.self.inside in
    rw (← c.self.view_is) (if-err c.watch.result _ _ (λ e h. ap (held s.keeper) h.0) c.watch.ensures.err)

pub returns-clause-refused : goal.returns-clause-refused
returns-clause-refused g c =
    let s = c.self.inside in
    if-err c.watch.result _ _ (λ e h. refused-watched g.S.FarTickets.content s.frame c.watch.new.self g.N.PlanTag.plan s.keeper c.self.invariant.0 c.args.spec e h) c.watch.ensures.err

pub invariant_of-self : goal.invariant_of-self
invariant_of-self g c =
    let s = c.self.inside in
    held-watch g.S.FarTickets.content s.frame c.watch.new.self g.N.PlanTag.plan s.keeper c.self.invariant.0 c.known.ensures.legal g.S.FarTickets.is_of g.B.TableTag.store c.self.invariant.1 _ c.self.invariant.2
    c.args.spec c.watch.result c.watch.ensures.ok c.watch.ensures.err

pub returns-clause-under : goal.returns-clause-under
returns-clause-under g c =
    let s = c.self.inside in
    let plan = g.N.PlanTag.plan in
    let is_of = g.S.FarTickets.is_of in
    let store = g.B.TableTag.store in
    let new = c.watch.new.self in
    let after = held-watch g.S.FarTickets.content s.frame new plan s.keeper c.self.invariant.0 c.known.ensures.legal is_of store c.self.invariant.1 _ c.self.invariant.2 c.args.spec c.watch.result c.watch.ensures.ok c.watch.ensures.err in
    IfOk-weaker c.watch.result _ _
    (λ a h.
    let done = watched g.S.FarTickets.content s.frame new s.keeper c.args.spec a h in
    registers _ a c.args.spec (held s.keeper s.frame) (held s.keeper new) (under-lock plan is_of store _ s.keeper s.frame c.known.ensures.legal c.self.invariant) (under-lock plan is_of store _ s.keeper new c.known.ensures.legal after) done.0 done.1)
    c.watch.ensures.ok
