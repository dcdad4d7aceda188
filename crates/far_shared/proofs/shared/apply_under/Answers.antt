use Rattle.std.proofs.Common.{ap, rules}
use Rattle.std.proofs.lemmas.Result.{on_err_weaker}
use Rattle.far_shared.specs.Stripes.{StripeState}
use Rattle.far_shared.specs.UnderLock.{IsUnder}
use Rattle.far_shared.proofs.ApplyingLaws.{due-under, extends, is-refused, made-under}
use Rattle.far_shared.proofs.shared.apply_under.Goals as goal

pub returns-clause-ok : goal.returns-clause-ok
returns-clause-ok g c =
    let returned = c.apply-applied.ensures in
    extends g.N.PlanTag.plan c.args.me.now c.args.edit c.apply-applied.new.me _ _ returned.seen c.apply-applied.result returned.ok returned.number returned.place

pub returns-clause-made : goal.returns-clause-made
returns-clause-made g c =
    let allows = IsUnder g.N.PlanTag.plan g.S.FarTickets.is_of g.B.TableTag.store g.row.I in
    let old = c.deref_mut.result.now in
    let new = c.apply-applied.new.self in
    let before : allows old = search rules in
    let later : allows new = search rules in
    let returned = c.apply-applied.ensures in
    made-under g.S.FarTickets.content allows c.args.edit c.apply-applied.new.me old new before returned.seen.whole later c.apply-applied.result returned.accepted

pub returns-clause-refused : goal.returns-clause-refused
returns-clause-refused g c =
    let returned = c.apply-applied.ensures in
    is-refused g.N.PlanTag.plan c.args.me.now c.args.edit c.apply-applied.new.me _ _ returned.seen c.apply-applied.result (on_err_weaker c.apply-applied.result (λ unchanged. (ap (λ (h : StripeState g.row.S-Ticket.Denot). h.log) unchanged.0, unchanged.1)) returned.refused) returned.why

pub returns-clause-due : goal.returns-clause-due
returns-clause-due g c =
    let allows = IsUnder g.N.PlanTag.plan g.S.FarTickets.is_of g.B.TableTag.store g.row.I in
    let old = c.deref_mut.result.now in
    let new = c.apply-applied.new.self in
    let before : allows old = search rules in
    let returned = c.apply-applied.ensures in
    due-under g.S.FarTickets.content allows c.args.edit c.apply-applied.new.me old new before returned.seen.whole c.apply-applied.result (on_err_weaker c.apply-applied.result (λ unchanged. unchanged.0) returned.refused) returned.due
