use Rattle.std.proofs.Common.{rules}
use Rattle.far_frame.specs.Effects.{Accepts}
use Rattle.far_frame.specs.declared.step.Reply.TheVariants as reply
use Rattle.far_frame.specs.declared.step.Step.TheVariants as step
use Rattle.far_shared.specs.UnderLock.{IsUnder}
use Rattle.far_shared.proofs.UnderLockLaws.{changes-under}
use Rattle.far_shared.proofs.locked.scan_under.Goals as goal

pub returns-clause-scanned : goal.returns-clause-scanned
returns-clause-scanned g c =
    let allows = IsUnder g.N.PlanTag.plan g.S.FarTickets.is_of g.B.TableTag.store g.row.I in
    let old = c.deref_mut.result.now in
    let new = c.scan-scanned.new.self in
    let before : allows old = search rules in
    let after : allows new = search rules in
    changes-under allows
    (λ old new. Accepts g.S.FarTickets.content old (step.ScanGroup c.args.aggregate c.args.group) reply.Done new)
    old new c.scan-scanned.result before after c.scan-scanned.ensures.same c.scan-scanned.ensures.scanned
