use Rattle.std.proofs.Common.{Some, rules}
use Rattle.far_frame.specs.Jobs.{IsColdestJob}
use Rattle.far_shared.specs.UnderLock.{Found, IsUnder}
use Rattle.far_shared.proofs.UnderLockLaws.{not-evacuated}
use Rattle.far_shared.proofs.locked.evacuate_under.Goals as goal

pub returns-in_err-complete_under-clause-why : goal.returns-in_err-complete_under-clause-why
returns-in_err-complete_under-clause-why g c =
    let allows = IsUnder g.N.PlanTag.plan g.S.FarTickets.is_of g.B.TableTag.store c.args.stripe in
    let begun : Found allows (λ s. IsColdestJob s.rows (Some c.in-Some.job)) = search rules in
    let failed = not-evacuated g.S.FarTickets.number_of g.S.FarTickets.content allows c.in-Some.job _ begun c.in_err-complete_under.ensures.why in
    search rules
