use Rattle.std.proofs.Common.{inl, rules}
use Rattle.far_shared.specs.Works.{BeginsBuild}
use Rattle.far_shared.specs.declared.work.Building.TheVariants as building
use Rattle.far_shared.specs.UnderLock.{Found, IsUnder}
use Rattle.far_shared.proofs.UnderLockLaws.{scan-failed, scanned}
use Rattle.far_shared.proofs.locked.build_under.Goals as goal

pub returns-in_err-scan_under-in-Scan-clause-why : goal.returns-in_err-scan_under-in-Scan-clause-why
returns-in_err-scan_under-in-Scan-clause-why g c =
    let allows = IsUnder g.N.PlanTag.plan g.S.FarTickets.is_of g.B.TableTag.store g.row.I in
    let begun : Found allows (λ s. BeginsBuild s (building.Scan c.in-Scan.aggregate c.in-Scan.group)) = search rules in
    let failed = scan-failed g.S.FarTickets.number_of g.S.FarTickets.content allows c.in-Scan.aggregate c.in-Scan.group begun _ c.in_err-scan_under-in-Scan.ensures.why in
    search rules

pub returns-in_ok-scan_under-in-Scan-clause-built : goal.returns-in_ok-scan_under-in-Scan-clause-built
returns-in_ok-scan_under-in-Scan-clause-built g c =
    let allows = IsUnder g.N.PlanTag.plan g.S.FarTickets.is_of g.B.TableTag.store g.row.I in
    let begun : Found allows (λ s. BeginsBuild s (building.Scan c.in-Scan.aggregate c.in-Scan.group)) = search rules in
    rw c.requires.own (inl (scanned g.S.FarTickets.number_of g.S.FarTickets.content allows c.in-Scan.aggregate c.in-Scan.group begun c.in_ok-scan_under-in-Scan.ensures.scanned))
