use Rattle.std.proofs.Common.{◌≡◌, length, take}
use Rattle.far_shared.specs.UnderLock.{AreServed, IsUnder}
use Rattle.far_shared.specs.Works.{works_in}
use Rattle.far_shared.proofs.background.serve_all.Given as goal

abbrev pub invariant-loop-work : goal.invariant-loop-work
invariant-loop-work g l = (works_in l.report ≡ l.work-index)
    × AreServed g.S.FarTickets.number_of g.S.FarTickets.content (IsUnder g.N.PlanTag.plan g.S.FarTickets.is_of g.B.TableTag.store) (length g.N.PlanTag.plan.schema) (take l.work-index l.works) l.report.done l.report.refused
