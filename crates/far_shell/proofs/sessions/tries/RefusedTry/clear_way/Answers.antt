use Rattle.std.proofs.Common.{length}
use Rattle.far_shared.specs.UnderLock.{IsUnder}
use Rattle.far_commands.proofs.ResultLaws.{on-ok}
use Rattle.far_shell.proofs.WorkingTries.{evac-tried, fetch-tried}
use Rattle.far_shell.proofs.sessions.tries.RefusedTry.clear_way.Goals as goal

pub returns-in-Absent-clause-cleared : goal.returns-in-Absent-clause-cleared
returns-in-Absent-clause-cleared g c =
    let t = g.S.FarTickets in
    let e = c.fetch.ensures in
    rw c.in-Absent.is (on-ok c.stop_at_no_memory.result _ _ (fetch-tried t.number_of t.content (IsUnder g.N.PlanTag.plan t.is_of g.B.TableTag.store) (length g.N.PlanTag.plan.schema) c.args.stripe record { column = c.in-Absent.column; group = c.in-Absent.group } c.fetch.result e.fetched e.why) c.stop_at_no_memory.ensures.ok)

pub returns-in-RegionFull-clause-cleared : goal.returns-in-RegionFull-clause-cleared
returns-in-RegionFull-clause-cleared g c =
    let t = g.S.FarTickets in
    let e = c.evacuate_once.ensures in
    rw c.in-RegionFull.is (on-ok c.stop_at_no_memory-in-RegionFull.result _ _ (evac-tried t.number_of t.content (IsUnder g.N.PlanTag.plan t.is_of g.B.TableTag.store) (length g.N.PlanTag.plan.schema) c.args.stripe c.evacuate_once.result e.evacuated e.why) c.stop_at_no_memory-in-RegionFull.ensures.ok)
