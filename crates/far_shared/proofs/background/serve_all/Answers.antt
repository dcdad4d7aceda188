use Rattle.std.proofs.Common.{arith}
use Rattle.far_shared.proofs.CountedLaws.{counted-done, counted-refused}
use Rattle.far_shared.proofs.background.serve_all.Goals as goal
use Rattle.far_shared.proofs.background.serve_all.Goals.{in-Ok, in-Err}

pub loop-work-preserved : goal.loop-work-preserved
loop-work-preserved g c = elim c.match-serve.branch [
  | in-Ok w ↦ rw w.report-is (omega (arith, c.loop-work.invariant.0), counted-done _ _ c.args.works.now c.loop-work.work-index _ c.loop-work-test.true c.loop-work.report.done c.loop-work.report.refused c.loop-work.invariant.1 w.in-Ok.ensures.served)
  | in-Err w ↦ rw w.report-is (omega (arith, c.loop-work.invariant.0), counted-refused _ _ c.args.works.now c.loop-work.work-index _ c.loop-work-test.true c.loop-work.report.done c.loop-work.report.refused c.loop-work.invariant.1 (w.in-Err.field-0, w.in-Err.ensures.why))
]
