use Rattle.far_shell.proofs.WorkingReadings.{AreRead}
use Rattle.far_shell.proofs.sessions.reading.read_gauges.Given as goal

abbrev pub invariant-loop-one : goal.invariant-loop-one
invariant-loop-one g l = AreRead g.N.PlanTag.plan l.yielded l.sessions.items l.readings.items
