use Rattle.far_extrema.proofs.PartsLaws.{JoinsFrom}
use Rattle.far_extrema.proofs.runs.joined_runs.Given as goal

abbrev pub invariant-loop-run : goal.invariant-loop-run
invariant-loop-run l = JoinsFrom l.runs l.run-index l.top
