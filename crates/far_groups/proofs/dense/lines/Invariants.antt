use Rattle.far_groups.proofs.RankedLaws.{LinesBefore}
use Rattle.far_groups.proofs.dense.lines.Given as goal

abbrev pub invariant-loop-rank : goal.invariant-loop-rank
invariant-loop-rank l = LinesBefore l.dense.items l.rank l.lines.items
