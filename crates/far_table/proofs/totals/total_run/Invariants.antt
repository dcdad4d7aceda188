use Rattle.std.proofs.Common.{◌≡◌, ◌-◌, ◌≤◌}
use Rattle.far_types.specs.Answers.{totals}
use Rattle.far_rows.specs.Places.{places_in}
use Rattle.far_aggregates.specs.Accumulators.{pairs_here}
use Rattle.far_table.specs.Pieces.{run_of}
use Rattle.far_table.proofs.PiecesRuns.{live_of}
use Rattle.far_table.proofs.totals.total_run.Given as goal

abbrev pub invariant-loop-group : goal.invariant-loop-group
invariant-loop-group g l = record {
  totals : l.live ≡ live_of (l.to - l.group) (totals (pairs_here l.spec (run_of l.rows.size l.from l.group (places_in g.S.FarTickets.content l.rows))));
  low : l.from ≤ l.group;
  high : l.group ≤ l.to;
  meter : l.meter ≡ l.initial.meter;
}
