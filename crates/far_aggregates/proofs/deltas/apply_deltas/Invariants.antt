use Rattle.std.proofs.Common.{◌≡◌, ◌≤◌, ◌/◌, length, map, take}
use Rattle.std.specs.Prelude.{vec_capacity}
use Rattle.far_aggregates.specs.Pairs.{row_gives}
use Rattle.far_aggregates.specs.Deltas.{row_delta, with_delta}
use Rattle.far_aggregates.specs.Until.{zip_until}
use Rattle.far_aggregates.proofs.deltas.apply_deltas.Given as goal

abbrev pub invariant-loop-i : goal.invariant-loop-i
invariant-loop-i g l = record {
  registry : l.registry ≡ zip_until (with_delta (l.place / l.size)) l.i l.initial.registry (map (row_delta l.size l.place (row_gives (g.R.LendCells.cells l.row))) l.initial.registry);
  capacity : length l.initial.registry ≤ vec_capacity l.deltas;
  deltas : l.deltas.items ≡ map (row_delta l.size l.place (row_gives (g.R.LendCells.cells l.row))) (take l.i l.initial.registry);
}
