use Rattle.std.proofs.Common.{◌≡◌, ◌≤◌, length, map, take}
use Rattle.std.specs.Prelude.{vec_capacity}
use Rattle.far_aggregates.specs.Pairs.{row_gives}
use Rattle.far_aggregates.specs.Replacing.{value_of}
use Rattle.far_aggregates.proofs.pairs.value_pairs.Given as goal

abbrev pub invariant-loop-entry : goal.invariant-loop-entry
invariant-loop-entry g l = record {
  capacity : length l.registry ≤ vec_capacity l.pairs;
  pairs : l.pairs.items ≡ map (value_of l.column l.size l.place (row_gives (g.R.LendCells.cells l.row))) (take l.entry-index l.registry);
}
