use Rattle.std.proofs.Common.{◌≡◌, ◌≤◌, length, take}
use Rattle.far_types.specs.Effects.{joined_totals}
use Rattle.far_groups.specs.CountSums.{AreCountSums}
use Rattle.far_groups.specs.Dense.{by_place}
use Rattle.far_groups.proofs.dense.join.Given as goal

abbrev pub invariant-loop-place : goal.invariant-loop-place
invariant-loop-place l = record {
  valid_sums : AreCountSums (by_place l.dense.items);
  long : length l.other.items ≤ length l.dense.items;
  joined : by_place l.dense.items ≡ joined_totals (by_place l.fn.dense.items) (by_place (take l.place l.other.items));
}
