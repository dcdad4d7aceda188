use Rattle.std.proofs.Common.{◌≡◌, ◌≤◌, length}
use Rattle.far_groups.specs.Dense.{by_place}
use Rattle.far_groups.proofs.dense.grow.Given as goal

abbrev pub invariant-loop-place : goal.invariant-loop-place
invariant-loop-place l = record {
  same : by_place l.dense.items ≡ by_place l.initial.dense.items;
  len : l._place ≤ length l.dense.items;
}
