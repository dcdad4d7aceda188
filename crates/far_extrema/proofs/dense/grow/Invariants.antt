use Rattle.std.proofs.Common.{◌≤◌, length}
use Rattle.far_extrema.specs.Numbers.{ArePlacesLike}
use Rattle.far_extrema.proofs.dense.grow.Given as goal

abbrev pub invariant-loop-place : goal.invariant-loop-place
invariant-loop-place l = record {
  same : ArePlacesLike l.initial.dense.items l.dense.items;
  few : length l.initial.dense.items ≤ 2048 → length l.dense.items ≤ 2048;
  len : l._place ≤ length l.dense.items;
  short : length l.initial.dense.items ≤ l._place → length l.dense.items ≤ l._place;
}
