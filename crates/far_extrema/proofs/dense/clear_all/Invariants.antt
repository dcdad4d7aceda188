use Rattle.std.proofs.Common.{◌≡◌, ◌<◌, ◌≤◌, ℕ, length, slice_get}
use Rattle.far_extrema.specs.Holders.{AreCleared}
use Rattle.far_extrema.proofs.dense.clear_all.Given as goal

abbrev pub invariant-loop-place : goal.invariant-loop-place
invariant-loop-place l = record {
  before : (k : ℕ) → k < l.place → AreCleared l.group (slice_get l.initial.dense.items k) (slice_get l.dense.items k);
  from : (k : ℕ) → l.place ≤ k → slice_get l.dense.items k ≡ slice_get l.initial.dense.items k;
  len : length l.dense.items ≡ length l.initial.dense.items;
}
