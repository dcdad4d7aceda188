use Rattle.std.proofs.Common.{◌≡◌, ℕ, ◌+◌, ◌<◌, ◌≤◌, length, Some}
use Rattle.std.specs.Prelude.{slice_get}
use Rattle.far_log.specs.declared.extents.Extent.{Extent}
use Rattle.far_log.specs.Storage.{extents_of}
use Rattle.far_log.proofs.extents.extent_among.Given as goal

abbrev pub invariant-loop-size : goal.invariant-loop-size
invariant-loop-size l = record {
  some : 0 < l.size;
  within : l.low + l.size ≤ length l.entries;
  between : (k : ℕ) (s : Extent) → slice_get (extents_of l.entries) k ≡ Some s → s.offset ≡ l.offset → (l.low ≤ k) × (k < l.low + l.size);
}

abbrev pub decreases-loop-size : goal.decreases-loop-size
decreases-loop-size l = l.size
