use Rattle.std.proofs.Common.{◌≡◌, ℕ, ◌+◌, ◌<◌, ◌≤◌, length, Some}
use Rattle.std.specs.Prelude.{slice_get}
use Rattle.far_log.specs.declared.extents.Extent.{Extent}
use Rattle.far_log.specs.Chunking.{capacity_at, start_at}
use Rattle.far_log.specs.Storage.{extents_of}
use Rattle.far_log.proofs.extents.chunk_at.Given as goal

abbrev pub invariant-loop-number : goal.invariant-loop-number
invariant-loop-number l = record {
  few : l.number ≤ 26;
  there : start_at 64 l.number < length l.table;
  before : (k : ℕ) (s : Extent) → slice_get (extents_of l.table) k ≡ Some s → s.offset ≡ l.offset → k < start_at 64 l.number + capacity_at 64 l.number;
}

abbrev pub decreases-loop-number : goal.decreases-loop-number
decreases-loop-number l = l.number
