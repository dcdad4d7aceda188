use Rattle.std.proofs.Common.{◌≢◌, ℕ, ◌<◌, []}
use Rattle.far_log.specs.RegionState.{segment_of}
use Rattle.far_log.proofs.region.Region.empty_other.Given as goal

abbrev pub invariant-loop-number : goal.invariant-loop-number
invariant-loop-number g l = (k : ℕ) → k < l.number → k ≢ l.from → (segment_of l.self k).parts ≢ []
