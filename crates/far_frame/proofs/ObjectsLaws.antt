-- The space of a region is at most its capacity.
use Rattle.std.proofs.Common.{◌≤◌, arith}
use Rattle.std.proofs.lemmas.List.Sums.{sum_by-le-sum_by}
use Rattle.far_log.specs.RegionState.{RegionState, SegmentState, capacity_of, space_in, space_of}

pub space-within : {X : Type 0} (region : RegionState X) → space_of region ≤ capacity_of region
space-within {X} region = sum_by-le-sum_by space_in (λ (s : SegmentState X). s.size) region (λ s. omega arith)
