use Rattle.std.proofs.Common.{ℕ, ◌<◌, IsSome}
use Rattle.std.specs.Prelude.{Contains}
use Rattle.far_log.specs.RegionState.{segment_of, list_at}
use Rattle.far_base_tests.proofs.log.order.are_all.Given as goal

abbrev pub invariant-loop-offset : goal.invariant-loop-offset
invariant-loop-offset g l = (offset : ℕ) → offset < l.offset-counter → IsSome (list_at (segment_of l.region l.segment).parts offset) → Contains l.order offset
