use Rattle.std.proofs.Common.{IsSome, take}
use Rattle.std.specs.Prelude.{All}
use Rattle.far_log.specs.RegionState.{segment_of, list_at}
use Rattle.far_base_tests.proofs.log.order.are_parts.Given as goal

abbrev pub invariant-loop-offset : goal.invariant-loop-offset
invariant-loop-offset g l = All (λ offset. IsSome (list_at (segment_of l.region l.segment).parts offset)) (take l.offset-index l.order)
