use Rattle.std.proofs.Common.{◌≡◌, replicate}
use Rattle.far_log.proofs.StorageSegments.{default_value}
use Rattle.far_log.proofs.segments.Segments.new.Given as goal

abbrev pub invariant-loop : goal.invariant-loop
invariant-loop g l = l.tables.items ≡ replicate l.counter default_value
