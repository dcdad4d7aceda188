use Rattle.std.proofs.Common.{◌≡◌, ◌++◌, ◌-◌, drop, map, length, replicate, None}
use Rattle.far_aggregates.specs.Aggregates.{free_from}
use Rattle.far_aggregates.specs.Accumulators.{registered_in, registered_of}
use Rattle.far_aggregates.proofs.registrations.free_number.Given as goal

abbrev pub invariant-loop-i : goal.invariant-loop-i
invariant-loop-i l = free_from l.i (map registered_in (drop l.i l.registry) ++ replicate (32 - length l.registry) None) ≡ free_from 0 (registered_of l.registry)
