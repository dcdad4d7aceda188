use Rattle.std.proofs.Common.{◌≡◌}
use Rattle.sha2.specs.Sha256.{hash_after, initial_hash_256}
use Rattle.far_host.specs.Lanes.{hash_lane}
use Rattle.far_host.proofs.lanes.hash_values.Given as goal

abbrev pub invariant-each : goal.invariant-each
invariant-each l = (hash_lane 0 l.state ≡ hash_after initial_hash_256 l.first l.block)
    × (hash_lane 1 l.state ≡ hash_after initial_hash_256 l.second l.block)
    × (hash_lane 2 l.state ≡ hash_after initial_hash_256 l.third l.block)
    × (hash_lane 3 l.state ≡ hash_after initial_hash_256 l.fourth l.block)
