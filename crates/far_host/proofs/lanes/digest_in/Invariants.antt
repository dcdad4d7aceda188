use Rattle.std.proofs.Common.{◌≡◌, ◌*◌, length, take}
use Rattle.sha2.specs.Sha256.{digest_bytes}
use Rattle.far_host.specs.Lanes.{hash_lane}
use Rattle.far_host.proofs.lanes.digest_in.Given as goal

abbrev pub invariant-words : goal.invariant-words
invariant-words l = (length l.digest ≡ 32) × (take (4 * l.i) l.digest ≡ digest_bytes (hash_lane l.lane l.state) l.i)
