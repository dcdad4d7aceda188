use Rattle.std.proofs.Common.{◌≡◌, ◌<◌, ℕ, false, slice_get}
use Rattle.far_aggregates.specs.Scans.{has_pending}
use Rattle.far_aggregates.specs.Aggregates.{flattened}
use Rattle.far_aggregates.proofs.readings.first_pending.Given as goal

abbrev pub invariant-loop-i : goal.invariant-loop-i
invariant-loop-i l = (k : ℕ) → k < l.i → (g : ℕ) → has_pending g (flattened (slice_get l.registry k)) ≡ false
