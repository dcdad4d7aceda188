use Rattle.std.proofs.Common.{◌≡◌, ◌<◌, ℕ, Some, slice_get}
use Rattle.far_aggregates.specs.Accumulators.{RegistryEntry, Change}
use Rattle.far_aggregates.specs.Retract.{IsPlain}
use Rattle.far_aggregates.proofs.retract.needs_rows.Given as goal

abbrev pub invariant-loop-i : goal.invariant-loop-i
invariant-loop-i l = (k : ℕ) (s : RegistryEntry) (c : Change) → k < l.i → slice_get l.registry k ≡ Some s → slice_get l.to_retract k ≡ Some c → IsPlain s c
