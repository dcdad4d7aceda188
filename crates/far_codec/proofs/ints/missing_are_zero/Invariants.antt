use Rattle.std.proofs.Common.{◌≡◌, ℕ, ◌<◌, true, [], get_or, None}
use Rattle.far_codec.specs.FarForm.{number_bytes}
use Rattle.far_codec.specs.Reading.{is_missing}
use Rattle.far_codec.proofs.ints.missing_are_zero.Given as goal

abbrev pub invariant-loop-i : goal.invariant-loop-i
invariant-loop-i l = (k : ℕ) → k < l.i → is_missing l.mask k ≡ true → get_or l.words k [] ≡ number_bytes None
