use Rattle.std.proofs.Common.{ℕ, ◌<◌, ◌∷◌, get_or}
use Rattle.std.specs.Prelude.{slice_range}
use Rattle.std.specs.Str.{IsUtf8}
use Rattle.far_codec.specs.TextForm.{ends_in}
use Rattle.far_codec.proofs.texts.are_utf8.Given as goal

abbrev pub invariant-loop-i : goal.invariant-loop-i
invariant-loop-i l = (k : ℕ) → k < l.i → IsUtf8 (slice_range l.body (get_or (0 ∷ ends_in l.ends) k 0) (get_or (ends_in l.ends) k 0))
