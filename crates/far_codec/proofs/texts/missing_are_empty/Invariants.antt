use Rattle.std.proofs.Common.{◌≡◌, ℕ, ◌<◌, ◌∷◌, true, get_or}
use Rattle.far_codec.specs.Reading.{is_missing}
use Rattle.far_codec.specs.TextForm.{ends_in}
use Rattle.far_codec.proofs.texts.missing_are_empty.Given as goal

abbrev pub invariant-loop-i : goal.invariant-loop-i
invariant-loop-i l = (k : ℕ) → k < l.i → is_missing l.mask k ≡ true → get_or (ends_in l.ends) k 0 ≡ get_or (0 ∷ ends_in l.ends) k 0
