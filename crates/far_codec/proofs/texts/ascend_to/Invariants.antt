use Rattle.std.proofs.Common.{◌≡◌, ℕ, ◌<◌, ◌≤◌, ◌∷◌, get_or}
use Rattle.far_codec.specs.TextForm.{ends_in}
use Rattle.far_codec.proofs.texts.ascend_to.Given as goal

abbrev pub invariant-loop-i : goal.invariant-loop-i
invariant-loop-i l = record {
  start_is : l.start ≡ get_or (0 ∷ ends_in l.ends) l.i 0;
  each : (k : ℕ) → k < l.i → get_or (0 ∷ ends_in l.ends) k 0 ≤ get_or (ends_in l.ends) k 0;
}
