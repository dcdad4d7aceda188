use Rattle.std.proofs.Common.{◌≡◌, ℕ, ◌<◌, get_or}
use Rattle.far_codec.specs.MaskLaws.{part}
use Rattle.far_codec.proofs.FarFormMaskBytes.{flags_in}
use Rattle.far_codec.proofs.mask.strip_mask.Given as goal

abbrev pub invariant-loop-k : goal.invariant-loop-k
invariant-loop-k g l = (j : ℕ) → j < l.k → get_or l.mask j 0 ≡ part (flags_in l.values) j
