use Rattle.std.proofs.Common.{◌≡◌, ◌≤◌, ◌*◌, length, take, drop}
use Rattle.far_codec.specs.FarForm.{mask_byte}
use Rattle.far_codec.proofs.mask.byte_at.Given as goal

abbrev pub invariant-loop-i : goal.invariant-loop-i
invariant-loop-i g l = record {
  in_range : l.i ≤ length (take 8 (drop (8 * l.k) (g.F.Flags.flags l.flags)));
  byte_is : l.byte ≡ mask_byte (drop l.i (take 8 (drop (8 * l.k) (g.F.Flags.flags l.flags))));
}

abbrev pub decreases-loop-i : goal.decreases-loop-i
decreases-loop-i g l = l.i
