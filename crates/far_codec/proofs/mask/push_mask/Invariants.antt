use Rattle.std.proofs.Common.{◌≡◌, ◌++◌, map}
use Rattle.std.specs.List.{range_with_len}
use Rattle.far_codec.specs.MaskLaws.{part}
use Rattle.far_codec.proofs.mask.push_mask.Given as goal

abbrev pub invariant-loop-k : goal.invariant-loop-k
invariant-loop-k g l = l.form.items ≡ l.fn.form.items ++ map (part (g.F.Flags.flags l.flags)) (range_with_len 0 l.k)
