use Rattle.std.proofs.Common.{◌≡◌, take, set, false}
use Rattle.far_codec.specs.FarForm.{some_missing}
use Rattle.far_codec.specs.Reading.{flags_of}
use Rattle.far_codec.proofs.flags.other_missing.Given as goal

abbrev pub invariant-loop-j : goal.invariant-loop-j
invariant-loop-j l = some_missing (take l.j (set (flags_of l.mask l.count) l.i false)) ≡ false
