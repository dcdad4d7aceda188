use Rattle.std.proofs.Common.{sym, ◌∙◌}
use Rattle.std.proofs.lemmas.List.{length-set}
use Rattle.far_codec.specs.Reading.{flags_of}
use Rattle.far_codec.proofs.ReadingMasks.{length-flags_of}
use Rattle.far_codec.proofs.flags.ChangedFlagsFlags.count.Goals as goal

pub returns : goal.returns
returns c =
    let s = c.args.self.now in
    sym (length-set (flags_of s.mask.now s.count) s.i s.missing ∙ length-flags_of s.mask.now s.count)
