use Rattle.std.proofs.Common.{◌<◌, false, sym, ◌∙◌, arith}
use Rattle.std.proofs.lemmas.List.{length-set, get_or-set_other}
use Rattle.far_codec.specs.Reading.{flags_of}
use Rattle.far_codec.proofs.ReadingMasks.{length-flags_of, flag_at}
use Rattle.far_codec.proofs.flags.ChangedFlagsFlags.is_missing.Goals as goal

pub returns-else-i-self : goal.returns-else-i-self
returns-else-i-self c =
    let s = c.args.self.now in
    let flags = flags_of s.mask.now s.count in
    let inside : c.args.i < s.count = omega (arith, c.requires, length-set flags s.i s.missing, length-flags_of s.mask.now s.count) in
    c.is_set.ensures ∙ sym (get_or-set_other flags s.i c.args.i s.missing false c.if-i-self.false ∙ flag_at s.mask.now s.count c.args.i inside)
