use Rattle.std.proofs.Common.{Some, sym, ap, ◌∙◌}
use Rattle.far_codec.specs.ReadingLaws.{one_ints_list}
use Rattle.far_codec.specs.Reading.{numbers_of}
use Rattle.far_codec.proofs.ints.OptionI64Elem.unspell.Goals as goal

pub returns-in_ok-read_ints-in-Some-clause-only : goal.returns-in_ok-read_ints-in-Some-clause-only
returns-in_ok-read_ints-in-Some-clause-only c list spelled =
    let found = c.in-Some.ensures.found in
    let numbers = numbers_of c.in-Some.parts.mask.now c.in-Some.parts.words.now in
    ap Some (c.in_ok-read_ints-in-Some.ensures ∙ one_ints_list numbers list found.0.range spelled.range found.0.count (sym found.1 ∙ spelled.is))
