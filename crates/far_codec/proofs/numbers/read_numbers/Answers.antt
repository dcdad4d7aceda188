use Rattle.std.proofs.Common.{rules}
use Rattle.std.proofs.lemmas.Iterator.{YieldsList-from_map, YieldsList-from_slice}
use Rattle.std.proofs.lemmas.Iterator.Adapters.{items_from_extend}
use Rattle.far_codec.specs.Reading.{number_of}
use Rattle.far_codec.proofs.numbers.read_numbers.Goals as goal

pub returns : goal.returns
returns c =
    let h = items_from_extend c.extend.result c.extend.ensures.ran (YieldsList-from_map _ number_of (YieldsList-from_slice c.args.words.now cc) (cc) (λ x r q k. search rules)) in
    search rules
