use Rattle.std.proofs.Common.{◌≡◌, get_or, arith, rules}
use Rattle.std.proofs.lemmas.Str.{IsCharBoundary-after_ascii}
use Rattle.far_script.proofs.PartLaws.{separates}
use Rattle.far_script.proofs.cut.behind.Goals as goal

pub range_from-requires : goal.range_from-requires
range_from-requires c _ =
    let here : get_or c.args.text.now c.args.at 0 ≡ c.args.wanted = separates c.args.wanted c.args.text.now c.args.at c.requires.first (search rules) in
    IsCharBoundary-after_ascii _ _ c.utf8.text (search rules) (omega (arith, here, c.requires.ascii))
