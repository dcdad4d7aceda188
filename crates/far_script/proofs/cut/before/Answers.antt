use Rattle.std.proofs.Common.{◌≡◌, get_or, arith, rules}
use Rattle.std.proofs.lemmas.Str.{IsCharBoundary-before_ascii}
use Rattle.far_script.proofs.PartLaws.{separates}
use Rattle.far_script.proofs.cut.before.Goals as goal

pub range-requires-clause-end_boundary : goal.range-requires-clause-end_boundary
range-requires-clause-end_boundary c =
    let here : get_or c.args.text.now c.args.at 0 ≡ c.args.wanted = separates c.args.wanted c.args.text.now c.args.at c.requires.first (search rules) in
    IsCharBoundary-before_ascii _ _ (search rules) (omega (arith, here, c.requires.ascii))
