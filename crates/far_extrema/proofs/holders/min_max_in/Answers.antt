use Rattle.std.proofs.Common.{ap, ◌∙◌}
use Rattle.far_extrema.specs.Holders.{min_max_in}
use Rattle.far_extrema.proofs.holders.min_max_in.Goals as goal

pub returns-in-Some : goal.returns-in-Some
returns-in-Some c = c.min_max.ensures ∙ ap (λ o. min_max_in o c.args.group) (c.in-Some.ensures)

pub returns-in-None : goal.returns-in-None
returns-in-None c = ap (λ o. min_max_in o c.args.group) (c.in-None.ensures)
