use Rattle.far_extrema.proofs.PartsLaws.{part_here}
use Rattle.far_extrema.proofs.runs.part_of.Goals as goal

pub returns-in-Ok-clause-some : goal.returns-in-Ok-clause-some
returns-in-Ok-clause-some c = part_here c.args.firsts.now c.args.group c.in-Ok.place c.requires c.in-Ok.ensures.found
