use Rattle.far_extrema.proofs.RunsLaws.{searched}
use Rattle.far_extrema.proofs.run.search.Goals as goal

pub returns-clause-absent : goal.returns-clause-absent
returns-clause-absent c = (searched c.args.groups.now c.args.group c.binary_search.result c.requires c.binary_search.ensures.bound c.binary_search.ensures.position).1
