use Rattle.far_aggregates.proofs.LendingLaws.{untested-at_hand}
use Rattle.far_aggregates.proofs.needed.untested_columns.Goals as goal

pub returns : goal.returns
returns g c = untested-at_hand c.args.spec.now (g.G.LendGroup.places c.args.group.now) c.lent-value.result c.lent-key.result c.requires.untested c.lent-value.ensures c.lent-key.ensures
