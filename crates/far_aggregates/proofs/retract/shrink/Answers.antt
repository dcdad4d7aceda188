use Rattle.far_aggregates.proofs.AccumulatorsExtrema.{is-reserved}
use Rattle.far_aggregates.proofs.retract.shrink.Goals as goal

pub shrink-requires-clause-reserved : goal.shrink-requires-clause-reserved
shrink-requires-clause-reserved g c = is-reserved c.args.number c.args.live.now.groups c.args.pair.now.0 _ c.requires.observed
