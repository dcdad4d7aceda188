use Rattle.std.proofs.Common.{None}
use Rattle.far_aggregates.proofs.AccumulatorsRegistry.{registered-set}
use Rattle.far_aggregates.proofs.registrations.forget.Goals as goal

pub returns-clause-registered : goal.returns-clause-registered
returns-clause-registered c = registered-set c.args.registry.now.items c.args.a None c.requires
