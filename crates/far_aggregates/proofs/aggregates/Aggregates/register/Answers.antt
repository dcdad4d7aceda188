use Rattle.std.proofs.Common.{ap, ◌∙◌}
use Rattle.far_aggregates.specs.Aggregates.{free_from}
use Rattle.far_aggregates.specs.Accumulators.{registered_of}
use Rattle.far_aggregates.proofs.AggregatesLaws.{free-within, free-below}
use Rattle.far_aggregates.proofs.aggregates.Aggregates.register.Goals as goal

pub register-requires-clause-number : goal.register-requires-clause-number
register-requires-clause-number c = free-below c.self.inside.registry.items c.args.a c.self.invariant (ap (λ registry. free_from 0 (registered_of registry)) c.self.view_is ∙ c.requires.free)

pub register-requires-clause-within : goal.register-requires-clause-within
register-requires-clause-within c = free-within c.self.inside.registry.items c.args.a (ap (λ registry. free_from 0 (registered_of registry)) c.self.view_is ∙ c.requires.free)
