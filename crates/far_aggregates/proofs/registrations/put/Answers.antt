use Rattle.std.proofs.Common.{◌≡◌, Some, ap, ◌∙◌, arith, length, slice_set}
use Rattle.far_aggregates.specs.Accumulators.{registered_in, registered_of}
use Rattle.far_aggregates.proofs.AccumulatorsRegistry.{registered-set, registered-push}
use Rattle.far_aggregates.proofs.registrations.put.Goals as goal

pub returns-in_ok-push-clause-registered : goal.returns-in_ok-push-clause-registered
returns-in_ok-push-clause-registered c =
    let registry = c.args.registry.now.items in
    let at : length registry ≡ c.args.a = omega (arith, c.if-a-len.true, c.len.ensures, c.args.registry.now.ok.0) in
    ap registered_of c.in_ok-push.ensures.items ∙ registered-push registry (Some c.args.aggregate) (omega (arith, c.requires.number))
    ∙ ap (λ n. slice_set (registered_of registry) n (registered_in (Some c.args.aggregate))) at

pub returns-else-a-len-clause-registered : goal.returns-else-a-len-clause-registered
returns-else-a-len-clause-registered c =
    registered-set c.args.registry.now.items c.args.a (Some c.args.aggregate) (omega (arith, c.requires.within, c.if-a-len.false, c.len.ensures, c.args.registry.now.ok.0))
