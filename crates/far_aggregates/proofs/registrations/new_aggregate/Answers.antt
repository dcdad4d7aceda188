use Rattle.std.proofs.Common.{◌∙◌, ap, sym}
use Rattle.far_types.specs.Table.{groups}
use Rattle.far_aggregates.proofs.AccumulatorsRegistry.{new-keeps}
use Rattle.far_aggregates.proofs.registrations.new_aggregate.Goals as goal

pub returns-clause-kept : goal.returns-clause-kept
returns-clause-kept c =
    λ all count. new-keeps c.args.size all c.args.spec c.args.registration c.group_count-groups.result c.in_ok-pending.pending c.empty_accumulator.result c.requires.size
    (c.group_count-groups.ensures.value ∙ ap (groups c.args.size) (sym count)) c.empty_accumulator.ensures.fold c.in_ok-pending.ensures c.empty_accumulator.ensures.nothing
