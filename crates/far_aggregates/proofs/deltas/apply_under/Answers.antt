use Rattle.std.proofs.Common.{to_z, of_z, subst}
use Rattle.std.specs.Int.{w64}
use Rattle.far_types.specs.Pairs.{Pair}
use Rattle.far_aggregates.specs.Pairs.{Folds}
use Rattle.far_aggregates.specs.Deltas.{delta_of}
use Rattle.far_aggregates.specs.Reserve.{IsReserved}
use Rattle.far_aggregates.proofs.DeltasLaws.{accumulator-may_add, pair-fits}
use Rattle.far_aggregates.proofs.deltas.apply_under.Goals as goal

pub add_to-requires : goal.add_to-requires
add_to-requires c =
    let accumulator = c.in-Some.aggregate.accumulator in
    let pair : Pair = (c.number_key.result, to_z w64 (of_z w64 c.args.value)) in
    accumulator-may_add c.args.group accumulator (delta_of c.args.group accumulator pair)
    (pair-fits c.args.group accumulator pair (subst Folds c.in-Some.is c.requires.folds) (subst (IsReserved c.args.group) c.in-Some.is c.requires.reserved))
