use Rattle.std.proofs.Common.{◌+◌, ◌^◌, ◌≤◌, refl, sym, subst, arith}
use Rattle.std.specs.Prelude.{IfSome}
use Rattle.far_types.specs.Effects.{count_in}
use Rattle.far_groups.specs.CountSums.{IsCountSum, AreCountSums}
use Rattle.far_groups.specs.Dense.{place_key, by_place}
use Rattle.far_groups.proofs.CountSumsLaws.{AreCountSums-with}
use Rattle.far_groups.proofs.DensePlaces.{get_place, place_added}
use Rattle.far_groups.proofs.dense.add_existing.Goals as goal

pub added-requires-clause-valid_sums : goal.added-requires-clause-valid_sums
added-requires-clause-valid_sums c =
    subst (λ o. IfSome o IsCountSum) (get_place c.args.dense.now.items c.args.place c.index.result.now (omega arith) c.index.ensures) (c.requires.valid_sums (place_key c.args.place))

pub added-requires-clause-capacity : goal.added-requires-clause-capacity
added-requires-clause-capacity c =
    subst (λ o. count_in o + c.args.more.0 ≤ 2 ^ 26) (get_place c.args.dense.now.items c.args.place c.index.result.now (omega arith) c.index.ensures) c.requires.capacity

pub returns-clause-added : goal.returns-clause-added
returns-clause-added c _ =
    place_added c.args.dense.now.items c.args.place c.index.result.now c.added.result c.args.more (omega arith) c.index.ensures c.added.ensures.value c.added.ensures.valid_sums

pub returns-clause-valid_sums : goal.returns-clause-valid_sums
returns-clause-valid_sums c =
    subst AreCountSums (sym (returns-clause-added c refl)) (AreCountSums-with (by_place c.args.dense.now.items) (place_key c.args.place) c.args.more c.requires.valid_sums c.requires.more_valid_sums c.requires.capacity)
