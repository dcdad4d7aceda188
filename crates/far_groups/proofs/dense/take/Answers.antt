use Rattle.std.proofs.Common.{sym, ◌∙◌, subst, arith}
use Rattle.std.specs.Prelude.{IfSome}
use Rattle.far_groups.specs.CountSums.{IsCountSum, AreCountSums, LeavesCountSum}
use Rattle.far_groups.specs.Dense.{place_key, by_place}
use Rattle.far_groups.proofs.CountSumsLaws.{AreCountSums-without}
use Rattle.far_groups.proofs.DensePlaces.{get_place, get_behind, retracted_stands, place_subtracted}
use Rattle.far_groups.proofs.dense.take.Goals as goal

pub subtract-requires-clause-valid_sums : goal.subtract-requires-clause-valid_sums
subtract-requires-clause-valid_sums c =
    let count_sum = c.index.result.now in
    let found = get_place c.args.dense.now.items c.args.place count_sum (omega arith) c.index.ensures in
    let some = found ∙ retracted_stands count_sum c.args.less (subst (LeavesCountSum c.args.less) found c.requires.there) in
    subst (λ o. IfSome o IsCountSum) some (c.requires.valid_sums (place_key c.args.place))

pub subtract-requires-clause-there : goal.subtract-requires-clause-there
subtract-requires-clause-there c =
    let count_sum = c.index.result.now in
    let found = get_place c.args.dense.now.items c.args.place count_sum (omega arith) c.index.ensures in
    let there = subst (LeavesCountSum c.args.less) found c.requires.there in
    subst (LeavesCountSum c.args.less) (retracted_stands count_sum c.args.less there) there

pub returns-then-place-len-clause-less : goal.returns-then-place-len-clause-less
returns-then-place-len-clause-less c =
    place_subtracted c.args.dense.now.items c.args.place c.index.result.now c.subtract.result c.args.less (omega arith) c.index.ensures c.subtract.ensures c.requires.there

pub returns-then-place-len-clause-valid_sums : goal.returns-then-place-len-clause-valid_sums
returns-then-place-len-clause-valid_sums c =
    subst AreCountSums (sym (returns-then-place-len-clause-less c)) (AreCountSums-without (by_place c.args.dense.now.items) (place_key c.args.place) c.args.less c.requires.valid_sums c.requires.there)

pub returns-else-place-len-clause-less : goal.returns-else-place-len-clause-less
returns-else-place-len-clause-less c =
    absurd (subst (LeavesCountSum c.args.less) (get_behind c.args.dense.now.items c.args.place (omega arith)) c.requires.there)
