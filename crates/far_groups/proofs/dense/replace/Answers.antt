use Rattle.std.proofs.Common.{sym, ◌∙◌, subst, arith}
use Rattle.std.specs.Prelude.{IfSome}
use Rattle.std.proofs.lemmas.Int.{to_z-of_z}
use Rattle.far_groups.specs.Live.{CanRetract}
use Rattle.far_groups.specs.CountSums.{IsCountSum, AreCountSums}
use Rattle.far_groups.specs.Dense.{place_key, by_place}
use Rattle.far_groups.proofs.CountSumsLaws.{AreCountSums-insert}
use Rattle.far_groups.proofs.DensePlaces.{get_place, get_behind}
use Rattle.far_groups.proofs.ReplacingLaws.{replacing_stands, place_written, place_replaced}
use Rattle.far_groups.proofs.dense.replace.Goals as goal

pub replace-requires-clause-valid_sums : goal.replace-requires-clause-valid_sums
replace-requires-clause-valid_sums c =
    let count_sum = c.index.result.now in
    let found = get_place c.args.dense.now.items c.args.place count_sum (omega arith) c.index.ensures in
    let some = found ∙ replacing_stands c.args.from count_sum (subst (CanRetract c.args.from) found c.requires.there) in
    subst (λ o. IfSome o IsCountSum) some (c.requires.valid_sums (place_key c.args.place))

pub replace-requires-clause-there : goal.replace-requires-clause-there
replace-requires-clause-there c =
    let count_sum = c.index.result.now in
    let found = get_place c.args.dense.now.items c.args.place count_sum (omega arith) c.index.ensures in
    let there = subst (CanRetract c.args.from) found c.requires.there in
    simp (to_z-of_z, c.ranges.from) (subst (CanRetract c.args.from) (replacing_stands c.args.from count_sum there) there)

pub returns-then-place-len-clause-replaced : goal.returns-then-place-len-clause-replaced
returns-then-place-len-clause-replaced c =
    place_replaced c.args.dense.now.items c.args.place c.index.result.now c.replace.result c.args.from c.args.to (omega arith) c.index.ensures (simp (to_z-of_z, c.ranges.from, c.ranges.to) at c.replace.ensures.value) c.replace.ensures.valid_sums c.requires.there

pub returns-then-place-len-clause-valid_sums : goal.returns-then-place-len-clause-valid_sums
returns-then-place-len-clause-valid_sums c =
    subst AreCountSums (sym (place_written c.args.dense.now.items c.args.place c.replace.result (omega arith) c.replace.ensures.valid_sums))
    (AreCountSums-insert (by_place c.args.dense.now.items) (place_key c.args.place) c.replace.result c.requires.valid_sums c.replace.ensures.valid_sums)

pub returns-else-place-len-clause-replaced : goal.returns-else-place-len-clause-replaced
returns-else-place-len-clause-replaced c =
    absurd (subst (CanRetract c.args.from) (get_behind c.args.dense.now.items c.args.place (omega arith)) c.requires.there)
