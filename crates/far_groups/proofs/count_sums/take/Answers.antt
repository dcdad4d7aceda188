use Rattle.std.proofs.Common.{refl, IsSome, sym, ◌∙◌, subst}
use Rattle.far_types.proofs.AnswersByKeyMaps.{get_at}
use Rattle.far_groups.specs.CountSums.{totals_of, AreCountSums, LeavesCountSum}
use Rattle.far_groups.proofs.CountSumsLaws.{no_count, some_count, if_found, AreCountSums-without, retracted_whole, retracted_part}
use Rattle.far_groups.proofs.count_sums.take.Goals as goal

pub subtract-rest-requires-clause-valid_sums : goal.subtract-rest-requires-clause-valid_sums
subtract-rest-requires-clause-valid_sums c =
    if_found _ _ (get_at c.args.count_sums.now.entries c.args.key.now ∙ sym c.in-Some.ensures.value) (c.requires.valid_sums c.args.key.now)

pub subtract-rest-requires-clause-there : goal.subtract-rest-requires-clause-there
subtract-rest-requires-clause-there c =
    subst (LeavesCountSum c.args.less) (get_at c.args.count_sums.now.entries c.args.key.now ∙ sym c.in-Some.ensures.value) c.requires.there

pub returns-in-None-clause-less : goal.returns-in-None-clause-less
returns-in-None-clause-less c =
    absurd (subst (LeavesCountSum c.args.less) (get_at c.args.count_sums.now.entries c.args.key.now ∙ sym c.in-None.ensures.value) c.requires.there)

pub returns-then-rest-eq0-clause-less : goal.returns-then-rest-eq0-clause-less
returns-then-rest-eq0-clause-less c =
    let there = subst IsSome c.in-Some.ensures.value refl in
    let unchanged = c.get_mut.follows.holds c.in-Some.count_sum.now in
    retracted_whole c.args.count_sums.now.entries (c.get_mut.follows.lender c.in-Some.count_sum.now).entries c.remove.new.self.entries c.args.key.now c.args.less c.in-Some.count_sum.now c.subtract-rest.result
    c.in-Some.ensures.value (unchanged.3 there).0 c.remove.ensures.updates.0 c.subtract-rest.ensures (subst (LeavesCountSum c.args.less) (get_at c.args.count_sums.now.entries c.args.key.now) c.requires.there) (no_count c.rest.view_is c.if-rest-eq0.true)

pub returns-else-rest-eq0-clause-less : goal.returns-else-rest-eq0-clause-less
returns-else-rest-eq0-clause-less c =
    let there = subst IsSome c.in-Some.ensures.value refl in
    let written = c.get_mut.follows.holds c.subtract-rest.result in
    retracted_part c.args.count_sums.now.entries (c.get_mut.follows.lender c.subtract-rest.result).entries c.args.key.now c.args.less c.in-Some.count_sum.now c.subtract-rest.result
    c.in-Some.ensures.value (written.3 there).0 c.subtract-rest.ensures (some_count c.rest.view_is c.if-rest-eq0.false)

pub returns-then-rest-eq0-clause-valid_sums : goal.returns-then-rest-eq0-clause-valid_sums
returns-then-rest-eq0-clause-valid_sums c =
    subst AreCountSums (sym (returns-then-rest-eq0-clause-less c)) (AreCountSums-without (totals_of c.args.count_sums.now.entries) c.args.key.now c.args.less c.requires.valid_sums c.requires.there)

pub returns-else-rest-eq0-clause-valid_sums : goal.returns-else-rest-eq0-clause-valid_sums
returns-else-rest-eq0-clause-valid_sums c =
    subst AreCountSums (sym (returns-else-rest-eq0-clause-less c)) (AreCountSums-without (totals_of c.args.count_sums.now.entries) c.args.key.now c.args.less c.requires.valid_sums c.requires.there)
