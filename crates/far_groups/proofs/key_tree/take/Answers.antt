use Rattle.std.proofs.Common.{refl, IsSome, sym, ◌∙◌, subst, None, Some}
use Rattle.far_types.proofs.AnswersByKeyMaps.{get_at}
use Rattle.far_groups.specs.CountSums.{AreCountSums, LeavesCountSum}
use Rattle.far_groups.specs.KeyTree.{keyed_by, by_kind}
use Rattle.far_groups.proofs.CountSumsLaws.{no_count, some_count, if_found, AreCountSums-without, retracted_whole, retracted_part}
use Rattle.far_groups.proofs.KeyTreeLaws.{at_key, get_key, as_set}
use Rattle.far_groups.proofs.key_tree.take.Goals as goal

pub subtract-rest-requires-clause-valid_sums : goal.subtract-rest-requires-clause-valid_sums
subtract-rest-requires-clause-valid_sums g c =
    if_found _ _ (get_key g.met.K.TreeKey.keeps_order c.args.tree.now.entries c.args.key.now ∙ sym c.in-Some.ensures.value) (c.requires.valid_sums (Some (g.K.TreeKey.as_key c.args.key.now)))

pub subtract-rest-requires-clause-there : goal.subtract-rest-requires-clause-there
subtract-rest-requires-clause-there g c =
    subst (LeavesCountSum c.args.less) (get_key g.met.K.TreeKey.keeps_order c.args.tree.now.entries c.args.key.now ∙ sym c.in-Some.ensures.value) c.requires.there

pub returns-in-None-clause-less : goal.returns-in-None-clause-less
returns-in-None-clause-less g c =
    absurd (subst (LeavesCountSum c.args.less) (get_key g.met.K.TreeKey.keeps_order c.args.tree.now.entries c.args.key.now ∙ sym c.in-None.ensures.value) c.requires.there)

pub returns-then-rest-eq0-clause-less : goal.returns-then-rest-eq0-clause-less
returns-then-rest-eq0-clause-less g c =
    let old = c.args.tree.now.entries in
    let mid = (c.get_mut.follows.lender c.in-Some.count_sum.now).entries in
    let key = c.args.key.now in
    let there = subst IsSome c.in-Some.ensures.value refl in
    let unchanged = c.get_mut.follows.holds c.in-Some.count_sum.now in
    retracted_whole (keyed_by g.K.TreeKey.as_key old) (keyed_by g.K.TreeKey.as_key mid) (keyed_by g.K.TreeKey.as_key c.remove.new.self.entries) (Some (g.K.TreeKey.as_key key)) c.args.less c.in-Some.count_sum.now c.subtract-rest.result
    (c.in-Some.ensures.value ∙ sym (at_key g.met.K.TreeKey.keeps_order old key)) (as_set g.met.K.TreeKey.keeps_order old mid key (Some c.in-Some.count_sum.now) (unchanged.3 there).0) (as_set g.met.K.TreeKey.keeps_order mid c.remove.new.self.entries key None c.remove.ensures.updates.0) c.subtract-rest.ensures
    (subst (LeavesCountSum c.args.less) (get_at (keyed_by g.K.TreeKey.as_key old) (Some (g.K.TreeKey.as_key key))) c.requires.there) (no_count c.rest.view_is c.if-rest-eq0.true)

pub returns-else-rest-eq0-clause-less : goal.returns-else-rest-eq0-clause-less
returns-else-rest-eq0-clause-less g c =
    let old = c.args.tree.now.entries in
    let new = (c.get_mut.follows.lender c.subtract-rest.result).entries in
    let key = c.args.key.now in
    let there = subst IsSome c.in-Some.ensures.value refl in
    let written = c.get_mut.follows.holds c.subtract-rest.result in
    retracted_part (keyed_by g.K.TreeKey.as_key old) (keyed_by g.K.TreeKey.as_key new) (Some (g.K.TreeKey.as_key key)) c.args.less c.in-Some.count_sum.now c.subtract-rest.result
    (c.in-Some.ensures.value ∙ sym (at_key g.met.K.TreeKey.keeps_order old key)) (as_set g.met.K.TreeKey.keeps_order old new key (Some c.subtract-rest.result) (written.3 there).0) c.subtract-rest.ensures (some_count c.rest.view_is c.if-rest-eq0.false)

pub returns-then-rest-eq0-clause-valid_sums : goal.returns-then-rest-eq0-clause-valid_sums
returns-then-rest-eq0-clause-valid_sums g c =
    subst AreCountSums (sym (returns-then-rest-eq0-clause-less g c)) (AreCountSums-without (by_kind g.K.TreeKey.as_key c.args.tree.now.entries) (Some (g.K.TreeKey.as_key c.args.key.now)) c.args.less c.requires.valid_sums c.requires.there)

pub returns-else-rest-eq0-clause-valid_sums : goal.returns-else-rest-eq0-clause-valid_sums
returns-else-rest-eq0-clause-valid_sums g c =
    subst AreCountSums (sym (returns-else-rest-eq0-clause-less g c)) (AreCountSums-without (by_kind g.K.TreeKey.as_key c.args.tree.now.entries) (Some (g.K.TreeKey.as_key c.args.key.now)) c.args.less c.requires.valid_sums c.requires.there)
