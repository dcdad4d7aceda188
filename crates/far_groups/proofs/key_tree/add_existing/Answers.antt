use Rattle.std.proofs.Common.{refl, ◌+◌, ◌^◌, ◌≤◌, IsSome, sym, ap, ◌∙◌, subst, Some}
use Rattle.std.specs.Prelude.{is_some}
use Rattle.std.specs.FinMap as fin
use Rattle.far_types.specs.Effects.{add_count_sums, count_in}
use Rattle.far_types.proofs.AnswersByKeyMaps.{with_more}
use Rattle.far_groups.specs.CountSums.{AreCountSums}
use Rattle.far_groups.specs.KeyTree.{by_kind}
use Rattle.far_groups.proofs.CountSumsLaws.{if_found, AreCountSums-insert}
use Rattle.far_groups.proofs.KeyTreeLaws.{get_key, put_inserts}
use Rattle.far_groups.proofs.key_tree.add_existing.Goals as goal

pub merge_two-requires-clause-valid_sums : goal.merge_two-requires-clause-valid_sums
merge_two-requires-clause-valid_sums g c =
    if_found _ _ (get_key g.met.K.TreeKey.keeps_order c.args.tree.now.entries c.args.key.now ∙ sym c.in-Some.ensures.value) (c.requires.valid_sums (Some (g.K.TreeKey.as_key c.args.key.now)))

pub merge_two-requires-clause-capacity : goal.merge_two-requires-clause-capacity
merge_two-requires-clause-capacity g c =
    subst (λ o. count_in o + c.args.more.0 ≤ 2 ^ 26) (get_key g.met.K.TreeKey.keeps_order c.args.tree.now.entries c.args.key.now ∙ sym c.in-Some.ensures.value) c.requires.capacity

pub returns-in-Some-clause-there : goal.returns-in-Some-clause-there
returns-in-Some-clause-there g c =
    ap is_some (c.in-Some.ensures.value ∙ sym (get_key g.met.K.TreeKey.keeps_order c.args.tree.now.entries c.args.key.now))

pub returns-in-None-clause-there : goal.returns-in-None-clause-there
returns-in-None-clause-there g c =
    ap is_some (c.in-None.ensures.value ∙ sym (get_key g.met.K.TreeKey.keeps_order c.args.tree.now.entries c.args.key.now))

pub returns-in-Some-clause-valid_sums : goal.returns-in-Some-clause-valid_sums
returns-in-Some-clause-valid_sums g c =
    let there = subst IsSome c.in-Some.ensures.value refl in
    let written = c.get_mut.follows.holds c.merge_two.result in
    subst AreCountSums (sym (put_inserts g.met.K.TreeKey.keeps_order c.args.tree.now.entries (c.get_mut.follows.lender c.merge_two.result).entries c.args.key.now c.merge_two.result (written.3 there).0))
    (AreCountSums-insert (by_kind g.K.TreeKey.as_key c.args.tree.now.entries) (Some (g.K.TreeKey.as_key c.args.key.now)) c.merge_two.result c.requires.valid_sums c.merge_two.ensures.valid_sums)

pub returns-in-Some-clause-added : goal.returns-in-Some-clause-added
returns-in-Some-clause-added g c _ =
    let there = subst IsSome c.in-Some.ensures.value refl in
    let written = c.get_mut.follows.holds c.merge_two.result in
    put_inserts g.met.K.TreeKey.keeps_order c.args.tree.now.entries (c.get_mut.follows.lender c.merge_two.result).entries c.args.key.now c.merge_two.result (written.3 there).0
    ∙ ap (fin.insert (by_kind g.K.TreeKey.as_key c.args.tree.now.entries) (Some (g.K.TreeKey.as_key c.args.key.now))) (c.merge_two.ensures.value ∙ ap (with_more add_count_sums c.args.more) (c.in-Some.ensures.value ∙ sym (get_key g.met.K.TreeKey.keeps_order c.args.tree.now.entries c.args.key.now)))
