use Rattle.std.proofs.Common.{refl, IsSome, sym, ap, ◌∙◌, subst, Some}
use Rattle.std.specs.FinMap as fin
use Rattle.std.proofs.lemmas.Int.{to_z-of_z}
use Rattle.far_groups.specs.Live.{CanRetract}
use Rattle.far_groups.specs.CountSums.{AreCountSums}
use Rattle.far_groups.specs.KeyTree.{by_kind}
use Rattle.far_groups.proofs.CountSumsLaws.{if_found, AreCountSums-insert}
use Rattle.far_groups.proofs.KeyTreeLaws.{get_key, put_inserts}
use Rattle.far_groups.proofs.ReplacingLaws.{replaced_inserts}
use Rattle.far_groups.proofs.key_tree.replace.Goals as goal

pub replace-requires-clause-valid_sums : goal.replace-requires-clause-valid_sums
replace-requires-clause-valid_sums g c =
    if_found _ _ (get_key g.met.K.TreeKey.keeps_order c.args.tree.now.entries c.args.key.now ∙ sym c.in-Some.ensures.value) (c.requires.valid_sums (Some (g.K.TreeKey.as_key c.args.key.now)))

pub replace-requires-clause-there : goal.replace-requires-clause-there
replace-requires-clause-there g c =
    simp (to_z-of_z, c.ranges.from) (subst (CanRetract c.args.from) (get_key g.met.K.TreeKey.keeps_order c.args.tree.now.entries c.args.key.now ∙ sym c.in-Some.ensures.value) c.requires.there)

pub returns-in-None-clause-replaced : goal.returns-in-None-clause-replaced
returns-in-None-clause-replaced g c =
    absurd (subst (CanRetract c.args.from) (get_key g.met.K.TreeKey.keeps_order c.args.tree.now.entries c.args.key.now ∙ sym c.in-None.ensures.value) c.requires.there)

pub returns-in-Some-clause-valid_sums : goal.returns-in-Some-clause-valid_sums
returns-in-Some-clause-valid_sums g c =
    let there = subst IsSome c.in-Some.ensures.value refl in
    let written = c.get_mut.follows.holds c.replace.result in
    subst AreCountSums (sym (put_inserts g.met.K.TreeKey.keeps_order c.args.tree.now.entries (c.get_mut.follows.lender c.replace.result).entries c.args.key.now c.replace.result (written.3 there).0))
    (AreCountSums-insert (by_kind g.K.TreeKey.as_key c.args.tree.now.entries) (Some (g.K.TreeKey.as_key c.args.key.now)) c.replace.result c.requires.valid_sums c.replace.ensures.valid_sums)

pub returns-in-Some-clause-replaced : goal.returns-in-Some-clause-replaced
returns-in-Some-clause-replaced g c =
    let old = c.args.tree.now.entries in
    let key = Some (g.K.TreeKey.as_key c.args.key.now) in
    let there = subst IsSome c.in-Some.ensures.value refl in
    let found = get_key g.met.K.TreeKey.keeps_order old c.args.key.now ∙ sym c.in-Some.ensures.value in
    let written = c.get_mut.follows.holds c.replace.result in
    put_inserts g.met.K.TreeKey.keeps_order old (c.get_mut.follows.lender c.replace.result).entries c.args.key.now c.replace.result (written.3 there).0
    ∙ ap (fin.insert (by_kind g.K.TreeKey.as_key old) key) (simp (to_z-of_z, c.ranges.from, c.ranges.to) at c.replace.ensures.value)
    ∙ replaced_inserts (by_kind g.K.TreeKey.as_key old) key c.args.from c.args.to c.in-Some.count_sum.now found (if_found _ _ found (c.requires.valid_sums key)).0
