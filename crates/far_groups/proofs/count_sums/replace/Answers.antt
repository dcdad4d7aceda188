use Rattle.std.proofs.Common.{refl, IsSome, sym, ap, ◌∙◌, subst}
use Rattle.std.specs.FinMap as fin
use Rattle.std.proofs.lemmas.Int.{to_z-of_z}
use Rattle.far_types.proofs.AnswersByKeyMaps.{get_at, set_inserts}
use Rattle.far_groups.specs.Live.{CanRetract}
use Rattle.far_groups.specs.CountSums.{totals_of, AreCountSums}
use Rattle.far_groups.proofs.CountSumsLaws.{if_found, AreCountSums-insert}
use Rattle.far_groups.proofs.ReplacingLaws.{replaced_inserts}
use Rattle.far_groups.proofs.count_sums.replace.Goals as goal

pub replace-requires-clause-valid_sums : goal.replace-requires-clause-valid_sums
replace-requires-clause-valid_sums c =
    if_found _ _ (get_at c.args.count_sums.now.entries c.args.key.now ∙ sym c.in-Some.ensures.value) (c.requires.valid_sums c.args.key.now)

pub replace-requires-clause-there : goal.replace-requires-clause-there
replace-requires-clause-there c =
    simp (to_z-of_z, c.ranges.from) (subst (CanRetract c.args.from) (get_at c.args.count_sums.now.entries c.args.key.now ∙ sym c.in-Some.ensures.value) c.requires.there)

pub returns-in-None-clause-replaced : goal.returns-in-None-clause-replaced
returns-in-None-clause-replaced c =
    absurd (subst (CanRetract c.args.from) (get_at c.args.count_sums.now.entries c.args.key.now ∙ sym c.in-None.ensures.value) c.requires.there)

pub returns-in-Some-clause-valid_sums : goal.returns-in-Some-clause-valid_sums
returns-in-Some-clause-valid_sums c =
    let there = subst IsSome c.in-Some.ensures.value refl in
    let written = c.get_mut.follows.holds c.replace.result in
    subst AreCountSums (sym (set_inserts c.args.count_sums.now.entries (c.get_mut.follows.lender c.replace.result).entries c.args.key.now c.replace.result (written.3 there).0))
    (AreCountSums-insert (totals_of c.args.count_sums.now.entries) c.args.key.now c.replace.result c.requires.valid_sums c.replace.ensures.valid_sums)

pub returns-in-Some-clause-replaced : goal.returns-in-Some-clause-replaced
returns-in-Some-clause-replaced c =
    let old = c.args.count_sums.now.entries in
    let key = c.args.key.now in
    let there = subst IsSome c.in-Some.ensures.value refl in
    let found = get_at old key ∙ sym c.in-Some.ensures.value in
    let written = c.get_mut.follows.holds c.replace.result in
    set_inserts old (c.get_mut.follows.lender c.replace.result).entries key c.replace.result (written.3 there).0
    ∙ ap (fin.insert (totals_of old) key) (simp (to_z-of_z, c.ranges.from, c.ranges.to) at c.replace.ensures.value)
    ∙ replaced_inserts (totals_of old) key c.args.from c.args.to c.in-Some.count_sum.now found (if_found _ _ found (c.requires.valid_sums key)).0
