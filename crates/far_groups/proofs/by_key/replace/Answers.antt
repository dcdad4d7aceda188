use Rattle.std.proofs.Common.{sym, ap, ◌∙◌, subst}
use Rattle.std.specs.FinMap as fin
use Rattle.std.proofs.lemmas.Int.{to_z-of_z}
use Rattle.far_types.specs.declared.key.Key.TheVariants.{Int, Text}
use Rattle.far_groups.specs.declared.by_key.Form.{Form}
use Rattle.far_groups.specs.Live.{CanRetract, with_replaced}
use Rattle.far_groups.specs.CountSums.{AreCountSums}
use Rattle.far_groups.specs.ByKey.{in_form}
use Rattle.far_groups.proofs.KeyTreeLaws.{get_other}
use Rattle.far_groups.proofs.DensePlaces.{get_elsewhere}
use Rattle.far_groups.proofs.ByKeyLaws.{count_sum_there, plain_valid_sums}
use Rattle.far_groups.proofs.ReplacingLaws.{replaced_there, plain_replaced}
use Rattle.far_groups.proofs.by_key.replace.Goals as goal

pub replace-requires-clause-valid_sums : goal.replace-requires-clause-valid_sums
replace-requires-clause-valid_sums c =
    count_sum_there c.in-Plain.count_sum (subst (λ (form : Form). AreCountSums (in_form form)) c.in-Plain.is c.requires.valid_sums)

pub replace-requires-clause-there : goal.replace-requires-clause-there
replace-requires-clause-there c =
    simp (to_z-of_z, c.ranges.from) (replaced_there c.in-Plain.count_sum c.args.from c.args.key.now (subst (λ (form : Form). CanRetract c.args.from (fin.get (in_form form) c.args.key.now)) c.in-Plain.is c.requires.there))

pub returns-in-Plain-clause-valid_sums : goal.returns-in-Plain-clause-valid_sums
returns-in-Plain-clause-valid_sums c = plain_valid_sums c.replace.result c.replace.ensures.valid_sums

pub returns-in-Plain-clause-replaced : goal.returns-in-Plain-clause-replaced
returns-in-Plain-clause-replaced c =
    let there = subst (λ (form : Form). CanRetract c.args.from (fin.get (in_form form) c.args.key.now)) c.in-Plain.is c.requires.there in
    let valid_sums = count_sum_there c.in-Plain.count_sum (subst (λ (form : Form). AreCountSums (in_form form)) c.in-Plain.is c.requires.valid_sums) in
    plain_replaced c.in-Plain.count_sum c.replace.result c.args.from c.args.to c.args.key.now (simp (to_z-of_z, c.ranges.from, c.ranges.to) at c.replace.ensures.value) valid_sums there
    ∙ ap (λ (form : Form). with_replaced (in_form form) c.args.key.now c.args.from c.args.to) (sym c.in-Plain.is)

pub returns-in-None-clause-replaced : goal.returns-in-None-clause-replaced
returns-in-None-clause-replaced c =
    let key = c.args.key.now in
    let none = ap (λ (form : Form). fin.get (in_form form) key) c.in-Dense.is ∙ get_elsewhere c.in-Dense.dense.items key c.in-None.ensures.none in
    absurd (subst (CanRetract c.args.from) none c.requires.there)

pub returns-in-None-of-clause-replaced : goal.returns-in-None-of-clause-replaced
returns-in-None-of-clause-replaced c =
    let key = c.args.key.now in
    let none = ap (λ (form : Form). fin.get (in_form form) key) c.in-Numbered.is ∙ get_other Int c.in-Numbered.numbers.entries key c.in-None-of.ensures.none in
    absurd (subst (CanRetract c.args.from) none c.requires.there)

pub returns-in-None-of-2-clause-replaced : goal.returns-in-None-of-2-clause-replaced
returns-in-None-of-2-clause-replaced c =
    let key = c.args.key.now in
    let none = ap (λ (form : Form). fin.get (in_form form) key) c.in-Texts.is ∙ get_other Text c.in-Texts.texts.entries key c.in-None-of-2.ensures.none in
    absurd (subst (CanRetract c.args.from) none c.requires.there)
