use Rattle.std.proofs.Common.{sym, ap, ◌∙◌, subst}
use Rattle.std.specs.FinMap as fin
use Rattle.far_types.specs.declared.key.Key.TheVariants.{Int, Text}
use Rattle.far_groups.specs.declared.by_key.Form.{Form}
use Rattle.far_groups.specs.CountSums.{AreCountSums, LeavesCountSum, without_count_sum}
use Rattle.far_groups.specs.Dense.{by_place}
use Rattle.far_groups.specs.ByKey.{in_form, totals_in}
use Rattle.far_groups.proofs.CountSumsLaws.{no_count, some_count, AreCountSums-without}
use Rattle.far_groups.proofs.KeyTreeLaws.{get_other}
use Rattle.far_groups.proofs.DensePlaces.{get_elsewhere}
use Rattle.far_groups.proofs.ByKeyLaws.{count_sum_there, retracted_leaves, plain_gone, plain_subtracted}
use Rattle.far_groups.proofs.by_key.take.Goals as goal

pub subtract-rest-requires-clause-valid_sums : goal.subtract-rest-requires-clause-valid_sums
subtract-rest-requires-clause-valid_sums c =
    count_sum_there c.in-Plain.count_sum (subst (λ (form : Form). AreCountSums (in_form form)) c.in-Plain.is c.requires.valid_sums)

pub subtract-rest-requires-clause-there : goal.subtract-rest-requires-clause-there
subtract-rest-requires-clause-there c =
    retracted_leaves c.in-Plain.count_sum c.args.less c.args.key.now (subst (λ (form : Form). LeavesCountSum c.args.less (fin.get (in_form form) c.args.key.now)) c.in-Plain.is c.requires.there)

pub returns-then-rest-eq0-clause-less : goal.returns-then-rest-eq0-clause-less
returns-then-rest-eq0-clause-less c =
    let there = subst (λ (form : Form). LeavesCountSum c.args.less (fin.get (in_form form) c.args.key.now)) c.in-Plain.is c.requires.there in
    ap by_place c.new.ensures.items
    ∙ plain_gone c.in-Plain.count_sum c.args.less c.subtract-rest.result c.args.key.now c.subtract-rest.ensures there (no_count c.rest.view_is c.if-rest-eq0.true)
    ∙ ap (λ (form : Form). without_count_sum (in_form form) c.args.key.now c.args.less) (sym c.in-Plain.is)

pub returns-else-rest-eq0-clause-less : goal.returns-else-rest-eq0-clause-less
returns-else-rest-eq0-clause-less c =
    let there = subst (λ (form : Form). LeavesCountSum c.args.less (fin.get (in_form form) c.args.key.now)) c.in-Plain.is c.requires.there in
    plain_subtracted c.in-Plain.count_sum c.args.less c.subtract-rest.result c.args.key.now c.subtract-rest.ensures there (some_count c.rest.view_is c.if-rest-eq0.false)
    ∙ ap (λ (form : Form). without_count_sum (in_form form) c.args.key.now c.args.less) (sym c.in-Plain.is)

pub returns-then-rest-eq0-clause-valid_sums : goal.returns-then-rest-eq0-clause-valid_sums
returns-then-rest-eq0-clause-valid_sums c =
    subst AreCountSums (sym (returns-then-rest-eq0-clause-less c)) (AreCountSums-without (totals_in c.args.by_key.now) c.args.key.now c.args.less c.requires.valid_sums c.requires.there)

pub returns-else-rest-eq0-clause-valid_sums : goal.returns-else-rest-eq0-clause-valid_sums
returns-else-rest-eq0-clause-valid_sums c =
    subst AreCountSums (sym (returns-else-rest-eq0-clause-less c)) (AreCountSums-without (totals_in c.args.by_key.now) c.args.key.now c.args.less c.requires.valid_sums c.requires.there)

pub returns-in-None-clause-less : goal.returns-in-None-clause-less
returns-in-None-clause-less c =
    let key = c.args.key.now in
    let none = ap (λ (form : Form). fin.get (in_form form) key) c.in-Dense.is ∙ get_elsewhere c.in-Dense.dense.items key c.in-None.ensures.none in
    absurd (subst (LeavesCountSum c.args.less) none c.requires.there)

pub returns-in-None-of-clause-less : goal.returns-in-None-of-clause-less
returns-in-None-of-clause-less c =
    let key = c.args.key.now in
    let none = ap (λ (form : Form). fin.get (in_form form) key) c.in-Numbered.is ∙ get_other Int c.in-Numbered.numbers.entries key c.in-None-of.ensures.none in
    absurd (subst (LeavesCountSum c.args.less) none c.requires.there)

pub returns-in-None-of-2-clause-less : goal.returns-in-None-of-2-clause-less
returns-in-None-of-2-clause-less c =
    let key = c.args.key.now in
    let none = ap (λ (form : Form). fin.get (in_form form) key) c.in-Texts.is ∙ get_other Text c.in-Texts.texts.entries key c.in-None-of-2.ensures.none in
    absurd (subst (LeavesCountSum c.args.less) none c.requires.there)
