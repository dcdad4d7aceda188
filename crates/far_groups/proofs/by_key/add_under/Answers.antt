use Rattle.std.proofs.Common.{◌+◌, ◌^◌, ◌≤◌, sym, ap, ◌∙◌, subst}
use Rattle.std.specs.FinMap as fin
use Rattle.far_types.specs.Effects.{count_in}
use Rattle.far_groups.specs.declared.by_key.Form.{Form}
use Rattle.far_groups.specs.CountSums.{AreCountSums, with_count_sum}
use Rattle.far_groups.specs.ByKey.{plain_totals, in_form}
use Rattle.far_groups.proofs.ByKeyLaws.{get_plain, plain_valid_sums, count_sum_there, plain_added}
use Rattle.far_groups.proofs.by_key.add_under.Goals as goal

pub merge_two-requires-clause-valid_sums : goal.merge_two-requires-clause-valid_sums
merge_two-requires-clause-valid_sums c =
    count_sum_there c.in-Plain.count_sum (subst (λ (form : Form). AreCountSums (in_form form)) c.in-Plain.is c.requires.valid_sums)

pub merge_two-requires-clause-capacity : goal.merge_two-requires-clause-capacity
merge_two-requires-clause-capacity c =
    let count_sum = c.in-Plain.count_sum in
    let there = ap (λ (form : Form). fin.get (in_form form) c.args.key.now) c.in-Plain.is ∙ ap (fin.get (plain_totals count_sum)) c.in-None.is ∙ get_plain count_sum in
    subst (λ o. count_in o + c.args.more.0 ≤ 2 ^ 26) there c.requires.capacity

pub returns-in-None-clause-valid_sums : goal.returns-in-None-clause-valid_sums
returns-in-None-clause-valid_sums c = plain_valid_sums c.merge_two.result c.merge_two.ensures.valid_sums

pub returns-in-None-clause-ok : goal.returns-in-None-clause-ok
returns-in-None-clause-ok c =
    ap plain_totals c.merge_two.ensures.value
    ∙ plain_added c.in-Plain.count_sum c.args.more
    ∙ (λ i. with_count_sum (in_form (sym c.in-Plain.is i)) (sym c.in-None.is i) c.args.more)
