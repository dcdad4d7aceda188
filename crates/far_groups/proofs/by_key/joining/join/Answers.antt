use Rattle.std.proofs.Common.{◌≡◌, sym, ap, ◌∙◌, subst, OnOk}
use Rattle.far_types.specs.Answers.{Totals}
use Rattle.far_types.specs.Effects.{joined_totals}
use Rattle.far_groups.specs.declared.by_key.Form.{Form}
use Rattle.far_groups.specs.Live.{CanJoin}
use Rattle.far_groups.specs.CountSums.{AreCountSums}
use Rattle.far_groups.specs.ByKey.{in_form, totals_in}
use Rattle.far_groups.proofs.ByKeyLaws.{count_sum_there, plain_capacity, plain_joined}
use Rattle.far_groups.proofs.by_key.joining.join.Goals as goal

pub add_under-requires-clause-more_valid_sums : goal.add_under-requires-clause-more_valid_sums
add_under-requires-clause-more_valid_sums c =
    count_sum_there c.in-Plain.count_sum (subst (λ (form : Form). AreCountSums (in_form form)) c.in-Plain.is c.requires.other_valid_sums)

pub add_under-requires-clause-capacity : goal.add_under-requires-clause-capacity
add_under-requires-clause-capacity c =
    let here = totals_in c.args.by_key.now in
    plain_capacity here c.in-Plain.count_sum (subst (λ (form : Form). CanJoin here (in_form form)) c.in-Plain.is c.requires.can_join)

pub returns-in-Plain-clause-ok : goal.returns-in-Plain-clause-ok
returns-in-Plain-clause-ok c =
    let here = totals_in c.args.by_key.now in
    let joins = plain_joined here c.in-Plain.count_sum ∙ ap (λ (form : Form). joined_totals here (in_form form)) (sym c.in-Plain.is) in
    subst (λ (m : Totals). OnOk c.add_under.result (totals_in c.add_under.new.by_key ≡ m)) joins c.add_under.ensures.ok
