use Rattle.std.proofs.Common.{ap, ◌∙◌, Ok, Err, OnOk}
use Rattle.std.specs.Prelude.{Result}
use Rattle.std.specs.FinMap as fin
use Rattle.far_types.specs.Effects.{add_count_sums, joined_totals}
use Rattle.far_types.proofs.AnswersByKeyMaps.{joined-one}
use Rattle.far_groups.specs.ByKey.{totals_in}
use Rattle.far_groups.proofs.live_totals.LiveTotals.add_rows.Goals as goal

on_ok : {T E : Type 0} (r : Result T E) {P Q : Type 0} → (P → Q) → OnOk r P → OnOk r Q
on_ok (Ok x) f h = f h
on_ok (Err e) f h = tt

pub returns-clause-ok : goal.returns-clause-ok
returns-clause-ok c =
    on_ok c.add.result (λ added.
    ap (λ m. record { left = c.self.inside.left; totals = m }) (added ∙ joined-one add_count_sums (totals_in c.self.inside.count_sums) c.args.key c.args.count_sum)
    ∙ ap (λ live. record { left = live.left; totals = joined_totals live.totals (fin.insert fin.empty c.args.key c.args.count_sum) }) c.self.view_is) c.add.ensures.ok
