use Rattle.std.proofs.Common.{◌≡◌, sym, ap, ◌∙◌}
use Rattle.far_types.specs.declared.answer.Answer.TheVariants as answer
use Rattle.far_types.specs.Answers.{or_zero}
use Rattle.far_types.specs.Table.{left}
use Rattle.far_aggregates.specs.Accumulators.{accumulator_answer, pending_in}
use Rattle.far_aggregates.proofs.AccumulatorsAnswers.{answers-now, left-now}
use Rattle.far_aggregates.proofs.answers.answer.Goals as goal

pub returns-in_ok-lines-in-Totals-clause-ok : goal.returns-in_ok-lines-in-Totals-clause-ok
returns-in_ok-lines-in-Totals-clause-ok c size places pos h =
    let a = c.args.aggregate.now in
    let z : left a.pending ≡ 0 = sym (left-now size places a h) ∙ ap pending_in c.in-Totals.is ∙ c.in_ok-lines_of-in-Totals.ensures.all_scanned in (
      z,
      ap answer.Totals (c.in_ok-lines-in-Totals.ensures.lines ∙ ap (or_zero a.spec.key) c.in_ok-lines_of-in-Totals.ensures.ok) ∙ ap (accumulator_answer a.spec.key) (sym c.in-Totals.is) ∙ answers-now size places a pos h z,
    )

pub returns-in_ok-answer-in-Extrema-clause-ok : goal.returns-in_ok-answer-in-Extrema-clause-ok
returns-in_ok-answer-in-Extrema-clause-ok c size places pos h =
    let a = c.args.aggregate.now in
    let z : left a.pending ≡ 0 = sym (left-now size places a h) ∙ ap pending_in c.in-Extrema.is ∙ c.in_ok-answer-in-Extrema.ensures.all_scanned in (
      z,
      c.in_ok-answer-in-Extrema.ensures.ok ∙ ap (accumulator_answer a.spec.key) (sym c.in-Extrema.is) ∙ answers-now size places a pos h z,
    )
