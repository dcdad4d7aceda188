use Rattle.std.proofs.Common.{◌≡◌, sym, ap, ◌∙◌}
use Rattle.far_types.specs.Table.{left}
use Rattle.far_aggregates.specs.declared.aggregate.Accumulator.{Accumulator}
use Rattle.far_aggregates.specs.Accumulators.{accumulator_answer}
use Rattle.far_aggregates.specs.Lines.{line_in}
use Rattle.far_aggregates.proofs.AccumulatorsAnswers.{left-now}
use Rattle.far_aggregates.proofs.LinesLaws.{keys-fit, answers-key, building-due}
use Rattle.far_aggregates.proofs.readings.line.Goals as goal

pub returns-then-left-ne0-clause-err : goal.returns-then-left-ne0-clause-err
returns-then-left-ne0-clause-err c size places kept = building-due size places c.args.aggregate.now c.left_in-left.result c.left_in-left.ensures c.if-left-ne0.true kept

pub returns-in-Totals-clause-ok : goal.returns-in-Totals-clause-ok
returns-in-Totals-clause-ok c size places some kept =
    let a = c.args.aggregate.now in
    let none : left a.pending ≡ 0 = sym (left-now size places a kept) ∙ sym c.left_in-left.ensures ∙ c.if-left-ne0.false in
    answers-key size places a c.args.key.now c.total_line.result some kept none
    (c.total_line.ensures (keys-fit size places a c.in-Totals.live c.in-Totals.is kept none)
    ∙ ap (λ (all : Accumulator). line_in (accumulator_answer a.spec.key all) c.args.key.now) (sym c.in-Totals.is))

pub returns-in-Extrema-clause-ok : goal.returns-in-Extrema-clause-ok
returns-in-Extrema-clause-ok c size places some kept =
    let a = c.args.aggregate.now in
    let none : left a.pending ≡ 0 = sym (left-now size places a kept) ∙ sym c.left_in-left.ensures ∙ c.if-left-ne0.false in
    answers-key size places a c.args.key.now c.extrema_line.result some kept none
    (c.extrema_line.ensures ∙ ap (λ (all : Accumulator). line_in (accumulator_answer a.spec.key all) c.args.key.now) (sym c.in-Extrema.is))
