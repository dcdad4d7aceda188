use Rattle.std.proofs.Common.{◌++◌, [], ap, ◌∙◌}
use Rattle.far_types.specs.declared.answer.Answer.TheVariants as answer
use Rattle.far_types.specs.Answers.{extrema, lines_by_key}
use Rattle.far_shared.proofs.LinesMerge.{four_lists}
use Rattle.far_shared.proofs.merging.merge_extrema.Goals as goal

pub returns-in-Ok : goal.returns-in-Ok
returns-in-Ok c = record {
  ok = λ key p q r s hp hq hr hs.
      let first = c.in_ok-add_extrema.ensures.ok [] p c.new-min_maxes.ensures hp in
      let second = c.in_ok-add_extrema-2.ensures.ok ([] ++ p) q first hq in
      let third = c.in_ok-add_extrema-3.ensures.ok (([] ++ p) ++ q) r second hr in
      let fourth = c.in_ok-add_extrema-4.ensures.ok ((([] ++ p) ++ q) ++ r) s third hs in
      c.in-Ok.ensures.ok ∙ ap (λ m. answer.Extrema (lines_by_key m)) (fourth ∙ ap extrema (four_lists p q r s));
}
