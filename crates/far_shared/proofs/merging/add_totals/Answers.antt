use Rattle.std.proofs.Common.{sym, ap, ◌∙◌}
use Rattle.far_types.specs.Effects.{add_count_sums}
use Rattle.far_types.proofs.AnswersByKeyMaps.{with_all}
use Rattle.far_groups.specs.CountSums.{totals_of}
use Rattle.far_shared.specs.Lines.{count_sums_in}
use Rattle.far_shared.proofs.LinesMerge.{nothing, with_totals}
use Rattle.far_shared.proofs.merging.add_totals.Goals as goal

pub returns : goal.returns
returns c = record {
  ok = λ key some others e h. ap (λ lines. with_all add_count_sums (totals_of c.loop-key.count_sums.entries) (count_sums_in lines)) (sym (nothing _ _ c.loop-key.invariant.0 c.in-None.ensures.steps.0))
      ∙ c.loop-key.invariant.1
      ∙ with_totals key some others (totals_of c.args.count_sums.now.entries) c.args.lines e h;
}
