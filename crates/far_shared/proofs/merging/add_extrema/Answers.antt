use Rattle.std.proofs.Common.{sym, ap, ◌∙◌}
use Rattle.far_types.specs.Effects.{join_min_maxes}
use Rattle.far_types.proofs.AnswersByKeyMaps.{with_all}
use Rattle.far_shared.specs.Lines.{min_maxes_in}
use Rattle.far_shared.proofs.LinesMerge.{nothing, with_extrema}
use Rattle.far_shared.proofs.merging.add_extrema.Goals as goal

pub returns : goal.returns
returns c = record {
  ok = λ some others e h. ap (λ lines. with_all join_min_maxes c.loop-key.min_maxes (min_maxes_in lines)) (sym (nothing _ _ c.loop-key.invariant.0 c.in-None.ensures.steps.0))
      ∙ c.loop-key.invariant.1
      ∙ with_extrema some others c.args.min_maxes.now c.args.lines e h;
}
