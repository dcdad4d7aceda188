use Rattle.std.proofs.Common.{ap, ◌∙◌}
use Rattle.far_types.specs.Answers.{Extrema, extrema}
use Rattle.far_types.specs.Effects.{joined_extrema}
use Rattle.far_offload.specs.Partials.{pairs_over}
use Rattle.far_offload.proofs.PartialsObservation.{observed-first}
use Rattle.far_offload.proofs.folding.extrema_of.Goals as goal

pub returns : goal.returns
returns c = record {
  extrema =
      let pairs = pairs_over c.args.spec.now c.args.columns.now c.args.alive.now in
      c.in_ok-observe_into.ensures.ok ∙ ap (λ (m : Extrema). joined_extrema m (extrema pairs)) c.new-observed.ensures ∙ observed-first pairs;
}
