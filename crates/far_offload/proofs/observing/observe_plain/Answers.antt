use Rattle.std.proofs.Common.{List, sym, ap, ◌∙◌}
use Rattle.std.proofs.lemmas.Result.{on_ok_weaker}
use Rattle.std.specs.List.{enumerate_from}
use Rattle.far_types.specs.Pairs.{Pair}
use Rattle.far_types.specs.Answers.{extrema}
use Rattle.far_types.specs.Effects.{joined_extrema}
use Rattle.far_offload.specs.Partials.{values_over}
use Rattle.far_offload.proofs.PartialsLaws.{plain-pairs}
use Rattle.far_offload.proofs.PartialsObservation.{observed-plain, observed-none}
use Rattle.far_offload.proofs.observing.observe_plain.Goals as goal

pub returns-in-Some : goal.returns-in-Some
returns-in-Some c = record {
  ok =
      let spec = c.args.spec.now in
      let before = c.args.observed.now in
      let values = values_over spec c.args.columns.now c.args.alive.now in
      let pairs = ap (λ (ps : List Pair). joined_extrema before (extrema ps)) (sym (plain-pairs spec c.args.columns.now (enumerate_from 0 c.args.alive.now) c.requires)) in
      on_ok_weaker c.observe_rows.result (λ is.
      is
      ∙ observed-plain before values c.in-Some.min_max.0 c.in-Some.min_max.1 c.in-Some.ensures.min_max
      ∙ pairs) c.observe_rows.ensures.ok;
}

pub returns-in-None : goal.returns-in-None
returns-in-None c = record {
  ok =
      let spec = c.args.spec.now in
      let before = c.args.observed.now in
      let values = values_over spec c.args.columns.now c.args.alive.now in
      observed-none before values c.in-None.ensures.min_max
      ∙ ap (λ (ps : List Pair). joined_extrema before (extrema ps)) (sym (plain-pairs spec c.args.columns.now (enumerate_from 0 c.args.alive.now) c.requires));
}
