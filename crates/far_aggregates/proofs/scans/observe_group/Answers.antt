use Rattle.std.proofs.Common.{List, ap, ◌∙◌}
use Rattle.std.proofs.lemmas.Result.{on_ok_weaker}
use Rattle.far_types.specs.Answers.{extrema}
use Rattle.far_types.specs.Effects.{joined_extrema}
use Rattle.far_types.specs.Pairs.{Pair}
use Rattle.far_aggregates.proofs.ScansLaws.{pairs-lent}
use Rattle.far_aggregates.proofs.scans.observe_group.Goals as goal

pub returns : goal.returns
returns g c = record {
  ok =
      let here = g.G.LendGroup.places c.args.group.now in
      let same = pairs-lent c.args.spec.now here c.needed_columns-columns.result c.alive.result.now c.needed_columns-columns.ensures c.alive.ensures in
      on_ok_weaker c.observe_into.result (λ is. is ∙ ap (λ (ps : List Pair). joined_extrema c.args.observed.now (extrema ps)) same) c.observe_into.ensures.ok;
}
