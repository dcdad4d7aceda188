use Rattle.std.proofs.Common.{ap, ◌∙◌}
use Rattle.std.proofs.lemmas.Result.{IfOk-weaker}
use Rattle.far_offload.specs.Partials.{partial_of}
use Rattle.far_aggregates.proofs.ScansLaws.{pairs-lent}
use Rattle.far_aggregates.proofs.scans.fold_group.Goals as goal

pub returns : goal.returns
returns g c = record {
  partial =
      let spec = c.args.spec.now in
      let here = g.G.LendGroup.places c.args.group.now in
      IfOk-weaker c.fold.result _ _ (λ done is. is ∙ ap (partial_of spec.fold) (pairs-lent spec here c.needed_columns-columns.result c.alive.result.now c.needed_columns-columns.ensures c.alive.ensures)) c.fold.ensures.partial;
}
