use Rattle.std.proofs.Common.{length, ◌∙◌, arith}
use Rattle.far_aggregates.specs.Deltas.{undo}
use Rattle.far_aggregates.proofs.UntilLaws.{zip_until-short}
use Rattle.far_aggregates.proofs.deltas.undo_all.Goals as goal

pub returns : goal.returns
returns c = c.undo_first.ensures ∙ zip_until-short (undo c.args.group) (length c.args.deltas.now) c.args.registry.now c.args.deltas.now (omega arith)
