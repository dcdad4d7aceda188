use Rattle.std.proofs.Common.{refl}
use Rattle.far_shared.proofs.ReportLaws.{few-chunks}
use Rattle.far_shared.proofs.background.chunk_for.Goals as goal

pub returns-clause-few : goal.returns-clause-few
returns-clause-few c = few-chunks c.args.count c.args.workers c.div_ceil.result c.max.result _ c.requires c.div_ceil.ensures c.max.ensures refl
