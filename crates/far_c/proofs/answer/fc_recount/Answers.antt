use Rattle.far_c.proofs.Sorted.{recounted-ascends}
use Rattle.far_c.proofs.answer.fc_recount.Goals as goal

pub keep-requires : goal.keep-requires
keep-requires c = recounted-ascends c.in-Some.table.now.world.state.table c.args.aggregate c.in-Ok.answer c.in-Ok.ensures.answer
