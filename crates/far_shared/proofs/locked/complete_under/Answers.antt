use Rattle.far_shared.proofs.UnderLockLaws.{ends-among}
use Rattle.far_shared.proofs.locked.complete_under.Goals as goal

pub returns-in-Ok-clause-refused : goal.returns-in-Ok-clause-refused
returns-in-Ok-clause-refused g c =
    ends-among g.S.FarTickets.content c.args.job c.in-Ok.carried c.in-Ok.ensures.carried
    c.finish_under-ended.result c.finish_under-ended.ensures.refused
