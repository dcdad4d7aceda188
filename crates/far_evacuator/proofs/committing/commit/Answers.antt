use Rattle.far_evacuator.proofs.committing.commit.Goals as goal

pub returns-clause-committed : goal.returns-clause-committed
returns-clause-committed g c = rw (← c.carried.view_is, ← c.job.view_is) c.leave.ensures.departed.state
