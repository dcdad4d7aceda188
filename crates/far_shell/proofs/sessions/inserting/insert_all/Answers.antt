use Rattle.far_shell.proofs.WorkingInserts.{makes-more, makes-none}
use Rattle.far_shell.proofs.sessions.inserting.insert_all.Goals as goal

pub loop-made-init : goal.loop-made-init
loop-made-init g c = makes-none c.args.stripe c.args.me.now

pub loop-made-preserved : goal.loop-made-preserved
loop-made-preserved g c = makes-more c.args.stripe c.loop-made.made c.args.me.now c.loop-made.me c.insert_one.new.me c.loop-made.invariant c.in_ok-insert_one.ensures.ok
