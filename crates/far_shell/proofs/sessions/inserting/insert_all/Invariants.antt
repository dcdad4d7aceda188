use Rattle.far_shell.specs.Working.{Makes}
use Rattle.far_shell.proofs.sessions.inserting.insert_all.Given as goal

abbrev pub invariant-loop-made : goal.invariant-loop-made
invariant-loop-made g l = Makes l.stripe l.made l.initial.me l.me
