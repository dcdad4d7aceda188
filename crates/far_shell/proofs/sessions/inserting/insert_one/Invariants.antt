use Rattle.std.proofs.Common.{◌≡◌, ◌-◌}
use Rattle.far_shell.specs.Working.{AddsNothing}
use Rattle.far_shell.proofs.sessions.inserting.insert_one.Given as goal

-- no earlier try has made an insert
abbrev pub invariant-loop-edit : goal.invariant-loop-edit
invariant-loop-edit g l = (l.next.stripe ≡ l.stripe) × AddsNothing l.stripe l.initial.me l.me

abbrev pub decreases-loop-edit : goal.decreases-loop-edit
decreases-loop-edit g l = 10000 - l.next.refused
