use Rattle.std.proofs.Common.{◌≡◌, ◌++◌, drop}
use Rattle.far_shell.specs.Sessions.{gauges_text}
use Rattle.far_shell.proofs.threads.gauges.Given as goal

abbrev pub invariant-loop-session : goal.invariant-loop-session
invariant-loop-session l = l.page ++ gauges_text l.session (drop l.session l.fn.readings) ≡ l.fn.page ++ gauges_text 0 l.fn.readings
