use Rattle.std.proofs.Common.{ℕ, ◌<◌}
use Rattle.far_sessions.specs.Closing.{Has}
use Rattle.far_sessions.proofs.closing.are_whole.Given as goal

abbrev pub invariant-loop-number : goal.invariant-loop-number
invariant-loop-number g l = (k : ℕ) → k < l.number → Has k l.sessions
