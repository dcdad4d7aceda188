use Rattle.std.proofs.Common.{◌≡◌, ◌+◌, length}
use Rattle.far_sessions.proofs.opening.add_spacers.Given as goal

abbrev pub invariant-loop-turn : goal.invariant-loop-turn
invariant-loop-turn l = length l.spacers.items ≡ length l.fn.spacers.items + l.turn
