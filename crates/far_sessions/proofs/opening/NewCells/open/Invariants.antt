use Rattle.std.proofs.Common.{◌≡◌}
use Rattle.far_sessions.specs.Known.{newcomers}
use Rattle.far_sessions.proofs.opening.NewCells.open.Given as goal

abbrev pub invariant-loop-number : goal.invariant-loop-number
invariant-loop-number g l = record {
  givers : l.givers ≡ l.number;
  made : l.sessions.items ≡ newcomers l.number;
}
