use Rattle.std.proofs.Common.{◌≡◌, drop}
use Rattle.far_scopes.specs.Recency.{newest}
use Rattle.far_scopes.proofs.recency.use_log.UseLog.next_last.Given as goal

abbrev pub invariant-loop-at : goal.invariant-loop-at
invariant-loop-at l = newest (drop l.at l.self.uses.items) ≡ newest (drop l.fn.from l.self.uses.items)
