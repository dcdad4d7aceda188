use Rattle.std.proofs.Common.{◌≡◌, drop}
use Rattle.std.specs.Map.{keys_of}
use Rattle.far_scopes.specs.Recency.{after_uses}
use Rattle.far_scopes.proofs.recency.use_log.UseLog.follow.Given as goal

abbrev pub invariant-loop-at : goal.invariant-loop-at
invariant-loop-at l =
    (after_uses (keys_of l.cache.entries) (drop l.at l.self.uses.items) ≡ after_uses (keys_of l.initial.cache.entries) l.self.uses.items)
    × (l.cache.cap ≡ l.initial.cache.cap)
