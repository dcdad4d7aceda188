use Rattle.std.proofs.Common.{◌≡◌, filter, length}
use Rattle.std.specs.Map.{keys_of}
use Rattle.far_scopes.specs.Recency.{is_unused}
use Rattle.far_scopes.proofs.recency.least_recent.next_unused.Given as goal

abbrev pub invariant-loop-o : goal.invariant-loop-o
invariant-loop-o l = filter (is_unused l.log.uses.items) (keys_of l.cache) ≡ filter (is_unused l.log.uses.items) (keys_of l.initial.cache)

abbrev pub decreases-loop-o : goal.decreases-loop-o
decreases-loop-o l = length l.cache
