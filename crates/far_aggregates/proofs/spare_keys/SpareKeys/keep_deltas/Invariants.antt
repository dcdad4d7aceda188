use Rattle.std.proofs.Common.{length}
use Rattle.far_aggregates.proofs.spare_keys.SpareKeys.keep_deltas.Given as goal

-- each turn uses up a pair
abbrev pub decreases-loop-delta : goal.decreases-loop-delta
decreases-loop-delta l = length l.applied.items
