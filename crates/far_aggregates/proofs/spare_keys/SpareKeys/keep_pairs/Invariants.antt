use Rattle.std.proofs.Common.{length}
use Rattle.far_aggregates.proofs.spare_keys.SpareKeys.keep_pairs.Given as goal

-- each turn uses up a pair
abbrev pub decreases-loop-pair : goal.decreases-loop-pair
decreases-loop-pair l = length l.to_retract.items
