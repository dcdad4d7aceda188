use Rattle.std.proofs.Common.{length}
use Rattle.far_columns.proofs.int_column.together.groups.+begin_groups.Given as goal

abbrev pub decreases-begin_groups : goal.decreases-begin_groups
decreases-begin_groups g l = length l.columns.now
