use Rattle.std.proofs.Common.{length}
use Rattle.far_columns.proofs.int_column.together.groups.+unbegin_groups.Given as goal

abbrev pub decreases-unbegin_groups : goal.decreases-unbegin_groups
decreases-unbegin_groups g l = length l.columns.now
