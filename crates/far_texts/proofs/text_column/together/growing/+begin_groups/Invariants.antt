use Rattle.std.proofs.Common.{length}
use Rattle.far_texts.proofs.text_column.together.growing.+begin_groups.Given as goal

abbrev pub decreases-begin_groups : goal.decreases-begin_groups
decreases-begin_groups g l = length l.columns.now
