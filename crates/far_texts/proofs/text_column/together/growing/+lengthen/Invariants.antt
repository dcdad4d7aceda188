use Rattle.std.proofs.Common.{length}
use Rattle.far_texts.proofs.text_column.together.growing.+lengthen.Given as goal

abbrev pub decreases-lengthen : goal.decreases-lengthen
decreases-lengthen l = length l.columns.now
