use Rattle.std.proofs.Common.{length}
use Rattle.far_columns.proofs.int_column.together.filling.+fill_places.Given as goal

abbrev pub decreases-fill_places : goal.decreases-fill_places
decreases-fill_places g l = length l.columns.now
