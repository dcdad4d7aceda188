use Rattle.far_columns.proofs.VectorGroups.{list-of-group}
use Rattle.far_columns.proofs.laws.objects_hold_row_groups.Goals as goal

pub returns : goal.returns
returns g c = list-of-group
