use Rattle.far_frame.proofs.LendingLaws.{part-cells, part-flags, part-one}
use Rattle.far_frame.proofs.laws.a_lent_part_is_that_of_its_column.Goals as goal

pub returns : goal.returns
returns c = record { cells = part-cells; flags = part-flags; one = part-one }
