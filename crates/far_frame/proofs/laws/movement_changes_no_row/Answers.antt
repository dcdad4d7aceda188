use Rattle.far_frame.proofs.StepsLaws.{moved-table}
use Rattle.far_frame.proofs.laws.movement_changes_no_row.Goals as goal

pub returns : goal.returns
returns g c = moved-table g.S.FarTickets.content g.S.FarTickets.number_of
