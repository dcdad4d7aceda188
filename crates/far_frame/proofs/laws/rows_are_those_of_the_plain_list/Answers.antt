use Rattle.far_frame.proofs.StepsLaws.{run-rows}
use Rattle.far_frame.proofs.laws.rows_are_those_of_the_plain_list.Goals as goal

pub returns : goal.returns
returns g c = run-rows g.S.FarTickets.content g.S.FarTickets.number_of g.S.FarTickets.is_of
