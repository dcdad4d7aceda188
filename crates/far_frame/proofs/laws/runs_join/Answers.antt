use Rattle.far_frame.proofs.StepsLaws.{runs-join}
use Rattle.far_frame.proofs.laws.runs_join.Goals as goal

pub returns : goal.returns
returns g c = runs-join g.S.FarTickets.content g.S.FarTickets.number_of g.S.FarTickets.is_of
