use Rattle.far_frame.proofs.StepsLaws.{refused-state}
use Rattle.far_frame.proofs.laws.a_refused_step_changes_nothing.Goals as goal

pub returns : goal.returns
returns g c = refused-state g.S.FarTickets.content g.S.FarTickets.number_of
