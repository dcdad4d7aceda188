use Rattle.far_frame.proofs.StepsLaws.{lent-cells, lent-flags}
use Rattle.far_frame.proofs.laws.a_lent_reply_is_that_part.Goals as goal

pub returns : goal.returns
returns g c = record { cells = lent-cells g.S.FarTickets.content g.S.FarTickets.number_of; flags = lent-flags g.S.FarTickets.content g.S.FarTickets.number_of }
