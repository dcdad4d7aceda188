use Rattle.far_frame.proofs.StepsLaws.{answer-recounted, recounted-answer, recounted-same}
use Rattle.far_frame.proofs.laws.a_recount_is_over_the_rows_now.Goals as goal

pub returns : goal.returns
returns g c = record { answer = recounted-answer; same = recounted-same; asked = answer-recounted g.S.FarTickets.content g.S.FarTickets.number_of }
