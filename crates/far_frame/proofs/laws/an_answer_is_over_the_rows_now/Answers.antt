use Rattle.far_frame.proofs.StepsLaws.{answer-now, answer-scanned, asked-same}
use Rattle.far_frame.proofs.laws.an_answer_is_over_the_rows_now.Goals as goal

pub returns : goal.returns
returns g c =
    let content = g.S.FarTickets.content in
    let number_of = g.S.FarTickets.number_of in
    record { answer = answer-now content number_of; all_scanned = answer-scanned content number_of; same = asked-same content number_of }
