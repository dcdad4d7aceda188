use Rattle.far_frame.proofs.PlainEditsLaws.{edit-accepted, edit-refused}
use Rattle.far_frame.proofs.laws.an_edit_is_that_of_the_plain_list.Goals as goal

pub returns : goal.returns
returns g c =
    let content = g.S.FarTickets.content in
    let number_of = g.S.FarTickets.number_of in
    record {
      inserted = λ old e place new h. h.0.1.changed.table;
      done = λ old e new h. h.0.1.changed.table;
      placed = λ old e place new h. h.0.0;
      returned = λ old e new h. h.0.0;
      accepted = edit-accepted content number_of;
      refused = λ old e given new h. h.0.1;
      plain = edit-refused content number_of;
    }
