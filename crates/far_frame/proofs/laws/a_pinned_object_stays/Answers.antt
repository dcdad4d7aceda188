use Rattle.far_frame.proofs.PinsRuns.{step-stays, step-pins, run-holds, opened-holds, lent-free}
use Rattle.far_frame.proofs.StepsLaws.{pinned-stays}
use Rattle.far_frame.proofs.laws.a_pinned_object_stays.Goals as goal

pub returns : goal.returns
returns g c =
    let content = g.S.FarTickets.content in
    let number_of = g.S.FarTickets.number_of in
    record {
      stays = step-stays content number_of;
      pins = step-pins content number_of;
      run = run-holds content number_of g.S.FarTickets.is_of;
      opened = opened-holds g.row.S-Ticket.Denot;
      lent = lent-free content number_of;
      committed = pinned-stays content number_of;
    }
