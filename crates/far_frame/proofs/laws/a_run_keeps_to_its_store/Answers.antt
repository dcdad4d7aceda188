use Rattle.far_frame.proofs.StoresLaws.{run-store, run-tickets}
use Rattle.far_frame.proofs.laws.a_run_keeps_to_its_store.Goals as goal

pub returns : goal.returns
returns g c =
    let tickets = g.S.FarTickets in
    record {
      store = run-store tickets.is_of tickets.content tickets.number_of;
      tickets = run-tickets tickets.is_of tickets.content tickets.number_of;
    }
