use Rattle.far_frame.proofs.WaitingNumbers.{opened-numbered, run-numbered, accepted-spent, stale-spent, run-spent, named-stale, migrated-spent}
use Rattle.far_frame.proofs.laws.a_number_names_one_job.Goals as goal

pub returns : goal.returns
returns g c =
    let content = g.S.FarTickets.content in
    let number_of = g.S.FarTickets.number_of in
    record {
      opened = opened-numbered;
      run = run-numbered content number_of g.S.FarTickets.is_of;
      accepted = accepted-spent content number_of;
      stale = stale-spent content number_of;
      spent = run-spent content number_of g.S.FarTickets.is_of;
      named = named-stale content number_of;
      migrated = migrated-spent content g.N.FarTickets.content;
    }
