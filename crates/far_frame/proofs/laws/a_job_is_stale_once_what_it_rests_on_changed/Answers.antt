use Rattle.far_frame.proofs.JobsAcceptance.{accepted-once, committed-stale, forgotten-refused, installed-stale, merged-stale}
use Rattle.far_frame.proofs.laws.a_job_is_stale_once_what_it_rests_on_changed.Goals as goal

pub returns : goal.returns
returns g c =
    let content = g.S.FarTickets.content in
    let number_of = g.S.FarTickets.number_of in
    record {
      committed = committed-stale content number_of;
      installed = installed-stale content number_of;
      merged = merged-stale content number_of;
      forgotten = forgotten-refused content number_of;
      kept = λ old n new h. h.world;
      again = accepted-once content number_of;
    }
