use Rattle.std.proofs.Common.{◌≡◌, ◌∙◌, ap, sym, subst, None, Some}
use Rattle.far_frame.specs.Waiting.{is_number, job_at, with_job, AreJobsAt}
use Rattle.far_frame.proofs.WaitingLaws.{set-twice, set-same}
use Rattle.far_frame.proofs.WorldsLaws.{job-here, with-here}
use Rattle.far_frame.proofs.waiting.Waiting.carry.Goals as goal

pub returns-in_default-clause-err : goal.returns-in_default-clause-err
returns-in_default-clause-err g c = c.take.ensures.after ∙ set-same (is_number c.args.n) c.args.self.now None (sym c.take.ensures.value ∙ c.in_default.is)

pub returns-in_default-clause-here : goal.returns-in_default-clause-here
returns-in_default-clause-here g c =
    let same : c.take.new.self ≡ c.args.self.now = c.take.ensures.after ∙ set-same (is_number c.args.n) c.args.self.now None (sym c.take.ensures.value ∙ c.in_default.is) in
    subst (AreJobsAt g.S.FarTickets.is_of (g.S.FarTickets.store_id c.args.store.now)) (sym same) c.requires.here

pub carry-requires-clause-here : goal.carry-requires-clause-here
carry-requires-clause-here g c κs within = job-here g.S.FarTickets.is_of (g.S.FarTickets.store_id c.args.store.now) c.args.self.now c.args.n c.in-Some.job c.requires.here (sym c.take.ensures.value ∙ c.in-Some.is)

pub returns-in-Ok-clause-carried : goal.returns-in-Ok-clause-carried
returns-in-Ok-clause-carried g c =
    let old = c.args.self.now in
    record {
      job = c.in-Some.job;
      waits = sym c.take.ensures.value ∙ c.in-Some.is;
      done = c.in-Ok.done;
      carried = c.in-Ok.ensures.carried;
      jobs = c.put.ensures ∙ ap (λ w. with_job w c.args.n (Some c.in-Ok.done)) c.take.ensures.after ∙ set-twice (is_number c.args.n) old None (Some c.in-Ok.done);
    }

pub returns-in-Ok-clause-here : goal.returns-in-Ok-clause-here
returns-in-Ok-clause-here g c =
    let is_of = g.S.FarTickets.is_of in
    let id = g.S.FarTickets.store_id c.args.store.now in
    let old = c.args.self.now in
    let put : c.put.new.self ≡ with_job old c.args.n (Some c.in-Ok.done) =
    c.put.ensures ∙ ap (λ w. with_job w c.args.n (Some c.in-Ok.done)) c.take.ensures.after ∙ set-twice (is_number c.args.n) old None (Some c.in-Ok.done) in
    subst (AreJobsAt is_of id) (sym put) (with-here is_of id old c.args.n c.in-Ok.done c.requires.here c.in-Ok.ensures.here)

pub returns-in-Err-clause-err : goal.returns-in-Err-clause-err
returns-in-Err-clause-err g c =
    let t = is_number c.args.n in
    let old = c.args.self.now in
    let job : job_at old c.args.n ≡ Some c.in-Err.job = sym c.take.ensures.value ∙ c.in-Some.is ∙ ap Some (sym c.in-Err.ensures.back) in
    c.put-in-Err.ensures ∙ ap (λ w. with_job w c.args.n (Some c.in-Err.job)) c.take.ensures.after ∙ set-twice t old None (Some c.in-Err.job) ∙ set-same t old (Some c.in-Err.job) job

pub returns-in-Err-clause-here : goal.returns-in-Err-clause-here
returns-in-Err-clause-here g c =
    let t = is_number c.args.n in
    let old = c.args.self.now in
    let job : job_at old c.args.n ≡ Some c.in-Err.job = sym c.take.ensures.value ∙ c.in-Some.is ∙ ap Some (sym c.in-Err.ensures.back) in
    let same : c.put-in-Err.new.self ≡ old =
    c.put-in-Err.ensures ∙ ap (λ w. with_job w c.args.n (Some c.in-Err.job)) c.take.ensures.after ∙ set-twice t old None (Some c.in-Err.job) ∙ set-same t old (Some c.in-Err.job) job in
    subst (AreJobsAt g.S.FarTickets.is_of (g.S.FarTickets.store_id c.args.store.now)) (sym same) c.requires.here
