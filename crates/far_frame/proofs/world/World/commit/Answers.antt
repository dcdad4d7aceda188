use Rattle.std.proofs.Common.{ap, sym, subst}
use Rattle.far_frame.specs.declared.step.Reply.{Reply}
use Rattle.far_frame.specs.Effects.{Replies}
use Rattle.far_frame.specs.Jobs.{Commits, CommitRefusal}
use Rattle.far_frame.specs.Waiting.{Waiting, AreJobsAt, spends}
use Rattle.far_frame.specs.Worlds.{World, IsEnded, IsNotEnded}
use Rattle.far_frame.proofs.WorldsLaws.{ended-here, ended-step}
use Rattle.far_frame.proofs.world.World.commit.Goals as goal

pub invariant_of-self : goal.invariant_of-self
invariant_of-self g c =
    let is_of = g.S.FarTickets.is_of in
    let id = g.S.FarTickets.store_id c.self.inside.store in
    record {
      rows_at = c.end_evac-ended.ensures.here;
      jobs_at = subst (AreJobsAt is_of id) (sym c.end.ensures) (ended-here is_of id (spends c.end_evac-ended.result) c.self.inside.jobs c.args.n c.self.invariant.jobs_at);
    }

pub returns : goal.returns
returns g c =
    let inside = c.self.inside in
    let old : World g.row.S-Ticket.Denot = record { state = inside.frame; store = g.S.FarTickets.store_id inside.store; begun = inside.begun; jobs = inside.jobs; faults = inside.meter } in
    let new : World g.row.S-Ticket.Denot = record old { state = c.end_evac-ended.new.frame; jobs = c.end.new.self } in
    let done = ended-step (Commits g.S.FarTickets.number_of old.state) (CommitRefusal g.S.FarTickets.number_of old.state) c.args.n old new c.end_evac-ended.result c.end_evac-ended.ensures.ended c.end_evac-ended.ensures.refused c.end_evac-ended.ensures.err
    (ap (λ (jobs : Waiting g.row.S-Ticket.Denot). record old { state = c.end_evac-ended.new.frame; jobs = jobs }) c.end.ensures) in
    subst (λ (old : World g.row.S-Ticket.Denot). Replies (λ served. IsEnded (Commits g.S.FarTickets.number_of old.state) c.args.n old served new) (λ e. IsNotEnded (CommitRefusal g.S.FarTickets.number_of old.state) c.args.n old e new) c.done_or.result) c.self.view_is
    (subst (λ (given : Reply). Replies (λ served. IsEnded (Commits g.S.FarTickets.number_of old.state) c.args.n old served new) (λ e. IsNotEnded (CommitRefusal g.S.FarTickets.number_of old.state) c.args.n old e new) given) (sym c.done_or.ensures) done)
