use Rattle.std.proofs.Common.{OnOk, subst}
use Rattle.far_table.specs.Live.{state_of}
use Rattle.far_frame.specs.Jobs.{JobRecord, Commits}
use Rattle.far_frame.specs.State.{with_accesses}
use Rattle.far_frame.proofs.LiveMoved.{moved-live, moved-state}
use Rattle.far_frame.proofs.frame.Frame.commit.Goals as goal

pub invariant_of-self : goal.invariant_of-self
invariant_of-self g c =
    let inside = c.self.inside in
    let e = c.commit.ensures in
    moved-live inside.rows c.commit.new.self inside.registrations inside.aggregates c.commit.result _ e.committed e.err c.self.invariant

pub returns-in-Carried-clause-committed : goal.returns-in-Carried-clause-committed
returns-in-Carried-clause-committed g c =
    let inside = c.self.inside in
    let e = c.commit.ensures in
    let new = with_accesses (state_of c.commit.new.self inside.registrations inside.aggregates) inside.prefetcher in
    let done = moved-state inside.rows c.commit.new.self inside.registrations inside.aggregates c.commit.result _ e.committed e.err inside.prefetcher c.args.self.now c.self.view_is in
    subst (λ (j : JobRecord g.row.S-Ticket.Denot). OnOk c.commit.result (Commits g.S.FarTickets.number_of c.args.self.now j.work new)) c.job.view_is (rw c.in-Carried.is done)
