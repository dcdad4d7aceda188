use Rattle.std.proofs.Common.{IfErr, OnOk, subst}
use Rattle.far_table.specs.Live.{state_of}
use Rattle.far_frame.specs.Jobs.{JobRecord, Installs, InstallRefusal}
use Rattle.far_frame.specs.State.{State, with_accesses}
use Rattle.far_frame.proofs.LiveMoved.{moved-live, moved-state}
use Rattle.far_frame.proofs.WorldsLaws.{install-refused}
use Rattle.far_frame.proofs.frame.Frame.install.Goals as goal

pub invariant_of-self : goal.invariant_of-self
invariant_of-self g c =
    let inside = c.self.inside in
    let e = c.install.ensures in
    moved-live inside.rows c.install.new.self inside.registrations inside.aggregates c.install.result _ e.installed e.err c.self.invariant

pub returns-in-Fetched-clause-installed : goal.returns-in-Fetched-clause-installed
returns-in-Fetched-clause-installed g c =
    let inside = c.self.inside in
    let e = c.install.ensures in
    let new = with_accesses (state_of c.install.new.self inside.registrations inside.aggregates) inside.prefetcher in
    let done = moved-state inside.rows c.install.new.self inside.registrations inside.aggregates c.install.result _ e.installed e.err inside.prefetcher c.args.self.now c.self.view_is in
    subst (λ (j : JobRecord g.row.S-Ticket.Denot). OnOk c.install.result (Installs g.S.FarTickets.number_of c.args.self.now g.S.FarTickets.content j.work new)) c.job.view_is (rw c.in-Fetched.is done)

pub returns-in-Fetched-clause-refused : goal.returns-in-Fetched-clause-refused
returns-in-Fetched-clause-refused g c =
    let inside = c.self.inside in
    let e = c.install.ensures in
    let why = install-refused c.install.result _ _ e.stale e.full e.refused in
    subst (λ (j : JobRecord g.row.S-Ticket.Denot). IfErr c.install.result (InstallRefusal g.S.FarTickets.number_of c.args.self.now g.S.FarTickets.content j.work)) c.job.view_is
    (subst (λ (old : State g.row.S-Ticket.Denot). IfErr c.install.result (InstallRefusal g.S.FarTickets.number_of old g.S.FarTickets.content c.job.inside.work)) c.self.view_is (rw c.in-Fetched.is why))
