use Rattle.far_sessions.specs.Histories.{Planned}
use Rattle.far_shared.proofs.WatchingLaws.{gauge-watched, gauge-refused}
use Rattle.far_shared.proofs.opening.watch_gauge.Goals as goal

pub returns-clause-ok : goal.returns-clause-ok
returns-clause-ok g c =
    let s = c.plan.inside in
    let p : Planned = record { schema = s.schema; limits = s.limits; gauge = s.gauge; sessions = s.sessions } in
    gauge-watched g.S.FarTickets.content _ _ p _ c.plan.invariant c.plan.view_is _ c.requires.fresh _ c.in_ok-clone.ensures.equal g.S.FarTickets.is_of _ c.requires.here c.watch.ensures.ok

pub returns-clause-memory : goal.returns-clause-memory
returns-clause-memory g c =
    let s = c.plan.inside in
    let p : Planned = record { schema = s.schema; limits = s.limits; gauge = s.gauge; sessions = s.sessions } in
    gauge-refused g.S.FarTickets.content _ _ p _ c.plan.invariant c.plan.view_is _ c.requires.fresh _ c.in_ok-clone.ensures.equal _ c.watch.ensures.err
