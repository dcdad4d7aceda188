use Rattle.std.proofs.Common.{◌≡◌}
use Rattle.far_sessions.specs.Histories.{Planned}
use Rattle.far_types.specs.declared.refusal.Refusal.TheVariants as refusal
use Rattle.far_shared.specs.Opening.{IsEmpty}
use Rattle.far_shared.proofs.OpenLaws.{value-done, why-done}
use Rattle.far_shared.proofs.WatchingLaws.{opened-for}
use Rattle.far_shared.proofs.opening.open_frame.Goals as goal

pub watch_gauge-watched-requires-clause-fresh : goal.watch_gauge-watched-requires-clause-fresh
watch_gauge-watched-requires-clause-fresh g c κs within =
    let s = c.plan.inside in
    let p : Planned = record { schema = s.schema; limits = s.limits; gauge = s.gauge; sessions = s.sessions } in
    opened-for p _ _ _ _ c.plan.view_is c.in_ok-clone.ensures.equal c.in-Ok.ensures.ok

pub returns-in-Ok-clause-ok : goal.returns-in-Ok-clause-ok
returns-in-Ok-clause-ok g c =
    value-done (IsEmpty g.S.FarTickets.is_of c.args.plan.now c.args.number) _ c.once_done.result c.watch_gauge-watched.result c.once_done.ensures.ok c.watch_gauge-watched.ensures.ok

pub returns-in-Ok-clause-memory : goal.returns-in-Ok-clause-memory
returns-in-Ok-clause-memory g c =
    why-done (λ e. e ≡ refusal.NoMemory) c.once_done.result c.watch_gauge-watched.result c.once_done.ensures.refused c.watch_gauge-watched.ensures.memory
