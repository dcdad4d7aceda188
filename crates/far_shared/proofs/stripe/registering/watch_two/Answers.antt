use Rattle.far_shared.proofs.UnderLockLaws.{registers-at}
use Rattle.far_shared.proofs.WatchingUndo.{at-number, register-undone}
use Rattle.far_shared.proofs.stripe.registering.watch_two.Goals as goal

pub returns-in-Ok-clause-both : goal.returns-in-Ok-clause-both
returns-in-Ok-clause-both g c = (
  at-number c.args.a _ c.in_ok-first.first c.args.spec.now c.args.one.now c.watch.new.self c.in_ok-first.ensures.equal c.requires.one c.in_ok-watch.ensures.ok,
  at-number c.args.a _ c.in_ok-second.second c.args.spec.now c.args.other.now c.watch-2.new.self c.in_ok-second.ensures.equal c.requires.other c.in-Ok.ensures.ok,
)

pub returns-in-Err-clause-none : goal.returns-in-Err-clause-none
returns-in-Err-clause-none g c =
    let made = at-number c.args.a _ c.in_ok-first.first c.args.spec.now c.args.one.now c.watch.new.self c.in_ok-first.ensures.equal c.requires.one c.in_ok-watch.ensures.ok in
    (register-undone c.args.a c.args.spec.now c.args.one.now c.watch.new.self c.unwatch.new.self c.requires.one made c.unwatch.ensures, c.in-Err.ensures.err)

pub returns-in-Ok-clause-under : goal.returns-in-Ok-clause-under
returns-in-Ok-clause-under g c = (
  registers-at _ c.args.a _ c.in_ok-first.first c.args.spec.now _ c.in_ok-first.ensures.equal c.requires.one c.in_ok-watch.ensures.ok.0 c.in_ok-watch.ensures.under,
  registers-at _ c.args.a _ c.in_ok-second.second c.args.spec.now _ c.in_ok-second.ensures.equal c.requires.other c.in-Ok.ensures.ok.0 c.in-Ok.ensures.under,
)
