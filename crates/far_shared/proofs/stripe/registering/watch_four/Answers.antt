use Rattle.std.proofs.Common.{ℕ, refl}
use Rattle.far_shared.specs.UnderLock.{IsUnder, Registers}
use Rattle.far_shared.proofs.UnderLockLaws.{below-four}
use Rattle.far_shared.proofs.WatchingUndo.{at-err, register-undone, unchanged}
use Rattle.far_shared.proofs.stripe.registering.watch_four.Goals as goal

pub returns-in_err-watch_two-clause-none : goal.returns-in_err-watch_two-clause-none
returns-in_err-watch_two-clause-none g c = at-err c.from_residual-in_err-watch_two.result (c.in_err-watch_two.ensures.none.0, unchanged c.in_err-watch_two.ensures.none.1, unchanged refl, refl)

pub returns-in-Ok-clause-all : goal.returns-in-Ok-clause-all
returns-in-Ok-clause-all g c = (c.in_ok-watch_two.ensures.both.0, c.in_ok-watch_two.ensures.both.1, c.in-Ok.ensures.both.0, c.in-Ok.ensures.both.1)

pub returns-in-Err-clause-none : goal.returns-in-Err-clause-none
returns-in-Err-clause-none g c =
    let made = c.in_ok-watch_two.ensures.both in
    let back = c.in-Err.ensures.none in (
      register-undone c.in-Some.a c.args.spec.now c.args.zero.now _ _ c.in-Some.ensures.zero made.0 c.unwatch.ensures,
      register-undone c.in-Some.a c.args.spec.now c.args.one.now _ _ c.in-Some.ensures.one made.1 c.unwatch-in-Err.ensures,
      back.0,
      back.1,
    )

pub returns-in-Ok-clause-under : goal.returns-in-Ok-clause-under
returns-in-Ok-clause-under g c =
    below-four (λ (n : ℕ). Registers (IsUnder g.N.PlanTag.plan g.S.FarTickets.is_of g.B.TableTag.store n) c.in-Some.a c.args.spec.now)
    c.in_ok-watch_two.ensures.under.0 c.in_ok-watch_two.ensures.under.1 c.in-Ok.ensures.under.0 c.in-Ok.ensures.under.1
