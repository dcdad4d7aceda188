use Rattle.std.proofs.Common.{◌∙◌, ℕ, ◌+◌, ◌%◌, ap, subst}
use Rattle.far_shared.specs.UnderLock.{IsUnder}
use Rattle.far_shell.specs.Evicting.{IsCounted}
use Rattle.far_shell.proofs.WorkingTries.{one-more}
use Rattle.far_shell.proofs.sessions.evacuating.evacuate_all.Goals as goal

pub loop-k-preserved : goal.loop-k-preserved
loop-k-preserved g c =
    let t = g.S.FarTickets in
    let allows = IsUnder g.N.PlanTag.plan t.is_of g.B.TableTag.store in
    let e = c.try_next.new.self.evicted in
    record {
      tries = c.try_next.ensures.tries ∙ ap (λ (tries : ℕ). tries + 1) c.loop-k.invariant.tries;
      tried = one-more t.number_of t.content allows c.loop-k.k c.loop-k.evictions.evicted e c.loop-k.invariant.tried
          (subst (λ (tries : ℕ). IsCounted t.number_of t.content allows (tries % 4) c.loop-k.evictions.evicted e) c.loop-k.invariant.tries c.in_ok-try_next.ensures.counted);
    }
