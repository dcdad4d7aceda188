use Rattle.std.proofs.Common.{◌≡◌}
use Rattle.far_shared.specs.UnderLock.{IsUnder}
use Rattle.far_shell.specs.Evicting.{AreTried}
use Rattle.far_shell.proofs.sessions.evacuating.evacuate_all.Given as goal

-- each turn so far tried one eviction
abbrev pub invariant-loop-k : goal.invariant-loop-k
invariant-loop-k g l = record {
  tries : l.evictions.tries ≡ l.k;
  tried : AreTried g.S.FarTickets.number_of g.S.FarTickets.content (IsUnder g.N.PlanTag.plan g.S.FarTickets.is_of g.B.TableTag.store) l.k l.evictions.evicted;
}
