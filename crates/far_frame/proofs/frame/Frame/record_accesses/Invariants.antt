use Rattle.std.proofs.Common.{ℕ, List, ◌-◌}
use Rattle.far_columns.specs.Pieces.{overlapped_groups}
use Rattle.far_rows.specs.Jobs.{AreAt}
use Rattle.far_frame.proofs.LendingAccesses.{IsObserving}
use Rattle.far_frame.proofs.frame.Frame.record_accesses.Given as goal

abbrev pub invariant-loop-place : goal.invariant-loop-place
invariant-loop-place g l = record {
  observing : IsObserving l.column (overlapped_groups l.fn.self.rows.size l.from l.to) (overlapped_groups l.fn.self.rows.size l.place l.to) l.fn.self l.self;
  here : (id : List ℕ) → AreAt g.S.FarTickets.is_of id l.fn.self.rows → AreAt g.S.FarTickets.is_of id l.self.rows;
}

abbrev pub decreases-loop-place : goal.decreases-loop-place
decreases-loop-place g l = l.to - l.place
