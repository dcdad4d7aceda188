use Rattle.std.proofs.Common.{ℕ, ◌+◌, ◌≡◌, ◌∙◌, ap, arith}
use Rattle.far_frame.proofs.WaitingSpentNumbers.{spent}
use Rattle.far_frame.proofs.laws.a_stale_job_changes_nothing.Goals as goal

no-fault : (n : ℕ) → n + 0 ≡ n
no-fault n = omega arith

pub returns : goal.returns
returns g c = record {
  committed = λ old n new h. h.world;
  installed = λ old n new h. h.world;
  merged = λ old n new h. h.world;
  carried = λ old n new h. h.world ∙ ap (λ (faults : ℕ). record old { faults = faults }) (no-fault old.faults);
  spent = spent g.S.FarTickets.content g.S.FarTickets.number_of;
}
