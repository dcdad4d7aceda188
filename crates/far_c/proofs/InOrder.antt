-- One more step after steps that were served in order.
use Rattle.std.proofs.Common.{◌∙◌, ℕ, ◌+◌, sym, ap, subst, add-one}
use Rattle.far_frame.specs.declared.step.Step.{Step}
use Rattle.far_frame.specs.declared.step.Reply.{Reply}
use Rattle.far_c.specs.Columns.{AreAccepted, AreServed}
use Rattle.far_c.specs.Outcomes.{IsAccepted, IsServed}
use Rattle.far_c.specs.TableState.{TableState}

pub next-served : (steps : ℕ → Step) (n : ℕ) (old mid new : TableState) (given : Reply) → AreServed steps n old mid → IsServed (steps n) given mid new → IsAccepted given → AreServed steps (n + 1) old new
next-served steps n old mid new given so-far served accepted = (
  subst (λ (k : ℕ). AreAccepted steps k old.world new.world) (sym (add-one n)) (mid.world, given, so-far.0, served.0, accepted),
  served.1 ∙ ap (λ (t : TableState). record t { world = new.world }) so-far.1 ∙ ap (λ r. record old { world = new.world; refusal = r }) (sym (ap (λ (t : TableState). t.refusal) served.1)),
)
