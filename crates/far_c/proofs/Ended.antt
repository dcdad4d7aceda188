-- A call whose result is that of a step: if its code is 0, the step is served.
use Rattle.std.proofs.Common.{◌≡◌, ◌∙◌, ◌≤◌, ℕ, Result, OnOk, OnErr, sym, ap, subst, arith}
use Rattle.std.specs.Prelude.{IfOk}
use Rattle.std.specs.declared.result.Result.TheVariants.{Ok, Err}
use Rattle.far_types.specs.declared.refusal.Refusal.{Refusal}
use Rattle.far_frame.specs.declared.step.Step.{Step}
use Rattle.far_frame.specs.declared.step.Reply.{Reply}
use Rattle.far_frame.specs.declared.step.Reply.TheVariants as reply
use Rattle.far_c.specs.Outcomes.{IsServed, IsRefusal}
use Rattle.far_c.specs.TableState.{TableState}

pub ended : (s : Step) (outcome : Result Unit Refusal) (given : Reply) (old mid new : TableState) (code : ℕ) → IsServed s given old mid → OnOk outcome (given ≡ reply.Done) → OnOk outcome ((code ≡ 0) × (new ≡ mid)) → OnErr outcome (IsRefusal code) → code ≡ 0
    → IsServed s reply.Done old new
ended s (Ok done) given old mid new code served is same number zero = subst (λ (t : TableState). IsServed s reply.Done old t) (sym same.1) (subst (λ (g : Reply). IsServed s g old mid) is served)
ended s (Err why) given old mid new code served is same number zero = absurd (let low = number.0 in let none : ¬ (1 ≤ code) = λ h. omega (arith, h, zero) in none low)

-- a call that also writes the step's result
pub written : {T : Type 0} (s : Step) (form : T → Reply) (outcome : Result T Refusal) (given : Reply) (old mid new : TableState) (code : ℕ) (to : T) (P : Type 0) → IsServed s given old mid → IfOk outcome (λ x. given ≡ form x) → IfOk outcome (λ x. (code ≡ 0) × (to ≡ x) × (new ≡ mid)) → OnErr outcome (IsRefusal code × P) → code ≡ 0
    → IsServed s (form to) old new
written s form (Ok x) given old mid new code to P served is same number zero = subst (λ (t : TableState). IsServed s (form to) old t) (sym same.2) (subst (λ (g : Reply). IsServed s g old mid) (is ∙ ap form (sym same.1)) served)
written s form (Err why) given old mid new code to P served is same number zero = absurd (let low = number.0.0 in let none : ¬ (1 ≤ code) = λ h. omega (arith, h, zero) in none low)
