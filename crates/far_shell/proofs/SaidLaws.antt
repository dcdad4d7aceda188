-- A value that is returned if its reply is added, and not otherwise.
use Rattle.std.proofs.Common.{◌≡◌, Result, Ok, Err, IfErr, IfOk, IsOk, OnErr, OnOk, subst, sym}
use mathlib.Core.Bool.{true≢false}
use Rattle.far_script.specs.declared.fault.ShellFault.{ShellFault}

-- a property of the value is a property of what is returned
pub kept-as : {T : Type 0} (P : T → Type 0) (kept : Result T ShellFault) (value : T) (Q : Type 0) → IfOk kept (λ x. (x ≡ value) × Q) → P value → IfOk kept P
kept-as P (Ok x) value Q same holds = subst P (sym same.0) holds
kept-as P (Err e) value Q same holds = tt

-- a fact that holds if the reply is added holds if the value is returned
pub said-then : {T : Type 0} (kept : Result T ShellFault) (said : Result (Unit {0}) ShellFault) (P : T → Type 0) (Q : Type 0) → IfOk kept (λ x. P x × IsOk said) → OnOk said Q → OnOk kept Q
said-then (Ok x) (Ok u) P Q was holds = holds
said-then (Ok x) (Err e) P Q was holds = absurd (true≢false (sym was.1))
said-then (Err f) said P Q was holds = tt

-- a fact that holds if no reply is added holds for each error
pub unsaid : (said : Result (Unit {0}) ShellFault) (Q : Type 0) → OnErr said Q → IfErr said (λ _. Q)
unsaid (Ok u) Q holds = tt
unsaid (Err e) Q holds = holds
