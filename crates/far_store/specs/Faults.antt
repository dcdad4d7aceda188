-- The refusals of a far store's calls, and what each adds to the caller's meter.
use Rattle.std.specs.Prelude.{◌≡◌, ℕ, ◌==◌, if◌then◌else◌, List, IsTrue, Result, IfErr}
use Rattle.std.specs.List.{list_any}
use Rattle.std.specs.declared.result.Result.TheVariants.{Ok, Err}
use Rattle.far_types.specs.declared.refusal.Refusal.{Refusal}
use Rattle.far_types.specs.declared.refusal.Refusal.TheVariants.{FarFault}
use Rattle.far_types.specs.Refusals.{number_of}

-- 1 for FarFault, 0 for every other refusal
abbrev pub faults_of : Refusal → ℕ
faults_of refusal = if number_of refusal == 21 then 1 else 0

-- how many faults a call returned: 1 if it was refused with FarFault, else 0
abbrev pub faults_in : {A : Type 0} → Result A Refusal → ℕ
faults_in (Ok x) = 0
faults_in (Err refusal) = faults_of refusal

-- a call's result, without the job that a refused call returns
abbrev pub outcome : {A J : Type 0} → Result A (Refusal × J) → Result A Refusal
outcome (Ok done) = Ok done
outcome (Err refused) = Err refused.0

-- the call is refused with FarFault only if its store may fail
abbrev pub FailsOnlyIf : {A : Type 0} → Type 0 → Result A Refusal → Type 0
FailsOnlyIf may_fail result = IfErr result (λ refusal. refusal ≡ FarFault → may_fail)

-- the call is refused only with one of these numbers
abbrev pub RefusedBy : {A : Type 0} → List ℕ → Result A Refusal → Type 0
RefusedBy numbers result = IfErr result
    (λ refusal. IsTrue (list_any (λ number. number == number_of refusal) numbers))
