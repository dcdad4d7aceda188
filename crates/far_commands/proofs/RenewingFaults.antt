-- The number of faults in a renewal.
use Rattle.std.proofs.Common.{◌≡◌, ℕ, List, ◌+◌, ◌≤◌, Bool, true, false, ap, arith}
use Rattle.std.specs.Prelude.{if◌then◌else◌, ◌==◌}
use Rattle.far_types.specs.declared.refusal.Refusal.{Refusal}
use Rattle.far_types.specs.Refusals.{number_of}
use Rattle.far_store.specs.Faults.{faults_of}
use Rattle.far_frame.specs.Renewing.{IsMigratedTo}
use Rattle.far_frame.specs.Worlds.{World}

at-most-one : (b : Bool) → (if b then 1 else 0) ≤ 1
at-most-one true = omega arith
at-most-one false = omega arith

-- a renewal that is refused meets at most one fault
pub one-fault : {K : Type 0} (old new : World K) (why : Refusal) → new ≡ record old { faults = old.faults + faults_of why } → new.faults ≤ old.faults + 1
one-fault old new why same =
    let few : faults_of why ≤ 1 = at-most-one (number_of why == 21) in
    let met : new.faults ≡ old.faults + faults_of why = ap (λ world. world.faults) same in
    omega (arith, few, met)

-- a renewal that is accepted meets none
pub no-fault : {K : Type 0} (content : K → List ℕ) (id : List ℕ) (old new : World K) → IsMigratedTo content content id old new → new.faults ≤ old.faults + 1
no-fault content id old new moved =
    let met : new.faults ≡ old.faults = ap (λ world. world.faults) moved.world in
    omega (arith, met)
