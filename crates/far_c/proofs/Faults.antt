-- A refusal counts at most one fault.
use Rattle.std.proofs.Common.{◌≤◌, Bool, true, false, arith}
use Rattle.std.specs.Prelude.{◌==◌, if◌then◌else◌}
use Rattle.far_types.specs.declared.refusal.Refusal.{Refusal}
use Rattle.far_types.specs.Refusals.{number_of as refusal_number}
use Rattle.far_store.specs.Faults.{faults_of}

at-most-one : (b : Bool) → (if b then 1 else 0) ≤ 1
at-most-one true = omega arith
at-most-one false = omega arith

pub few_faults : (e : Refusal) → faults_of e ≤ 1
few_faults e = at-most-one (refusal_number e == 21)
