-- Consequences of a call that is accepted.
use Rattle.std.proofs.Common.{◌≡◌, Result, Ok, Err, Option, None}
use Rattle.std.specs.Prelude.{OnOk}
use Rattle.far_types.specs.declared.refusal.Refusal.{Refusal}
use Rattle.far_scopes.specs.Refusing.{refusal_in}

-- if the call is accepted, no refusal was due
pub on-ok : {A P : Type 0} (r : Result A Refusal) (due : Option Refusal) → refusal_in r ≡ due → (None ≡ due → P) → OnOk r P
on-ok (Ok x) due is then = then is
on-ok (Err e) due is then = tt
