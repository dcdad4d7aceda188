-- Consequences of an outcome, if the reason to refuse is known.
use Rattle.std.proofs.Common.{◌≡◌, ◌≢◌, ◌↔◌, ℕ, zero, suc, List, [], ◌∷◌, Option, None, Some, refl, sym, arith}
use Rattle.std.specs.Prelude.{Result, Ok, Err, OnOk, IfSome, IsErrOf, is_some, not}
use Rattle.std.specs.Option.{option_and_then}
use Rattle.std.proofs.lemmas.Option.{none-some}
use Rattle.far_types.specs.declared.refusal.Refusal.{Refusal}
use Rattle.far_types.specs.declared.refusal.Refusal.TheVariants.{Pinned}
use Rattle.far_types.specs.FirstOf.{first_of}
use Rattle.far_scopes.specs.Memory.{list_in, place_of}
use Rattle.far_scopes.specs.Movement.{Movement}
use Rattle.far_scopes.specs.Refusing.{absent, lend_refusal}

no-pin : (pins : ℕ) → ¬ (pins ≢ 0) → pins ≡ 0
no-pin zero none = refl
no-pin (suc n) none = absurd (none (λ is. omega (arith, is)))

not-pinned : {A : Type 0} (x : A) → IsErrOf (Ok x) Pinned → ⊥
not-pinned x is = cc

-- if jobs are refused for pinned objects, the object of an accepted job has no pin
pub unpinned : {A : Type 0} (r : Result A Refusal) (P : Type 0) (pins : ℕ) → OnOk r P → (IsErrOf r Pinned ↔ (P × (pins ≢ 0))) → OnOk r (pins ≡ 0)
unpinned (Ok x) P pins accepted pinned = no-pin pins (λ some. not-pinned x (pinned.1 (accepted, some)))
unpinned (Err e) P pins accepted pinned = tt

-- an object that cannot be lent has no list
pub no-list : {X K : Type 0} (P : List X → Type 0) (m : Movement X K) (o : ℕ) (e : Refusal) → Some e ≡ lend_refusal m o → IfSome (list_in m.memory o) P
no-list {X} P m o e is = by _ (place_of m.memory.words o) is where
  by : {A : Type 0} (part : A → Option (List X)) (at : Option A) → Some e ≡ first_of ((not (is_some at), (absent m o).1) ∷ []) → IfSome (option_and_then part at) P
  by part None is = tt
  by part (Some at) is = absurd (none-some e (sym is))
