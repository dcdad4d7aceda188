-- Objects that are checked one after another.
use Rattle.std.proofs.Common.{◌≡◌, ℕ, ◌+◌, ◌<◌, Bool, true, false, cond, List, length, drop, get_or, Option, Some, None, refl, sym, ◌∙◌}
use Rattle.std.specs.Prelude.{not}
use Rattle.std.proofs.lemmas.List.{at_drop_more}
use Rattle.far_types.specs.declared.refusal.Refusal.{Refusal}
use Rattle.far_scopes.specs.Movement.{Movement, is_local}
use Rattle.far_scopes.specs.Refusing.{absent, lend_refusal, first_absent}

free-step : (b : Bool) (r : Refusal) (rest : Option Refusal) → None ≡ cond (not b) (Some r) None → cond b rest (Some r) ≡ rest
free-step true r rest is = refl
free-step false r rest is = cc

due-step : (b : Bool) (r given : Refusal) (rest : Option Refusal) → Some given ≡ cond (not b) (Some r) None → cond b rest (Some r) ≡ Some given
due-step true r given rest is = cc
due-step false r given rest is = sym is

module _ {X K : Type 0} (m : Movement X K) (objects : List ℕ) (k : ℕ) (within : k < length objects) where
  pub listed-free : None ≡ lend_refusal m (get_or objects k 0) → first_absent m (drop k objects) ≡ first_absent m (drop (k + 1) objects)
  listed-free free = at_drop_more (first_absent m) objects k 0 within ∙ free-step (is_local m (get_or objects k 0)) (absent m (get_or objects k 0)).1 (first_absent m (drop (k + 1) objects)) free

  pub listed-due : (r : Refusal) → Some r ≡ lend_refusal m (get_or objects k 0) → first_absent m (drop k objects) ≡ Some r
  listed-due r due = at_drop_more (first_absent m) objects k 0 within ∙ due-step (is_local m (get_or objects k 0)) (absent m (get_or objects k 0)).1 r (first_absent m (drop (k + 1) objects)) due
