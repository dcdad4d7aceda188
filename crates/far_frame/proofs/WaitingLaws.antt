-- Values that are written under a key and removed again.
use Rattle.std.proofs.Common.{◌≡◌, ℕ, Bool, true, false, List, [], ◌∷◌, Option, None, Some, Result, Ok, Err, cond, refl, sym, ap}
use Rattle.std.specs.Map.{lookup, set_value}
use Rattle.far_types.specs.declared.refusal.Refusal.{Refusal}
use Rattle.far_store.specs.Faults.{FailsOnlyIf}
use Rattle.far_aggregates.specs.Aggregates.{flattened}
use Rattle.far_frame.specs.declared.step.Step.TheVariants as step
use Rattle.far_frame.specs.Effects.{done_or}
use Rattle.far_frame.specs.TableRuns.{FaultsOnlyIf}

none-some : {A : Type 0} (x : A) → Some x ≡ None → ⊥
none-some x h = cc

module _ {X A : Type 0} (t : X → Bool) where
  absent-step : (e : X × A) (es : List (X × A)) (w : A) (b : Bool) → t e.0 ≡ b → (lookup t es ≡ None → set_value t es w ≡ es)
      → cond b (Some e.1) (lookup t es) ≡ None → cond b ((e.0, w) ∷ es) (e ∷ set_value t es w) ≡ e ∷ es
  absent-step e es w true is rest h = absurd (none-some e.1 h)
  absent-step e es w false is rest h = ap (λ r. e ∷ r) (rest h)

  pub set-absent : (es : List (X × A)) (w : A) → lookup t es ≡ None → set_value t es w ≡ es
  set-absent [] w h = refl
  set-absent (e ∷ es) w h = absent-step e es w (t e.0) refl (set-absent es w) h

  twice-step : (e : X × A) (es : List (X × A)) (v w : A) (b : Bool) → t e.0 ≡ b → set_value t (set_value t es v) w ≡ set_value t es w
      → set_value t (cond b ((e.0, v) ∷ es) (e ∷ set_value t es v)) w ≡ cond b ((e.0, w) ∷ es) (e ∷ set_value t es w)
  twice-step e es v w true is rest = rw is refl
  twice-step e es v w false is rest = rw is (ap (λ r. e ∷ r) rest)

  pub set-twice : (es : List (X × A)) (v w : A) → set_value t (set_value t es v) w ≡ set_value t es w
  set-twice [] v w = refl
  set-twice (e ∷ es) v w = twice-step e es v w (t e.0) refl (set-twice es v w)

module _ {X A : Type 0} (t : X → Bool) where
  same-step : (e : X × Option A) (es : List (X × Option A)) (w : Option A) (b : Bool) → (flattened (lookup t es) ≡ w → set_value t es w ≡ es)
      → flattened (cond b (Some e.1) (lookup t es)) ≡ w → cond b ((e.0, w) ∷ es) (e ∷ set_value t es w) ≡ e ∷ es
  same-step e es w true rest h = λ i. (e.0, sym h i) ∷ es
  same-step e es w false rest h = ap (λ r. e ∷ r) (rest h)

  -- writing the value that is there already changes nothing
  pub set-same : (es : List (X × Option A)) (w : Option A) → flattened (lookup t es) ≡ w → set_value t es w ≡ es
  set-same [] w h = refl
  set-same (e ∷ es) w h = same-step e es w (t e.0) (set-same es w) h

-- the reply to a carry is a fault only if the store may fail
pub carry-cause : (may_fail : Type 0) (n : ℕ) (r : Result Unit Refusal) → FailsOnlyIf may_fail r → FaultsOnlyIf may_fail (step.Carry n) (done_or r)
carry-cause may_fail n (Ok done) cause = tt
carry-cause may_fail n (Err why) cause = cause
