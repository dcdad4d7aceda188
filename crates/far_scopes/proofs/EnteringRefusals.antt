-- Listed objects that are pinned one after another: the refusal that the remaining objects cause.
use Rattle.std.proofs.Common.{◌≡◌, ℕ, ◌+◌, Bool, true, false, inl, inr, List, [], ◌∷◌, cond, Option, Some, None, refl, ap, ◌∙◌}
use Rattle.std.specs.Prelude.{not, ◌==◌, slice_get}
use Rattle.std.proofs.lemmas.Bool.{cases_eq}
use Rattle.std.proofs.lemmas.Option.{slice_get_within}
use Rattle.far_types.specs.declared.refusal.Refusal.{Refusal}
use Rattle.far_types.specs.declared.refusal.Refusal.TheVariants as refusal
use Rattle.far_scopes.specs.Movement.{Movement, is_local, pins_of}
use Rattle.far_scopes.specs.Refusing.{absent, pin_refusal, first_absent}
use Rattle.far_scopes.specs.Effects.{after_pin}
use Rattle.far_scopes.specs.Entering.{pins_overflow}
use Rattle.far_scopes.proofs.MemoryPlaces.{cases_option}
use Rattle.far_scopes.proofs.MemoryWordPlaces.{slice_get-set_same, slice_get-set_other}

none-left : (b : Bool) (rest : Option Refusal) (r : Refusal) → cond b rest (Some r) ≡ None → (b ≡ true) × (rest ≡ None)
none-left true rest r is = (refl, is)
none-left false rest r is = cc

err-stays : (b : Bool) (rest : Option Refusal) (r given : Refusal) → Some given ≡ cond b (Some r) None → Some given ≡ cond b (Some r) rest
err-stays true rest r given is = is
err-stays false rest r given is = cc

ok-goes : (b : Bool) (rest : Option Refusal) (r : Refusal) → None ≡ cond b (Some r) None → cond b (Some r) rest ≡ rest
ok-goes true rest r is = cc
ok-goes false rest r is = refl

module _ {X K : Type 0} where
  -- a pin changes no name
  absent-after_pin : (m : Movement X K) (o p : ℕ) → (absent (after_pin m o) p).1 ≡ (absent m p).1
  absent-after_pin m o p = elim (cases_option (slice_get m.records o)) [
    | inl none ↦ rw none refl
    | inr (object_record, is) ↦ elim (cases_eq p o) [
      | inl same ↦ rw (same, is, slice_get-set_same m.records o record object_record { pins = object_record.pins + 1 } (slice_get_within m.records o object_record is)) refl
      | inr ne ↦ rw (is, slice_get-set_other m.records o p record object_record { pins = object_record.pins + 1 } ne) refl
    ]
  ]

  pub first_absent-after_pin : (m : Movement X K) (o : ℕ) (objects : List ℕ) → first_absent (after_pin m o) objects ≡ first_absent m objects
  first_absent-after_pin m o [] = refl
  first_absent-after_pin m o (p ∷ objects) = rw (first_absent-after_pin m o objects, absent-after_pin m o p) refl

  module _ (m : Movement X K) (o : ℕ) (rest : List ℕ) where
    pub first-local : first_absent m (o ∷ rest) ≡ None → (is_local m o ≡ true) × (first_absent m rest ≡ None)
    first-local free = none-left (is_local m o) (first_absent m rest) (absent m o).1 free

    pub overflow-now : (given : Refusal) → is_local m o ≡ true → Some given ≡ pin_refusal m o → Some given ≡ pins_overflow m (o ∷ rest)
    overflow-now given local is = err-stays (pins_of m o == 65535) (pins_overflow (after_pin m o) rest) refusal.EditsUsedUp given (is ∙ ap (λ b. cond (not b) (Some (absent m o).1) (cond (pins_of m o == 65535) (Some refusal.EditsUsedUp) None)) local)

    pub overflow-later : is_local m o ≡ true → None ≡ pin_refusal m o → pins_overflow m (o ∷ rest) ≡ pins_overflow (after_pin m o) rest
    overflow-later local is = ok-goes (pins_of m o == 65535) (pins_overflow (after_pin m o) rest) refusal.EditsUsedUp (is ∙ ap (λ b. cond (not b) (Some (absent m o).1) (cond (pins_of m o == 65535) (Some refusal.EditsUsedUp) None)) local)
