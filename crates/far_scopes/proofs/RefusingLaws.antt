-- What follows if a call is not refused.
use Rattle.std.proofs.Common.{◌≡◌, ℕ, ◌<◌, Bool, true, false, [], ◌∷◌, nat_lt, None, refl, ap}
use Rattle.std.specs.Prelude.{not}
use Rattle.std.proofs.lemmas.Bool.{ltb-true, true_from_ne_false}
use Rattle.far_types.specs.declared.refusal.Refusal.{Refusal}
use Rattle.far_types.specs.FirstOf.{first_of}
use Rattle.far_log.specs.RegionState.{fits_in}
use Rattle.far_scopes.specs.Movement.{Movement, is_local, version_of}
use Rattle.far_scopes.specs.Refusing.{absent, no_space, written_out, write_refusal, lend_refusal, replace_refusal}

pub none-one : (a : Bool) (r : Refusal) → first_of ((a, r) ∷ []) ≡ None → a ≡ false
none-one true r is = cc
none-one false r is = refl

pub none-two : (a b : Bool) (r s : Refusal) → first_of ((a, r) ∷ (b, s) ∷ []) ≡ None → (a ≡ false) × (b ≡ false)
none-two true b r s is = cc
none-two false true r s is = cc
none-two false false r s is = (refl, refl)

pub none-three : (a b c : Bool) (r s t : Refusal) → first_of ((a, r) ∷ (b, s) ∷ (c, t) ∷ []) ≡ None → (a ≡ false) × (c ≡ false)
none-three true b c r s t is = cc
none-three false true c r s t is = cc
none-three false false true r s t is = cc
none-three false false false r s t is = (refl, refl)

pub none-between : (a b c : Bool) (r s t : Refusal) → first_of ((a, r) ∷ (c, t) ∷ []) ≡ None → b ≡ false → first_of ((a, r) ∷ (b, s) ∷ (c, t) ∷ []) ≡ None
none-between a b c r s t free is = rw is free

pub two-none : (a b : Bool) (r s : Refusal) → a ≡ false → b ≡ false → first_of ((a, r) ∷ (b, s) ∷ []) ≡ None
two-none a b r s e f = rw (e, f) refl

pub not-not : (b : Bool) → not b ≡ false → b ≡ true
not-not true is = refl
not-not false is = cc

module _ {X K : Type 0} (m : Movement X K) (o : ℕ) where
  pub local-lent : lend_refusal m o ≡ None → is_local m o ≡ true
  local-lent free = not-not (is_local m o) (none-one (not (is_local m o)) (absent m o).1 free)

  pub local-after_write : write_refusal m o ≡ None → is_local m o ≡ true
  local-after_write free = not-not (is_local m o) (none-two (not (is_local m o)) (written_out m o).0 (absent m o).1 (written_out m o).1 free).0

  pub left-after_write : write_refusal m o ≡ None → version_of m o < m.max_writes
  left-after_write free = ltb-true (version_of m o) m.max_writes (not-not (nat_lt (version_of m o) m.max_writes) (none-two (not (is_local m o)) (written_out m o).0 (absent m o).1 (written_out m o).1 free).1)

  -- a new list that fits
  pub free-placed : (n : ℕ) → write_refusal m o ≡ None → (fits_in m.memory.state n ≡ false → ⊥) → replace_refusal m o n ≡ None
  free-placed n free fits = none-between (absent m o).0 (no_space m o n).0 (written_out m o).0 (absent m o).1 (no_space m o n).1 (written_out m o).1 free (ap not (true_from_ne_false (fits_in m.memory.state n) fits))

module _ {X K : Type 0} (m : Movement X K) (o n : ℕ) (free : replace_refusal m o n ≡ None) where
  pub free-parts : (not (is_local m o) ≡ false) × (not (nat_lt (version_of m o) m.max_writes) ≡ false)
  free-parts = none-three (absent m o).0 (no_space m o n).0 (written_out m o).0 (absent m o).1 (no_space m o n).1 (written_out m o).1 free

  pub local-replaced : is_local m o ≡ true
  local-replaced = not-not (is_local m o) free-parts.0

pub away-is : (b : Bool) → true ≡ not b → b ≡ false
away-is true is = cc
away-is false is = refl
