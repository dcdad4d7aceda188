-- What follows if borrowing a part, or setting an element, is not refused.
use Rattle.std.proofs.Common.{◌≡◌, ℕ, ◌-◌, ◌/◌, ◌<◌, ◌≤◌, Bool, true, false, [], ◌∷◌, nat_lt, None, refl}
use Rattle.std.specs.Prelude.{◌==◌, ◌&&◌, not}
use Rattle.std.proofs.lemmas.Bool.{ltb-true, ltb-false, or_parts, lt-ltb, eqb-true, not-false}
use Rattle.far_types.specs.declared.refusal.Refusal.{Refusal}
use Rattle.far_types.specs.FirstOf.{first_of}
use Rattle.far_scopes.specs.Movement.{Movement}
use Rattle.far_scopes.specs.Refusing.{absent, written_out, write_refusal, lend_refusal}
use Rattle.far_columns.specs.Vector.{Vector, object_at}
use Rattle.far_columns.specs.Refusing.{past_end, no_range, crosses, is_empty, unless_empty, set_refusal, write_part_refusal}

free-two : (a b : Bool) (r s : Refusal) → None ≡ first_of ((a, r) ∷ (b, s) ∷ []) → (a ≡ false) × (b ≡ false)
free-two true b r s is = cc
free-two false true r s is = cc
free-two false false r s is = (refl, refl)

free-four : (a b c d : Bool) (r s t u : Refusal) → first_of ((a, r) ∷ (b, s) ∷ (c, t) ∷ (d, u) ∷ []) ≡ None → (a ≡ false) × (b ≡ false) × (c ≡ false) × (d ≡ false)
free-four true b c d r s t u is = cc
free-four false true c d r s t u is = cc
free-four false false true d r s t u is = cc
free-four false false false true r s t u is = cc
free-four false false false false r s t u is = (refl, refl, refl, refl)

free-three : (a b c : Bool) (r s t : Refusal) → first_of ((a, r) ∷ (b, s) ∷ (c, t) ∷ []) ≡ None → (a ≡ false) × (b ≡ false) × (c ≡ false)
free-three true b c r s t is = cc
free-three false true c r s t is = cc
free-three false false true r s t is = cc
free-three false false false r s t is = (refl, refl, refl)

two-free : (a b : Bool) (r s : Refusal) → a ≡ false → b ≡ false → first_of ((a, r) ∷ (b, s) ∷ []) ≡ None
two-free a b r s e f = rw (e, f) refl

there-if : (from to : ℕ) (b : Bool) → from < to → (not (is_empty from to) && b) ≡ false → b ≡ false
there-if from to b some is = let e : nat_lt from to ≡ true = lt-ltb from to some in rw e at is

module _ {X : Type 0} (v : Vector X) (from to : ℕ) where
  pub within-checked : None ≡ first_of (no_range v from to ∷ crosses v from to ∷ []) → (from ≤ to) × (to ≤ v.len)
  within-checked free =
      let parts = or_parts (nat_lt to from) (nat_lt v.len to) (free-two (no_range v from to).0 (crosses v from to).0 (no_range v from to).1 (crosses v from to).1 free).0 in
      (ltb-false to from parts.0, ltb-false v.len to parts.1)

  pub group-checked : None ≡ first_of (no_range v from to ∷ crosses v from to ∷ []) → from < to → from / v.size ≡ (to - 1) / v.size
  group-checked free some =
      eqb-true (from / v.size) ((to - 1) / v.size) (not-false (from / v.size == (to - 1) / v.size) (there-if from to _ some (free-two (no_range v from to).0 (crosses v from to).0 (no_range v from to).1 (crosses v from to).1 free).1))

  module _ {K : Type 0} (m : Movement X K) (free : write_part_refusal m v from to ≡ None) (some : from < to) where
    parts : ((no_range v from to).0 ≡ false) × ((crosses v from to).0 ≡ false) × ((unless_empty from to (absent m (object_at v from))).0 ≡ false) × ((unless_empty from to (written_out m (object_at v from))).0 ≡ false)
    parts = free-four (no_range v from to).0 (crosses v from to).0 (unless_empty from to (absent m (object_at v from))).0 (unless_empty from to (written_out m (object_at v from))).0 (no_range v from to).1 (crosses v from to).1 (absent m (object_at v from)).1 (written_out m (object_at v from)).1 free

    pub within-written : to ≤ v.len
    within-written = ltb-false v.len to (or_parts (nat_lt to from) (nat_lt v.len to) parts.0).1

    pub group-written : from / v.size ≡ (to - 1) / v.size
    group-written = eqb-true (from / v.size) ((to - 1) / v.size) (not-false (from / v.size == (to - 1) / v.size) (there-if from to _ some parts.1))

    pub free-written : write_refusal m (object_at v from) ≡ None
    free-written = two-free (absent m (object_at v from)).0 (written_out m (object_at v from)).0 (absent m (object_at v from)).1 (written_out m (object_at v from)).1 (there-if from to _ some parts.2) (there-if from to _ some parts.3)

-- an element that may be set exists, and its object may be written
module _ {X K : Type 0} (m : Movement X K) (v : Vector X) (i : ℕ) (free : set_refusal m v i ≡ None) where
  set-parts : ((past_end v i).0 ≡ false) × ((absent m (object_at v i)).0 ≡ false) × ((written_out m (object_at v i)).0 ≡ false)
  set-parts = free-three (past_end v i).0 (absent m (object_at v i)).0 (written_out m (object_at v i)).0 (past_end v i).1 (absent m (object_at v i)).1 (written_out m (object_at v i)).1 free

  pub place-set : i < v.len
  place-set = ltb-true i v.len (not-false (nat_lt i v.len) set-parts.0)

  pub free-set : write_refusal m (object_at v i) ≡ None
  free-set = two-free (absent m (object_at v i)).0 (written_out m (object_at v i)).0 (absent m (object_at v i)).1 (written_out m (object_at v i)).1 set-parts.1 set-parts.2

one-free : (a b : Bool) (r s : Refusal) → first_of ((a, r) ∷ (b, s) ∷ []) ≡ None → first_of ((a, r) ∷ []) ≡ None
one-free true b r s is = cc
one-free false b r s is = refl

-- an object that may be written is local, so it may be lent
pub lent-written : {X K : Type 0} (m : Movement X K) (o : ℕ) → write_refusal m o ≡ None → lend_refusal m o ≡ None
lent-written m o free = one-free (absent m o).0 (written_out m o).0 (absent m o).1 (written_out m o).1 free
