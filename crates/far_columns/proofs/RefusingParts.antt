-- Parts of a vector whose row groups are local.
use Rattle.std.proofs.Common.{◌≡◌, ℕ, ◌+◌, ◌-◌, ◌*◌, ◌/◌, ◌<◌, ◌≤◌, min, Bool, true, false, cond, [], ◌∷◌, length, take, drop, nat_lt, Option, Some, None, inl, inr, refl, sym, ap, ◌∙◌, arith}
use Rattle.std.specs.Option.{option_or}
use Rattle.std.proofs.lemmas.Bool.{cases_lt, ltb-false, le-ltb, or_parts, or_from, and_right, eq-eqb, not_from_true}
use Rattle.std.proofs.lemmas.List.{drop_more}
use Rattle.far_types.specs.declared.refusal.Refusal.{Refusal}
use Rattle.far_types.specs.FirstOf.{first_of}
use Rattle.far_scopes.specs.Movement.{Movement, is_local}
use Rattle.far_scopes.specs.Refusing.{absent, first_absent}
use Rattle.far_columns.specs.Vector.{Vector, IsShaped, object_at}
use Rattle.far_columns.specs.Pieces.{first_overlapped, overlapped_count}
use Rattle.far_columns.specs.Refusing.{no_range, crosses, unless_empty, part_refusal, pieces_refusal}
use Rattle.far_columns.proofs.VectorLaws.{group-within}
use Rattle.far_columns.proofs.PiecesLaws.{g-low, further, one-group, count-step, overlapped-last, next-group, next-count}

option_or-none : {A : Type 0} (a b : Option A) → option_or a b ≡ None → (a ≡ None) × (b ≡ None)
option_or-none None b is = (refl, is)
option_or-none (Some x) b is = cc

none-one : (a : Bool) (r : Refusal) → first_of ((a, r) ∷ []) ≡ None → a ≡ false
none-one true r is = cc
none-one false r is = refl

none-left : (b : Bool) (rest : Option Refusal) (r : Refusal) → cond b rest (Some r) ≡ None → (b ≡ true) × (rest ≡ None)
none-left true rest r is = (refl, is)
none-left false rest r is = cc

three-free : (a b c : Bool) (r s t : Refusal) → a ≡ false → b ≡ false → c ≡ false → first_of ((a, r) ∷ (b, s) ∷ (c, t) ∷ []) ≡ None
three-free a b c r s t e f g = rw (e, f, g) refl

one-free : (a : Bool) (r : Refusal) (rest : Option Refusal) → a ≡ false → rest ≡ None → option_or (first_of ((a, r) ∷ [])) rest ≡ None
one-free a r rest e f = rw (e, f) refl

in-range : {X : Type 0} (v : Vector X) (from to : ℕ) → from ≤ to → to ≤ v.len → (no_range v from to).0 ≡ false
in-range v from to low within = or_from (nat_lt to from) (nat_lt v.len to) (le-ltb to from low) (le-ltb v.len to within)

module _ {X K : Type 0} (m : Movement X K) (v : Vector X) (from to : ℕ) (free : pieces_refusal m v from to ≡ None) where
  parts : (first_of (no_range v from to ∷ []) ≡ None) × (first_absent m (take (overlapped_count v.size from to) (drop (first_overlapped v.size from) v.objects)) ≡ None)
  parts = option_or-none (first_of (no_range v from to ∷ [])) (first_absent m (take (overlapped_count v.size from to) (drop (first_overlapped v.size from) v.objects))) free

  pub range-free : (from ≤ to) × (to ≤ v.len)
  range-free =
      let both = or_parts (nat_lt to from) (nat_lt v.len to) (none-one (no_range v from to).0 (no_range v from to).1 parts.0) in
      (ltb-false to from both.0, ltb-false v.len to both.1)

  module _ (shaped : IsShaped v) (more : from < to) where
    below : from / v.size < length v.objects
    below = group-within v shaped from (omega (arith, more, range-free.1, shaped.enough))

    abbrev left : ℕ
    left = (to - 1) / v.size - from / v.size

    listed : take (overlapped_count v.size from to) (drop (from / v.size) v.objects) ≡ object_at v from ∷ take left (drop (from / v.size + 1) v.objects)
    listed = rw (count-step v.size shaped.some from to more, drop_more v.objects (from / v.size) 0 below) refl

    both : (is_local m (object_at v from) ≡ true) × (first_absent m (take left (drop (from / v.size + 1) v.objects)) ≡ None)
    both = none-left (is_local m (object_at v from)) (first_absent m (take left (drop (from / v.size + 1) v.objects))) (absent m (object_at v from)).1 (sym (ap (first_absent m) listed) ∙ parts.1)

    -- the first piece may be lent
    pub part-free : part_refusal m v from (min to ((from / v.size + 1) * v.size)) ≡ None
    part-free =
        let stop : ℕ = min to ((from / v.size + 1) * v.size) in
        three-free (no_range v from (min to ((from / v.size + 1) * v.size))).0 (crosses v from (min to ((from / v.size + 1) * v.size))).0 (unless_empty from (min to ((from / v.size + 1) * v.size)) (absent m (object_at v from))).0
        (no_range v from stop).1 (crosses v from stop).1 (absent m (object_at v from)).1
        (in-range v from (min to ((from / v.size + 1) * v.size)) (omega (arith, further v.size shaped.some from to more)) (omega (arith, range-free.1)))
        (and_right _ _ (not_from_true _ (eq-eqb (from / v.size) ((min to ((from / v.size + 1) * v.size) - 1) / v.size) (one-group v.size shaped.some from to more))))
        (and_right _ _ (not_from_true (is_local m (object_at v from)) both.0))

    -- the rest, after the first piece, may be lent
    pub next-free : pieces_refusal m v (min to ((from / v.size + 1) * v.size)) to ≡ None
    next-free =
        one-free (no_range v (min to ((from / v.size + 1) * v.size)) to).0 (no_range v from to).1 (first_absent m (take (overlapped_count v.size (min to ((from / v.size + 1) * v.size)) to) (drop (first_overlapped v.size (min to ((from / v.size + 1) * v.size))) v.objects)))
        (in-range v (min to ((from / v.size + 1) * v.size)) to (omega arith) range-free.1)
        (elim (cases_lt (from / v.size) ((to - 1) / v.size)) [
          | inl later ↦ rw (next-count v.size shaped.some from to more later, next-group v.size shaped.some from to more later) both.1
          | inr past ↦ (
              let same : (to - 1) / v.size ≡ from / v.size = omega (arith, past, g-low v.size shaped.some from to more) in
              rw (overlapped-last v.size shaped.some from to more same, le-ltb to to (omega arith)) refl)
        ])
