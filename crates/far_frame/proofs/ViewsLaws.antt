-- Whether the objects of several row groups are local.
use Rattle.std.proofs.Common.{◌≡◌, ℕ, zero, suc, ◌+◌, ◌-◌, ◌/◌, ◌<◌, ◌≤◌, inl, inr, Bool, true, false, List, [], ◌∷◌, ◌++◌, Option, None, Some, refl, sym, ap, ◌∙◌, subst, arith}
use Rattle.std.proofs.Math.Nat.{le-div_iff_mul-le, div-mul-le_self, eq-or-lt_of_le}
use Rattle.std.specs.Prelude.{cond}
use Rattle.std.specs.Option.{option_or}
use Rattle.far_types.specs.declared.refusal.Refusal.{Refusal}
use Rattle.far_types.specs.FirstOf.{first_of}
use Rattle.far_types.specs.Table.{groups}
use Rattle.far_rows.specs.Rows.{Rows}
use Rattle.far_rows.specs.Refusing.{absents}
use Rattle.far_frame.specs.Views.{absents_of}

one-more : (b : Bool) (e : Refusal) (first later : Option Refusal) → cond b (Some e) (option_or first later) ≡ option_or (cond b (Some e) first) later
one-more true e first later = refl
one-more false e first later = refl

first-behind : (cases more : List (Bool × Refusal)) → first_of (cases ++ more) ≡ option_or (first_of cases) (first_of more)
first-behind [] more = refl
first-behind (case ∷ cases) more = ap (cond case.0 (Some case.1)) (first-behind cases more) ∙ one-more case.0 case.1 (first_of cases) (first_of more)

none-first : (first later : Option Refusal) → option_or first later ≡ None → (first ≡ None) × (later ≡ None)
none-first None later free = (refl, free)
none-first (Some e) later free = absurd cc

-- the row group of a place is below the number of row groups
pub group-within : (p size len : ℕ) → 0 < size → p < len → p / size < groups size len
group-within p size len some below =
    let down = div-mul-le_self p size in
    let up : p / size + 1 ≤ (len + size - 1) / size = (le-div_iff_mul-le {k = size} {x = p / size + 1} {y = len + size - 1} some).1 (omega (arith, down)) in
    omega (arith, up)

module _ {K : Type 0} (r : Rows K) where
  -- if a row group is local, the row groups after it decide
  pub here-first : (g count : ℕ) → first_of (absents r g) ≡ None → first_of (absents_of r g (suc count)) ≡ first_of (absents_of r (g + 1) count)
  here-first g count here = first-behind (absents r g) (absents_of r (g + 1) count) ∙ ap (λ o. option_or o (first_of (absents_of r (g + 1) count))) here

  -- if a row group is away, it causes the refusal
  pub away-first : (g count : ℕ) (e : Refusal) → first_of (absents r g) ≡ Some e → first_of (absents_of r g (suc count)) ≡ Some e
  away-first g count e away = first-behind (absents r g) (absents_of r (g + 1) count) ∙ ap (λ o. option_or o (first_of (absents_of r (g + 1) count))) away

  -- if no refusal is due, each row group is local
  pub each-here : (g count : ℕ) → first_of (absents_of r g count) ≡ None → (k : ℕ) → g ≤ k → k < g + count → first_of (absents r k) ≡ None
  each-here g zero free k low high = absurd (omega arith)
  each-here g (suc count) free k low high =
      let parts = none-first (first_of (absents r g)) (first_of (absents_of r (g + 1) count)) (sym (first-behind (absents r g) (absents_of r (g + 1) count)) ∙ free) in
      elim (eq-or-lt_of_le low) [ inl e ↦ subst (λ n. first_of (absents r n) ≡ None) e parts.0 | inr above ↦ each-here (g + 1) count parts.1 k (omega arith) (omega arith) ]
