-- Whether several lists fit, after the first of them is placed.
use Rattle.std.proofs.Common.{◌≡◌, ℕ, inl, inr, Bool, true, false, List, ◌∷◌, length, map, Option, Some, None, refl, sym, ap, ◌∙◌}
use Rattle.std.specs.Prelude.{is_some}
use Rattle.far_log.specs.RegionState.{RegionState, spaces_of, target_of, fits_in, fit_in_order}
use Rattle.far_log.proofs.RegionStateLaws.{target-takes, spaces-placed}
use Rattle.far_scopes.specs.declared.replacement.Replacement.{Replacement}
use Rattle.far_scopes.specs.Placing.{with_new}
use Rattle.far_scopes.specs.Replacing.{no_space_for_all}
use Rattle.far_scopes.proofs.MemoryPlaces.{cases_option}

not-false : (b : Bool) → (b ≡ false → ⊥) → b ≡ true
not-false true never = refl
not-false false never = absurd (never refl)

none-is-not : {A : Type 0} (o : Option A) → o ≡ None → is_some o ≡ true → ⊥
none-is-not o none some = let never = sym (ap is_some none) ∙ some in cc

module _ {X : Type 0} (state : RegionState X) (list : List X) (ns : List ℕ) where
  fits-placed : (i : ℕ) → target_of state (length list) ≡ Some i → fit_in_order (spaces_of state) (length list ∷ ns) ≡ fit_in_order (spaces_of (with_new state list)) ns
  fits-placed i is = rw is (ap (λ spaces. fit_in_order spaces ns) (sym (spaces-placed state i list (target-takes state (length list) i is).0)))

  pub fits-next : fits_in state (length list) ≡ true → fit_in_order (spaces_of state) (length list ∷ ns) ≡ fit_in_order (spaces_of (with_new state list)) ns
  fits-next fits = elim (cases_option (target_of state (length list))) [
    | inl none ↦ absurd (none-is-not (target_of state (length list)) none fits)
    | inr (i, is) ↦ fits-placed i is
  ]

-- if the first list fits, all lists lack space exactly if the others lack it after the first is placed
pub no_space-next : {X : Type 0} (state between : RegionState X) (r : Replacement X) (rs lists : List (Replacement X)) → lists ≡ r ∷ rs → between ≡ with_new state r.list.items → (fits_in state (length r.list.items) ≡ false → ⊥) → no_space_for_all state lists ≡ no_space_for_all between rs
no_space-next state between r rs lists is placed fits = rw (is, placed, fits-next state r.list.items (map (λ s. length s.list.items) rs) (not-false (fits_in state (length r.list.items)) fits)) refl
