-- Lists of pairwise disjoint things, after one of them changes.
use Rattle.std.proofs.Common.{◌≡◌, ◌≢◌, ℕ, ◌<◌, inl, inr, List, length, Some, sym, ap, subst, ◌∙◌, arith}
use Rattle.std.specs.Prelude.{All, AllPairs, slice_get, slice_set, slice_index_or}
use Rattle.std.proofs.lemmas.List.{get_or-set_other, get_or-set_same, length-set}
use Rattle.std.proofs.lemmas.Bool.{cases_eq, cases_lt}
use Rattle.std.proofs.lemmas.Option.{slice_get_within, get_or_from_slice_get}

module _ {X : Type 0} (Disjoint : X → X → Type 0) (turned : (x y : X) → Disjoint x y → Disjoint y x) where
  -- two things of the list are disjoint, in either order
  any-disjoint : (xs : List X) → AllPairs Disjoint xs → (j k : ℕ) (d : X) → j ≢ k → j < length xs → k < length xs → Disjoint (slice_index_or xs j d) (slice_index_or xs k d)
  any-disjoint xs disjoint j k d ne inside within = elim (cases_lt j k) [
    | inl below ↦ disjoint j k d below within
    | inr above ↦ turned (slice_index_or xs k d) (slice_index_or xs j d) (disjoint k j d (omega (arith, above, λ (e : k ≡ j). ne (sym e))) inside)
  ]

  module _ (Was Is : X → Type 0) (xs : List X) (each : All Was xs) (disjoint : AllPairs Disjoint xs) (k : ℕ) (x x' : X) (at : slice_get xs k ≡ Some x) (is : Is x') (others : (y : X) → Was y → Disjoint x y → Is y × Disjoint x' y) where
    inside : k < length xs
    inside = slice_get_within xs k x at

    was : (d : X) → slice_index_or xs k d ≡ x
    was d = get_or_from_slice_get xs k x d at

    here : (j : ℕ) (d : X) → j ≡ k → slice_index_or (slice_set xs k x') j d ≡ x'
    here j d same = ap (λ i. slice_index_or (slice_set xs k x') i d) same ∙ get_or-set_same xs k x' d inside

    pub other : (j : ℕ) (d : X) → j ≢ k → slice_index_or (slice_set xs k x') j d ≡ slice_index_or xs j d
    other j d ne = get_or-set_other xs k j x' d ne

    pub was-all_disjoint : (j : ℕ) (d : X) → j ≢ k → j < length xs → Disjoint x (slice_index_or xs j d)
    was-all_disjoint j d ne within = subst (λ y. Disjoint y (slice_index_or xs j d)) (was d) (any-disjoint xs disjoint k j d (λ e. ne (sym e)) inside within)

    all_disjoint : (j : ℕ) (d : X) → j ≢ k → j < length xs → Is (slice_index_or xs j d) × Disjoint x' (slice_index_or xs j d)
    all_disjoint j d ne within = others (slice_index_or xs j d) (each j d within) (was-all_disjoint j d ne within)

    still : (j : ℕ) → j < length (slice_set xs k x') → j < length xs
    still j within = subst (λ n. j < n) (length-set xs k x') within

    pub each-after : All Is (slice_set xs k x')
    each-after j d within = elim (cases_eq j k) [
      | inl same ↦ subst Is (sym (here j d same)) is
      | inr ne ↦ subst Is (sym (other j d ne)) (all_disjoint j d ne (still j within)).0
    ]

    pub disjoint-after : AllPairs Disjoint (slice_set xs k x')
    disjoint-after i j d below within = elim (cases_eq i k) [
      | inl same ↦
          let ne : j ≢ k = λ e. omega (arith, below, same, e) in
          subst (λ y. Disjoint y (slice_index_or (slice_set xs k x') j d)) (sym (here i d same)) (subst (Disjoint x') (sym (other j d ne)) (all_disjoint j d ne (still j within)).1)
      | inr ne ↦ elim (cases_eq j k) [
        | inl same ↦ subst (λ y. Disjoint y (slice_index_or (slice_set xs k x') j d)) (sym (other i d ne)) (subst (Disjoint (slice_index_or xs i d)) (sym (here j d same)) (turned x' (slice_index_or xs i d) (all_disjoint i d ne (omega (arith, below, still j within))).1))
        | inr nj ↦ subst (λ y. Disjoint y (slice_index_or (slice_set xs k x') j d)) (sym (other i d ne)) (subst (Disjoint (slice_index_or xs i d)) (sym (other j d nj)) (disjoint i j d below (still j within)))
      ]
    ]
