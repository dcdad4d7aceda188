-- The numbers of objects that have lists are in use.
use Rattle.std.proofs.Common.{◌≡◌, ℕ, zero, suc, ◌<◌, ◌≤◌, ◌-◌, List, length, get_or, None, inl, inr, refl, subst, arith}
use Rattle.std.specs.Prelude.{All, AllPairs, IsSomeAnd}
use Rattle.std.proofs.lemmas.Bool.{cases_lt}
use Rattle.std.proofs.lemmas.Option.{slice_get_past}
use Rattle.far_scopes.specs.Movement.{Movement, list_of, AreTracked}

module _ {X K : Type 0} (meaning : List ℕ → List X) (content : K → List ℕ) (spelled : List X → List ℕ → Type 0) (m : Movement X K) (tracked : AreTracked meaning content spelled m) where
  none-past : (o : ℕ) → length m.records ≤ o → list_of meaning content m o ≡ None
  none-past o past =
      let words = slice_get_past m.memory.words o (omega (arith, tracked.same_length, past)) in
      let records = slice_get_past m.records o past in
      rw (words, records) refl

  -- an object that has a list is in use
  pub in-use : (o : ℕ) (P : List X → Type 0) → IsSomeAnd (list_of meaning content m o) P → o < length m.records
  in-use o P has = elim (cases_lt o (length m.records)) [
    | inl within ↦ within
    | inr past ↦ absurd (subst (λ list. IsSomeAnd list P) (none-past o past) has)
  ]

-- ascending numbers are at least their indexes
climbs : (objects : List ℕ) → AllPairs (λ o p. o < p) objects → (k : ℕ) → k < length objects → k ≤ get_or objects k 0
climbs objects sorted zero within = omega arith
climbs objects sorted (suc k) within = omega (arith, climbs objects sorted k (omega arith), sorted k (suc k) 0 (omega arith) within)

-- so there are at most n ascending numbers below n
pub bounded-sorted : (objects : List ℕ) (n : ℕ) → AllPairs (λ o p. o < p) objects → All (λ o. o < n) objects → length objects ≤ n
bounded-sorted objects n sorted below = elim (cases_lt 0 (length objects)) [
  | inl some ↦ (let last = below (length objects - 1) 0 (omega arith) in omega (arith, last, climbs objects sorted (length objects - 1) (omega arith)))
  | inr none ↦ omega arith
]
