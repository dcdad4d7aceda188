-- The search for the eviction victim, from the end of the order of use.
use Rattle.std.proofs.Common.{◌≡◌, ◌≢◌, ℕ, ◌<◌, ◌||◌, ◌&&◌, nat_eq, length, subst, not, Bool, true, false, inl, inr, List, [], ◌∷◌, ◌++◌, Option, Some, None, reverse, refl, sym, ap, ◌∙◌}
use Rattle.std.specs.Prelude.{◌↔◌, IfSome}
use Rattle.std.specs.Option.{option_or}
use Rattle.std.specs.List.{find}
use Rattle.std.proofs.lemmas.List.{append_assoc}
use Rattle.std.proofs.Math.Bool.{or_comm}
use Rattle.std.proofs.lemmas.Bool.{eq-eqb, eqb-true}
use Rattle.std.proofs.lemmas.List.Folds.{list_any-append}
use Rattle.far_scopes.specs.Recency.{has}
use Rattle.far_scopes.specs.Memory.{place_of}
use Rattle.far_scopes.specs.Movement.{Movement, hot, pins_of, is_local, AreTracked}
use Rattle.far_scopes.specs.Cool.{cool_in}
use Rattle.far_scopes.specs.Coldest.{is_unpinned, is_cold, coldest}
use Rattle.far_scopes.proofs.MemoryPlaces.{cases_option}
use Rattle.far_scopes.proofs.RecencyLaws.{has-cons_same}
use Rattle.far_scopes.proofs.MemoryWordPlaces.{place-within, some-true}
use Rattle.far_scopes.proofs.RecencySearch.{has-reverse, found-is, found-none}
use Rattle.far_scopes.proofs.CoolLaws.{all-hot}

module _ {X K : Type 0} (m : Movement X K) where
  -- the victim, when this rest of the order is still to be searched, `found` is the first object without pins in the searched part, and no
  -- object there is cold
  abbrev pub coldest_in : Option ℕ → List ℕ → Option ℕ
  coldest_in found order = option_or (find (is_cold m) (reverse order)) (option_or found (find (is_unpinned m) (reverse order)))

  -- if the rest is empty, the victim is `found`
  pub coldest-none : (found : Option ℕ) → coldest_in found [] ≡ found
  coldest-none None = refl
  coldest-none (Some o) = refl

  -- the victim is local and has no pin, and there is one exactly if a local object has no pin
  module _ (ordered : (o : ℕ) → has m.order o ≡ is_local m o) where
    local-has : (o : ℕ) → has (reverse m.order) o ≡ is_local m o
    local-has o = has-reverse m.order o ∙ ordered o

    and-first : (a b : Bool) → a && b ≡ true → a ≡ true
    and-first true b both = refl
    and-first false b both = cc

    and-not : (a b : Bool) → a ≡ false → a && b ≡ false
    and-not true b is = cc
    and-not false b is = refl

    coldest-is : (o : ℕ) → coldest m ≡ Some o → (is_local m o ≡ true) × (pins_of m o ≡ 0)
    coldest-is o is = elim (cases_option (find (is_cold m) (reverse m.order))) [
      | inl none ↦
          let found = found-is (is_unpinned m) (reverse m.order) o (sym (rw none refl) ∙ is) in
          (sym (local-has o) ∙ found.1, eqb-true (pins_of m o) 0 found.0)
      | inr (p, some) ↦
          let same : Some p ≡ Some o = sym (rw some refl) ∙ is in
          let found = found-is (is_cold m) (reverse m.order) o (some ∙ same) in
          (sym (local-has o) ∙ found.1, eqb-true (pins_of m o) 0 (and-first (is_unpinned m o) (not (hot m o)) found.0))
    ]

    exactly : (coldest m ≡ None) ↔ ((o : ℕ) → is_local m o ≡ true → pins_of m o ≢ 0)
    exactly = (none-is, none-if)
      where
        none-is : coldest m ≡ None → (o : ℕ) → is_local m o ≡ true → pins_of m o ≢ 0
        none-is none o local unpinned =
            let free : is_unpinned m o ≡ true = eq-eqb (pins_of m o) 0 unpinned in
            elim (cases_option (find (is_cold m) (reverse m.order))) [
              | inl cold ↦ (let not_free = found-none (is_unpinned m) (reverse m.order) (sym (rw cold refl) ∙ none) o (local-has o ∙ local) in let both = sym free ∙ not_free in cc)
              | inr (p, some) ↦ (let e : Some p ≡ None = sym (rw some refl) ∙ none in cc)
            ]

        none-if : ((o : ℕ) → is_local m o ≡ true → pins_of m o ≢ 0) → coldest m ≡ None
        none-if pinned = elim (cases_option (coldest m)) [
          | inl none ↦ none
          | inr (o, is) ↦ absurd (pinned o (coldest-is o is).0 (coldest-is o is).1)
        ]

    not-hot : (a b : Bool) → a && not b ≡ true → b ≡ true → ⊥
    not-hot true true both is = cc
    not-hot true false both is = cc
    not-hot false b both is = cc

    -- if each local object is hot, the victim is the last object without pins
    pub coldest-hot : cool_in m.memory.words ≡ 0 → coldest m ≡ find (is_unpinned m) (reverse m.order)
    coldest-hot none = elim (cases_option (find (is_cold m) (reverse m.order))) [
      | inl nothing ↦ rw nothing refl
      | inr (p, some) ↦ absurd (
          let found = found-is (is_cold m) (reverse m.order) p some in
          not-hot (is_unpinned m p) (hot m p) found.0 (all-hot m.memory.words p none (sym (local-has p) ∙ found.1))
          )
    ]

    pub coldest-local : (found : Option ℕ) → coldest m ≡ found → IfSome found (λ o. is_local m o ≡ true)
    coldest-local None is = tt
    coldest-local (Some o) is = (coldest-is o is).0

    pub coldest-unpinned : (found : Option ℕ) → coldest m ≡ found → IfSome found (λ o. pins_of m o ≡ 0)
    coldest-unpinned None is = tt
    coldest-unpinned (Some o) is = (coldest-is o is).1

    pub coldest-exactly : (found : Option ℕ) → coldest m ≡ found → (found ≡ None) ↔ ((o : ℕ) → is_local m o ≡ true → pins_of m o ≢ 0)
    coldest-exactly found is = subst (λ (f : Option ℕ). (f ≡ None) ↔ ((o : ℕ) → is_local m o ≡ true → pins_of m o ≢ 0)) is exactly

  -- one step of the search, which takes the last object of the rest
  module _ (left rest visited : List ℕ) (o : ℕ) (step : left ≡ rest ++ o ∷ []) where
    pub order-step : m.order ≡ left ++ visited → m.order ≡ rest ++ o ∷ visited
    order-step is = is ∙ ap (λ l. l ++ visited) step ∙ append_assoc rest (o ∷ []) visited

    -- the number of the taken object is in use
    pub last-within : {meaning : List ℕ → List X} {content : K → List ℕ} {spelled : List X → List ℕ → Type 0} → AreTracked meaning content spelled m → m.order ≡ left ++ visited → o < length m.records
    last-within tracked is =
        let there : has m.order o ≡ true = ap (λ l. has l o) (order-step is) ∙ list_any-append (λ p. nat_eq o p) rest (o ∷ visited) ∙ ap (λ b. has rest o || b) (has-cons_same visited o) ∙ or_comm (has rest o) true in
        subst (λ n. o < n) (sym tracked.same_length) (place-within m.memory.words o (some-true (place_of m.memory.words o) (sym (tracked.ordered o) ∙ there)))
