-- An order of use of objects below a bound has all of them exactly if its length is the bound.
use Rattle.std.proofs.Common.{◌≡◌, ℕ, zero, suc, ◌<◌, ◌≤◌, true, false, inl, inr, List, [], ◌∷◌, length, sym, ap, subst, ◌∙◌, arith}
use Rattle.std.specs.Prelude.{◌↔◌}
use Rattle.std.proofs.lemmas.Bool.{cases_eq, cases_Bool}
use Rattle.far_scopes.specs.Recency.{has, without, Once}
use Rattle.far_scopes.specs.Memory.{place_of}
use Rattle.far_scopes.specs.Movement.{Movement, is_local, AreTracked}
use Rattle.far_scopes.proofs.RecencyLaws.{has-cons_same, has-cons_other, has-without_other, has-without_same, once-without}
use Rattle.far_scopes.proofs.RecencyUses.{length-without}
use Rattle.far_scopes.proofs.MemoryWordPlaces.{place-within, some-true}

-- an order of objects below a bound is at most as long as the bound
at-most : (n : ℕ) (order : List ℕ) → Once order → ((p : ℕ) → has order p ≡ true → p < n) → length order ≤ n
at-most zero [] once below = omega arith
at-most zero (q ∷ order) once below = omega (arith, below q (has-cons_same order q))
at-most (suc n) order once below = elim (cases_Bool (has order n)) [
  | inl there ↦
      let rest = at-most n (without order n) (once-without order n once) (λ p left. elim (cases_eq p n) [
        | inl same ↦ (let wrong : true ≡ false = sym left ∙ ap (has (without order n)) same ∙ has-without_same order n once in absurd cc)
        | inr ne ↦ omega (arith, ne, below p (sym (has-without_other order n p ne) ∙ left))
      ]) in
      omega (arith, rest, length-without order n there)
  | inr gone ↦
      let rest = at-most n order once (λ p there. elim (cases_eq p n) [
        | inl same ↦ (let wrong : true ≡ false = sym there ∙ ap (has order) same ∙ gone in absurd cc)
        | inr ne ↦ omega (arith, ne, below p there)
      ]) in
      omega (arith, rest)
]

-- an order of that length has each object below the bound
each-there : (n : ℕ) (order : List ℕ) → Once order → ((p : ℕ) → has order p ≡ true → p < n) → length order ≡ n → (o : ℕ) → o < n → has order o ≡ true
each-there n order once below full o within = elim (cases_Bool (has order o)) [
  | inl there ↦ there
  | inr gone ↦
      let more = at-most n (o ∷ order) (gone, once) (λ p there. elim (cases_eq p o) [
        | inl same ↦ subst (λ q. q < n) (sym same) within
        | inr ne ↦ below p (sym (has-cons_other order o p ne) ∙ there)
      ]) in
      absurd (omega (arith, more, full))
]

-- an order that has each object below the bound is at least as long as the bound
at-least : (n : ℕ) (order : List ℕ) → ((o : ℕ) → o < n → has order o ≡ true) → n ≤ length order
at-least zero order each = omega arith
at-least (suc n) order each =
    let there = each n (omega arith) in
    let rest = at-least n (without order n) (λ o within. has-without_other order n o (λ e. omega (arith, within, e)) ∙ each o (omega (arith, within))) in
    omega (arith, rest, length-without order n there)

module _ {X K : Type 0} (meaning : List ℕ → List X) (content : K → List ℕ) (spelled : List X → List ℕ → Type 0) (m : Movement X K) (tracked : AreTracked meaning content spelled m) where
  below : (o : ℕ) → has m.order o ≡ true → o < length m.records
  below o there = subst (λ n. o < n) (sym tracked.same_length) (place-within m.memory.words o (some-true (place_of m.memory.words o) (sym (tracked.ordered o) ∙ there)))

  -- every object is local exactly if the order of use is as long as the list of records
  pub all-local : (length m.order ≡ length m.records) ↔ ((o : ℕ) → o < length m.records → is_local m o ≡ true)
  all-local = (each-local, as-many)
    where
      each-local : length m.order ≡ length m.records → (o : ℕ) → o < length m.records → is_local m o ≡ true
      each-local full o within = sym (tracked.ordered o) ∙ each-there (length m.records) m.order tracked.once below full o within

      as-many : ((o : ℕ) → o < length m.records → is_local m o ≡ true) → length m.order ≡ length m.records
      as-many local =
          let low = at-least (length m.records) m.order (λ o within. tracked.ordered o ∙ local o within) in
          let high = at-most (length m.records) m.order tracked.once below in
          omega (arith, low, high)
