-- A clean object that is local has its list in the far store too.
use Rattle.std.proofs.Common.{◌≡◌, ℕ, false, inl, inr, List, Option, Some, None, refl, sym, ap, subst, ◌∙◌}
use Rattle.std.specs.Prelude.{option_map, IfSome, IsSomeAnd}
use Rattle.std.specs.Option.{option_or}
use Rattle.far_scopes.specs.Memory.{list_in}
use Rattle.far_scopes.specs.Movement.{Movement, word_of, record_of, dirty, ticket_of, AreClean, AreTracked}
use Rattle.far_scopes.proofs.MemoryPlaces.{cases_option}

module _ {X K : Type 0} (meaning : List ℕ → List X) (content : K → List ℕ) (spelled : List X → List ℕ → Type 0) where
  copied-one : (ticket : Option K) (list : List X) → Some list ≡ option_map (λ k. meaning (content k)) ticket → IfSome ticket (λ k. spelled (meaning (content k)) (content k)) → IsSomeAnd ticket (λ k. spelled list (content k))
  copied-one None list is far = cc
  copied-one (Some k) list is far = (let same : list ≡ meaning (content k) = cc in subst (λ l. spelled l (content k)) (sym same) far)

  pub copied : (m : Movement X K) → AreTracked meaning content spelled m → AreClean meaning content m → (o : ℕ) (list : List X) → dirty m o ≡ false → list_in m.memory o ≡ Some list → IsSomeAnd (ticket_of m o) (λ k. spelled list (content k))
  copied m tracked clean o list is here =
      let stated : Some list ≡ option_map (λ k. meaning (content k)) (ticket_of m o) = sym (ap (λ l. option_or l (option_map (λ k. meaning (content k)) (ticket_of m o))) here) ∙ clean o is in
      elim (cases_option (record_of m o)) [
        | inl none ↦ absurd (let never : Some list ≡ None = stated ∙ rw none refl in cc)
        | inr (object_record, e) ↦ elim (cases_option (word_of m o)) [
          | inl none ↦ absurd (let never : Some list ≡ None = sym here ∙ rw none refl in cc)
          | inr (word, w) ↦ rw e (copied-one object_record.ticket list (stated ∙ rw e refl) (tracked.each o word object_record w e).far)
        ]
      ]
