-- An object takes over the location of another object, which is removed.
use Rattle.std.proofs.Common.{◌≡◌, ◌≢◌, ℕ, ◌⊎◌, inl, inr, List, Option, Some, None, IsSome, sym, ap, subst, ◌∙◌}
use Rattle.std.specs.Option.{option_and_then}
use Rattle.std.proofs.lemmas.Bool.{cases_eq}
use Rattle.far_pointer.specs.declared.pointer.At.{At}
use Rattle.far_scopes.specs.Memory.{OwnPlaces}
use Rattle.far_scopes.proofs.MemoryPlaces.{cases_At, same_some, none_or_some, not_some, cases_option}

module _ {X : Type 0} (place place' : ℕ → Option At) (part part' : At → Option (List X)) (own : OwnPlaces place part)
    (o last : ℕ) (other : o ≢ last) (at to : At) (was : place o ≡ Some at) (lay : place last ≡ Some to)
    (is : place' o ≡ Some to) (gone : place' last ≡ None) (others : (p : ℕ) → p ≢ o → p ≢ last → place' p ≡ place p)
    (dropped : part' at ≡ None) (parts : (q : At) → q ≢ at → part' q ≡ part q) where
  not_at : (p : ℕ) (q : At) → p ≢ o → place p ≡ Some q → q ≢ at
  not_at p q ne taken same = ne (own.disjoint p o at (subst (λ k. place p ≡ Some k) same taken) was)

  to_not_at : to ≢ at
  to_not_at = not_at last to (λ same. other (sym same)) lay

  given_or_not : (p : ℕ) (q : At) → place' p ≡ Some q → ((p ≡ o) × (q ≡ to)) ⊎ ((p ≢ o) × (p ≢ last) × (place p ≡ Some q))
  given_or_not p q taken = elim (cases_eq p o) [
    | inl same ↦ inl (same, same_some (place' o) (subst (λ k. place' k ≡ Some q) same taken) is)
    | inr ne ↦ elim (cases_eq p last) [
      | inl end ↦ absurd (none_or_some (place' last) gone (subst (λ k. place' k ≡ Some q) end taken))
      | inr ne' ↦ inr (ne, ne', sym (others p ne ne') ∙ taken)
    ]
  ]

  pub own-after_take_over : OwnPlaces place' part'
  own-after_take_over = record {
    placed = λ p q taken. elim (given_or_not p q taken) [
      | inl (same, new) ↦ subst (λ k. IsSome (part' k)) (sym new) (subst IsSome (sym (parts to to_not_at)) (own.placed last to lay))
      | inr (ne, ne', old) ↦ subst IsSome (sym (parts q (not_at p q ne old))) (own.placed p q old)
    ];
    disjoint = λ p r q taken also. elim (given_or_not p q taken) [
      | inl (same, new) ↦ elim (given_or_not r q also) [
        | inl (same', new') ↦ same ∙ sym same'
        | inr (ne, ne', old) ↦ absurd (ne' (own.disjoint r last to (subst (λ k. place r ≡ Some k) new old) lay))
      ]
      | inr (ne, ne', old) ↦ elim (given_or_not r q also) [
        | inl (same', new') ↦ absurd (ne' (own.disjoint p last to (subst (λ k. place p ≡ Some k) new' old) lay))
        | inr (far, far', old') ↦ own.disjoint p r q old old'
      ]
    ];
    only = λ q h. elim (cases_At q at) [
      | inl same ↦ absurd (not_some (part' at) dropped (subst (λ k. IsSome (part' k)) same h))
      | inr ne ↦
          let w = own.only q (subst IsSome (parts q ne) h) in
          elim (cases_eq w.0 o) [
            | inl same ↦ absurd (ne (same_some (place o) (subst (λ k. place k ≡ Some q) same w.1) was))
            | inr ne' ↦ elim (cases_eq w.0 last) [
              | inl end ↦ (o, is ∙ ap Some (same_some (place last) lay (subst (λ k. place k ≡ Some q) end w.1)))
              | inr far ↦ (w.0, others w.0 ne' far ∙ w.1)
            ]
          ]
    ];
  }

  -- its list is the removed object's list, and the other lists are unchanged
  pub list-after_take_over : option_and_then part' (place' o) ≡ option_and_then part (place last)
  list-after_take_over = ap (option_and_then part') is ∙ parts to to_not_at ∙ sym (ap (option_and_then part) lay)

  pub lists-elsewhere : (p : ℕ) → p ≢ o → p ≢ last → option_and_then part' (place' p) ≡ option_and_then part (place p)
  lists-elsewhere p ne ne' = elim (cases_option (place p)) [
    | inl none ↦ ap (option_and_then part') (others p ne ne' ∙ none) ∙ sym (ap (option_and_then part) none)
    | inr (q, here) ↦ ap (option_and_then part') (others p ne ne' ∙ here) ∙ parts q (not_at p q ne here) ∙ sym (ap (option_and_then part) here)
  ]
