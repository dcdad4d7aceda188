-- Objects that get, lose and change the locations of their lists.
use Rattle.std.proofs.Common.{◌≡◌, ◌≢◌, ℕ, ◌⊎◌, inl, inr, List, Option, Some, None, IsSome, refl, sym, ap, subst, ◌∙◌}
use Rattle.std.specs.Option.{option_and_then}
use Rattle.std.proofs.lemmas.Bool.{cases_eq}
use Rattle.far_pointer.specs.declared.pointer.At.{At}
use Rattle.far_scopes.specs.Memory.{ChangesList, OwnPlaces}

-- two locations are equal or different
pub cases_At : (one other : At) → (one ≡ other) ⊎ (one ≢ other)
cases_At one other = elim (cases_eq one.segment other.segment) [
  | inl segment ↦ elim (cases_eq one.offset other.offset) [
    | inl offset ↦ inl (ap (λ (n : ℕ). let at : At = record { segment = n; offset = one.offset } in at) segment ∙ ap (λ (n : ℕ). let at : At = record { segment = other.segment; offset = n } in at) offset)
    | inr ne ↦ inr (λ same. ne (ap (λ at. at.offset) same))
  ]
  | inr ne ↦ inr (λ same. ne (ap (λ at. at.segment) same))
]

pub cases_option : {A : Type 0} (o : Option A) → (o ≡ None) ⊎ ((x : A) × (o ≡ Some x))
cases_option None = inl refl
cases_option (Some x) = inr (x, refl)

pub same_some : {A : Type 0} {x y : A} (o : Option A) → o ≡ Some x → o ≡ Some y → x ≡ y
same_some o e f = cc

pub none_or_some : {A : Type 0} {x : A} (o : Option A) → o ≡ None → o ≡ Some x → ⊥
none_or_some o e f = cc

pub is_some : {A : Type 0} {x : A} (o : Option A) → o ≡ Some x → IsSome o
is_some o e = subst IsSome (sym e) refl

pub not_some : {A : Type 0} (o : Option A) → o ≡ None → IsSome o → ⊥
not_some o e h = let k = subst IsSome e h in cc

pub some_of : {A : Type 0} (o : Option A) → IsSome o → (x : A) × (o ≡ Some x)
some_of None h = cc
some_of (Some x) h = (x, refl)

module _ {X : Type 0} (place place' : ℕ → Option At) (part part' : At → Option (List X)) (own : OwnPlaces place part) where
  -- the lists of the objects
  abbrev pub lists : ℕ → Option (List X)
  lists o = option_and_then part (place o)

  abbrev pub lists' : ℕ → Option (List X)
  lists' o = option_and_then part' (place' o)

  -- the list at another object's location is unchanged
  other_list : (p : ℕ) → place' p ≡ place p → ((q : At) → place p ≡ Some q → part' q ≡ part q) → lists' p ≡ lists p
  other_list p same parts = elim (cases_option (place p)) [
    | inl none ↦ ap (option_and_then part') (same ∙ none) ∙ sym (ap (option_and_then part) none)
    | inr (q, is) ↦ ap (option_and_then part') (same ∙ is) ∙ parts q is ∙ sym (ap (option_and_then part) is)
  ]

  module _ (o : ℕ) (others : (p : ℕ) → p ≢ o → place' p ≡ place p) where
    -- object o loses its location
    module _ (at : At) (was : place o ≡ Some at) (is : place' o ≡ None) (gone : part' at ≡ None) (parts : (q : At) → q ≢ at → part' q ≡ part q) where
      elsewhere : (p : ℕ) (q : At) → p ≢ o → place p ≡ Some q → q ≢ at
      elsewhere p q ne here same = ne (own.disjoint p o at (subst (λ k. place p ≡ Some k) same here) was)

      not_o : (p : ℕ) (q : At) → place' p ≡ Some q → p ≢ o
      not_o p q here same = none_or_some (place' o) is (subst (λ k. place' k ≡ Some q) same here)

      pub own-lost : OwnPlaces place' part'
      own-lost = record {
        placed = λ p q here.
            let ne = not_o p q here in
            let old = sym (others p ne) ∙ here in
            subst IsSome (sym (parts q (elsewhere p q ne old))) (own.placed p q old);
        disjoint = λ p r q here there.
            own.disjoint p r q (sym (others p (not_o p q here)) ∙ here) (sym (others r (not_o r q there)) ∙ there);
        only = λ q h. elim (cases_At q at) [
          | inl same ↦ absurd (not_some (part' at) gone (subst (λ k. IsSome (part' k)) same h))
          | inr ne ↦
              let w = own.only q (subst IsSome (parts q ne) h) in
              (w.0, others w.0 (λ same. ne (same_some (place o) (subst (λ k. place k ≡ Some q) same w.1) was)) ∙ w.1)
        ];
      }

      pub lists-lost : ChangesList lists lists' o None
      lists-lost = record {
        here = ap (option_and_then part') is;
        others = λ p ne. other_list p (others p ne) (λ q here. parts q (elsewhere p q ne here));
      }

    -- object o gets a location
    module _ (at : At) (list : List X) (was : place o ≡ None) (is : place' o ≡ Some at) (free : part at ≡ None) (here : part' at ≡ Some list) (parts : (q : At) → q ≢ at → part' q ≡ part q) where
      not_free : (p : ℕ) (q : At) → place p ≡ Some q → q ≢ at
      not_free p q taken same = not_some (part at) free (own.placed p at (subst (λ k. place p ≡ Some k) same taken))

      old_or_new : (p : ℕ) (q : At) → place' p ≡ Some q → ((p ≡ o) × (q ≡ at)) ⊎ ((p ≢ o) × (place p ≡ Some q))
      old_or_new p q taken = elim (cases_eq p o) [
        | inl same ↦ inl (same, same_some (place' o) (subst (λ k. place' k ≡ Some q) same taken) is)
        | inr ne ↦ inr (ne, sym (others p ne) ∙ taken)
      ]

      pub own-gained : OwnPlaces place' part'
      own-gained = record {
        placed = λ p q taken. elim (old_or_new p q taken) [
          | inl (same, new) ↦ is_some (part' q) (ap part' new ∙ here)
          | inr (ne, old) ↦ subst IsSome (sym (parts q (not_free p q old))) (own.placed p q old)
        ];
        disjoint = λ p r q taken also. elim (old_or_new p q taken) [
          | inl (same, new) ↦ elim (old_or_new r q also) [
            | inl (same', new') ↦ same ∙ sym same'
            | inr (ne, old) ↦ absurd (not_free r q old new)
          ]
          | inr (ne, old) ↦ elim (old_or_new r q also) [
            | inl (same', new') ↦ absurd (not_free p q old new')
            | inr (ne', old') ↦ own.disjoint p r q old old'
          ]
        ];
        only = λ q h. elim (cases_At q at) [
          | inl same ↦ (o, is ∙ ap Some (sym same))
          | inr ne ↦
              let w = own.only q (subst IsSome (parts q ne) h) in
              (w.0, others w.0 (λ same. none_or_some (place o) was (subst (λ k. place k ≡ Some q) same w.1)) ∙ w.1)
        ];
      }

      pub lists-gained : ChangesList lists lists' o (Some list)
      lists-gained = record {
        here = ap (option_and_then part') is ∙ here;
        others = λ p ne. other_list p (others p ne) (λ q taken. parts q (not_free p q taken));
      }

    -- the location of object o changes
    module _ (at to : At) (list : List X) (was : place o ≡ Some at) (is : place' o ≡ Some to) (free : part to ≡ None) (here : part' to ≡ Some list) (gone : part' at ≡ None) (parts : (q : At) → q ≢ at → q ≢ to → part' q ≡ part q) where
      not_to : (p : ℕ) (q : At) → place p ≡ Some q → q ≢ to
      not_to p q taken same = not_some (part to) free (own.placed p to (subst (λ k. place p ≡ Some k) same taken))

      not_at : (p : ℕ) (q : At) → p ≢ o → place p ≡ Some q → q ≢ at
      not_at p q ne taken same = ne (own.disjoint p o at (subst (λ k. place p ≡ Some k) same taken) was)

      moved_or_not : (p : ℕ) (q : At) → place' p ≡ Some q → ((p ≡ o) × (q ≡ to)) ⊎ ((p ≢ o) × (place p ≡ Some q))
      moved_or_not p q taken = elim (cases_eq p o) [
        | inl same ↦ inl (same, same_some (place' o) (subst (λ k. place' k ≡ Some q) same taken) is)
        | inr ne ↦ inr (ne, sym (others p ne) ∙ taken)
      ]

      pub own-moved : OwnPlaces place' part'
      own-moved = record {
        placed = λ p q taken. elim (moved_or_not p q taken) [
          | inl (same, new) ↦ is_some (part' q) (ap part' new ∙ here)
          | inr (ne, old) ↦ subst IsSome (sym (parts q (not_at p q ne old) (not_to p q old))) (own.placed p q old)
        ];
        disjoint = λ p r q taken also. elim (moved_or_not p q taken) [
          | inl (same, new) ↦ elim (moved_or_not r q also) [
            | inl (same', new') ↦ same ∙ sym same'
            | inr (ne, old) ↦ absurd (not_to r q old new)
          ]
          | inr (ne, old) ↦ elim (moved_or_not r q also) [
            | inl (same', new') ↦ absurd (not_to p q old new')
            | inr (ne', old') ↦ own.disjoint p r q old old'
          ]
        ];
        only = λ q h. elim (cases_At q to) [
          | inl same ↦ (o, is ∙ ap Some (sym same))
          | inr ne ↦ elim (cases_At q at) [
            | inl same ↦ absurd (not_some (part' at) gone (subst (λ k. IsSome (part' k)) same h))
            | inr ne' ↦
                let w = own.only q (subst IsSome (parts q ne' ne) h) in
                (w.0, others w.0 (λ same. ne' (same_some (place o) (subst (λ k. place k ≡ Some q) same w.1) was)) ∙ w.1)
          ]
        ];
      }

      pub lists-moved : ChangesList lists lists' o (Some list)
      lists-moved = record {
        here = ap (option_and_then part') is ∙ here;
        others = λ p ne. other_list p (others p ne) (λ q taken. parts q (not_at p q ne taken) (not_to p q taken));
      }

  -- no location changes
  module _ (same : (p : ℕ) → place' p ≡ place p) where
    pub own-same : ((q : At) → IsSome (part' q) → IsSome (part q)) → ((q : At) → IsSome (part q) → IsSome (part' q)) → OwnPlaces place' part'
    own-same stays comes = record {
      placed = λ p q taken. comes q (own.placed p q (sym (same p) ∙ taken));
      disjoint = λ p r q taken also. own.disjoint p r q (sym (same p) ∙ taken) (sym (same r) ∙ also);
      only = λ q h. let w = own.only q (stays q h) in (w.0, same w.0 ∙ w.1);
    }

    pub lists-same : ((q : At) → part' q ≡ part q) → (p : ℕ) → lists' p ≡ lists p
    lists-same parts p = other_list p (same p) (λ q taken. parts q)

    -- one list is written
    pub lists-after_write : (o : ℕ) (at : At) (list : List X) → place o ≡ Some at → part' at ≡ Some list → ((q : At) → q ≢ at → part' q ≡ part q) → ChangesList lists lists' o (Some list)
    lists-after_write o at list was here parts = record {
      here = ap (option_and_then part') (same o ∙ was) ∙ here;
      others = λ p ne. other_list p (same p) (λ q taken. parts q (λ e. ne (own.disjoint p o at (subst (λ k. place p ≡ Some k) e taken) was)));
    }
