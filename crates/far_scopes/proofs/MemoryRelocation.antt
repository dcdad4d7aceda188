-- Objects whose lists all move, each to a location of its own.
use Rattle.std.proofs.Common.{◌≡◌, ℕ, inl, inr, List, Option, Some, IsSome, sym, ap, subst, ◌∙◌}
use Rattle.std.specs.Prelude.{option_map}
use Rattle.std.specs.Option.{option_and_then}
use Rattle.far_pointer.specs.declared.pointer.At.{At}
use Rattle.far_scopes.specs.Memory.{OwnPlaces}
use Rattle.far_scopes.proofs.MemoryPlaces.{cases_option, same_some, none_or_some}

module _ {X : Type 0} (place place' : ℕ → Option At) (part part' : At → Option (List X)) (own : OwnPlaces place part) (to : At → At)
    (goes : (o : ℕ) → place' o ≡ option_map to (place o))
    (once : (q r : At) → IsSome (part q) → IsSome (part r) → to q ≡ to r → q ≡ r)
    (unchanged : (q : At) → IsSome (part q) → part' (to q) ≡ part q)
    (from : (r : At) → IsSome (part' r) → (q : At) × IsSome (part q) × (to q ≡ r)) where
  -- the object that is now at a location
  came : (o : ℕ) (r : At) → place' o ≡ Some r → (q : At) × (place o ≡ Some q) × (to q ≡ r)
  came o r is = elim (cases_option (place o)) [
    | inl none ↦ absurd (none_or_some (place' o) (goes o ∙ ap (option_map to) none) is)
    | inr (q, was) ↦ (q, was, same_some (place' o) (goes o ∙ ap (option_map to) was) is)
  ]

  pub own-relocated : OwnPlaces place' part'
  own-relocated = record {
    placed = λ o r is. let w = came o r is in subst (λ q. IsSome (part' q)) w.2 (subst IsSome (sym (unchanged w.0 (own.placed o w.0 w.1))) (own.placed o w.0 w.1));
    disjoint = λ o p r is also.
        let w = came o r is in
        let v = came p r also in
        let same = once w.0 v.0 (own.placed o w.0 w.1) (own.placed p v.0 v.1) (w.2 ∙ sym v.2) in
        own.disjoint o p v.0 (subst (λ q. place o ≡ Some q) same w.1) v.1;
    only = λ r some.
        let w = from r some in
        let v = own.only w.0 w.1 in
        (v.0, goes v.0 ∙ ap (option_map to) v.1 ∙ ap Some w.2);
  }

  pub lists-relocated : (o : ℕ) → option_and_then part' (place' o) ≡ option_and_then part (place o)
  lists-relocated o = elim (cases_option (place o)) [
    | inl none ↦ ap (option_and_then part') (goes o ∙ ap (option_map to) none) ∙ sym (ap (option_and_then part) none)
    | inr (q, was) ↦ ap (option_and_then part') (goes o ∙ ap (option_map to) was) ∙ unchanged q (own.placed o q was) ∙ sym (ap (option_and_then part) was)
  ]
