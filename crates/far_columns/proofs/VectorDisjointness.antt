-- A write to a vector changes no vector that shares no object with it.
use Rattle.std.proofs.Common.{◌≡◌, ◌≢◌, ℕ, List, length, take, drop, Option, Some, sym, ap, subst, ◌∙◌}
use Rattle.std.specs.Prelude.{All, IsSomeAnd, slice_get}
use Rattle.std.proofs.lemmas.Option.{slice_get_within, get_or_from_slice_get}
use Rattle.far_columns.specs.Vector.{Vector, IsVector, IsUntouched, AreDisjoint, KeepsOthers, elements}
use Rattle.far_columns.proofs.VectorPlaces.{places-unchanged}

module _ {X : Type 0} (old new : ℕ → Option (List X)) (w : Vector X) (same : All (λ o. new o ≡ old o) w.objects) where
  pub vector-unchanged : IsVector old w → IsVector new w
  vector-unchanged is = record {
    whole = λ k d within. subst (λ list. IsSomeAnd list (λ l. length l ≡ w.size)) (sym (same k d within)) (is.whole k d within);
    unused = ap (drop w.len) (places-unchanged old new w.objects same) ∙ is.unused;
  }

  pub elements-unchanged : elements new w ≡ elements old w
  elements-unchanged = ap (take w.len) (places-unchanged old new w.objects same)

module _ {X : Type 0} (old new : ℕ → Option (List X)) (v w : Vector X) (is : IsVector old w) (disjoint : AreDisjoint v w) (o : ℕ) (others : KeepsOthers old new o) where
  -- a change of one of v's objects leaves w unchanged
  pub untouched : (g : ℕ) → slice_get v.objects g ≡ Some o → (v' : Vector X) → AreDisjoint v' w → IsUntouched old new v' w
  untouched g at v' disjoint' =
      let other : All (λ p. o ≢ p) w.objects = subst (λ q. All (λ p. q ≢ p) w.objects) (get_or_from_slice_get v.objects g o o at) (disjoint g o (slice_get_within v.objects g o at)) in
      let same : All (λ p. new p ≡ old p) w.objects = λ k d within. others _ (λ e. other k d within (sym e)) in
      record { is = vector-unchanged old new w same is; elements = elements-unchanged old new w same; disjoint = disjoint' }
