-- Vectors in the same objects, after one of them changes.
use Rattle.std.proofs.Common.{◌≡◌, ◌≢◌, ℕ, ◌<◌, List, [], ◌∷◌, ◌++◌, length, Option, Some, sym, ap, ◌∙◌, arith}
use Rattle.std.specs.Prelude.{slice_get, slice_set, slice_index_or}
use Rattle.std.proofs.lemmas.List.Elements.{All-push}
use Rattle.std.proofs.lemmas.List.Quantifiers.{all_pairs_push}
use Rattle.far_columns.specs.Vector.{Vector, IsVector, AreDisjoint, elements}
use Rattle.far_columns.specs.Vectors.{AreVectors, ChangesVector}
use Rattle.far_columns.proofs.VectorDisjointness.{vector-unchanged, elements-unchanged}
use Rattle.far_scopes.proofs.Several.{each-after, disjoint-after, other, was-all_disjoint}

module _ {X : Type 0} where
  pub disjoint-turned : (v w : Vector X) → AreDisjoint v w → AreDisjoint w v
  disjoint-turned v w h = λ k d within j e inside same. h j e inside k d within (sym same)

  -- vectors are added one after another, each without an object
  pub no-vectors : (lists : ℕ → Option (List X)) → AreVectors lists []
  no-vectors lists = record {
    each = λ k d within. let no : ⊥ = omega (arith, within) in absurd no;
    disjoint = λ i j d below within. let no : ⊥ = omega (arith, within) in absurd no;
  }

  pub vectors-more : (lists : ℕ → Option (List X)) (vectors : List (Vector X)) (v : Vector X) → AreVectors lists vectors → IsVector lists v → v.objects ≡ [] → AreVectors lists (vectors ++ v ∷ [])
  vectors-more lists vectors v are is none = record {
    each = All-push (IsVector lists) vectors v are.each is;
    disjoint = all_pairs_push AreDisjoint vectors v are.disjoint (λ k d below. λ i e within j f inside same. let no : ⊥ = omega (arith, inside, ap length none) in no);
  }

  module _ (old new : ℕ → Option (List X)) (vectors : List (Vector X)) (are : AreVectors old vectors) (k : ℕ) (v v' : Vector X) (at : slice_get vectors k ≡ Some v) (change : ChangesVector old new v v') where
    others-are : (w : Vector X) → IsVector old w → AreDisjoint v w → IsVector new w × AreDisjoint v' w
    others-are w is disjoint = let untouched = change.others w is disjoint in (untouched.is, untouched.disjoint)

    pub vectors-after : AreVectors new (slice_set vectors k v')
    vectors-after = record {
      each = each-after AreDisjoint disjoint-turned (IsVector old) (IsVector new) vectors are.each are.disjoint k v v' at change.is others-are;
      disjoint = disjoint-after AreDisjoint disjoint-turned (IsVector old) (IsVector new) vectors are.each are.disjoint k v v' at change.is others-are;
    }

    pub others-after : (j : ℕ) (d : Vector X) → j ≢ k → j < length vectors → elements new (slice_index_or (slice_set vectors k v') j d) ≡ elements old (slice_index_or vectors j d)
    others-after j d ne within =
        let all_disjoint = was-all_disjoint AreDisjoint disjoint-turned (IsVector old) (IsVector new) vectors are.each are.disjoint k v v' at change.is others-are j d ne within in
        ap (elements new) (other AreDisjoint disjoint-turned (IsVector old) (IsVector new) vectors are.each are.disjoint k v v' at change.is others-are j d ne) ∙ (change.others (slice_index_or vectors j d) (are.each j d within) all_disjoint).elements

  -- if no list changes, no vector changes
  pub vectors-stay : (old new : ℕ → Option (List X)) (vectors : List (Vector X)) → AreVectors old vectors → ((o : ℕ) → new o ≡ old o) → AreVectors new vectors
  vectors-stay old new vectors are same = record {
    each = λ k d within. vector-unchanged old new (slice_index_or vectors k d) (λ j e inside. same (slice_index_or (slice_index_or vectors k d).objects j e)) (are.each k d within);
    disjoint = are.disjoint;
  }

  pub elements-stay : (old new : ℕ → Option (List X)) (w : Vector X) → ((o : ℕ) → new o ≡ old o) → elements new w ≡ elements old w
  elements-stay old new w same = elements-unchanged old new w (λ j e inside. same (slice_index_or w.objects j e))
