-- A call changes one vector, and no other.
use Rattle.std.proofs.Common.{◌≡◌, ℕ, ◌+◌, ◌-◌, ◌*◌, ◌/◌, ◌<◌, ◌≤◌, Bool, true, false, List, [], ◌∷◌, ◌++◌, length, take, Option, None, Some, refl, ◌∙◌, arith, length-append}
use Rattle.std.specs.Prelude.{All, slice_get}
use Rattle.std.proofs.lemmas.List.{append-nil}
use Rattle.far_types.specs.FirstOf.{first_of}
use Rattle.far_scopes.specs.Movement.{Movement, list_of}
use Rattle.far_scopes.specs.Effects.{after_create}
use Rattle.far_scopes.specs.Refusing.{no_space, write_refusal}
use Rattle.far_columns.specs.Vector.{Vector, IsShaped, IsVector, KeepsOthers, WritesPlaces, elements, object_at}
use Rattle.far_columns.specs.Vectors.{ChangesVector}
use Rattle.far_columns.specs.Effects.{is_full, next_name, next_group, after_unpush, after_write_range}
use Rattle.far_columns.specs.Changes.{BeginsGroup, VectorPushed}
use Rattle.far_columns.proofs.VectorLaws.{object-there}
use Rattle.far_columns.proofs.VectorWrites.{take-after, vector-after_write, vector-filled}
use Rattle.far_columns.proofs.VectorDisjointness.{untouched}
use Rattle.far_columns.proofs.EffectsGroups.{begun, vector-begun, untouched-begun, vector-unpushed, untouched-unpushed}

module _ {X : Type 0} (old new : ℕ → Option (List X)) (v : Vector X) (shaped : IsShaped v) (is : IsVector old v) where
  -- a range is written over elements
  pub changed-written : (i : ℕ) (range : List X) → WritesPlaces old new v i range → KeepsOthers old new (object_at v i) → i < length v.objects * v.size → i + length range ≤ v.len → ChangesVector old new v v
  changed-written i range writes others there within = record {
    is = vector-after_write old new v shaped is i range writes within;
    others = λ w is-w disjoint. untouched old new v w is-w disjoint (object_at v i) others (i / v.size) (object-there v shaped i there) v disjoint;
  }

  -- an element is written to the first unused place
  pub changed-filled : (x : X) → WritesPlaces old new v v.len (x ∷ []) → KeepsOthers old new (object_at v v.len) → v.len < length v.objects * v.size → ChangesVector old new v (record v { len = v.len + 1 })
  changed-filled x writes others space = record {
    is = vector-filled old new v shaped is x writes space;
    others = λ w is-w disjoint. untouched old new v w is-w disjoint (object_at v v.len) others (v.len / v.size) (object-there v shaped v.len space) (record v { len = v.len + 1 }) disjoint;
  }

  -- a row group is begun with an object that is newer than all objects of the vectors
  pub changed-begun : v.len ≡ length v.objects * v.size → (o : ℕ) → KeepsOthers old new o → (x : X) → new o ≡ Some (next_group v x) → ((w : Vector X) → IsVector old w → All (λ p. p < o) w.objects) → ChangesVector old new v (begun v o)
  changed-begun full o others x has newer = record {
    is = vector-begun old new v shaped is full o others x has (newer v is);
    others = λ w is-w disjoint. untouched-begun old new v shaped is full o others x has (newer v is) w is-w (newer w is-w) disjoint;
  }

  -- the last row group, which has one element, is removed
  pub changed-unpushed : v.len ≡ (length v.objects - 1) * v.size + 1 → (o : ℕ) → slice_get v.objects (length v.objects - 1) ≡ Some o → KeepsOthers old new o → ChangesVector old new v (after_unpush v)
  changed-unpushed alone o last others = record {
    is = vector-unpushed old new v shaped is alone o last others;
    others = untouched-unpushed old new v shaped is alone o last others;
  }

pub unpushed-begun : {X : Type 0} (v : Vector X) (o : ℕ) → after_unpush (begun v o) ≡ v
unpushed-begun v o =
    let long = length-append v.objects (o ∷ []) in
    let objects : take (length (v.objects ++ o ∷ []) - 1) (v.objects ++ o ∷ []) ≡ v.objects = take-after v.objects (o ∷ []) 0 (length (v.objects ++ o ∷ []) - 1) (omega (arith, long)) ∙ append-nil v.objects in
    let len : v.len + 1 - 1 ≡ v.len = omega arith in
    rw (objects, len) refl

not-full : {A : Type 0} (b : Bool) → b ≡ false → b ≡ true → A
not-full true is full = absurd cc
not-full false is full = absurd cc

module _ {X K : Type 0} (meaning : List ℕ → List X) (content : K → List ℕ) (old new : Movement X K) (v : Vector X) (x : X) where
  pub pushed-filled : is_full v ≡ false → new ≡ after_write_range old v v.len (x ∷ []) → elements (list_of meaning content new) (record v { len = v.len + 1 }) ≡ elements (list_of meaning content old) v ++ x ∷ [] → write_refusal old (object_at v v.len) ≡ None → VectorPushed meaning content old new v (record v { len = v.len + 1 }) x
  pushed-filled space written more free = record {
    vector = rw space refl;
    objects = rw space written;
    elements = more;
    begun = λ full. not-full (is_full v) space full;
    free = rw space free;
  }

  pub pushed-begun : is_full v ≡ true → new ≡ after_create old (next_name v) (next_group v x) → elements (list_of meaning content new) (begun v (length old.records)) ≡ elements (list_of meaning content old) v ++ x ∷ [] → BeginsGroup old new v (begun v (length old.records)) → first_of (no_space old (length old.records) v.size ∷ []) ≡ None → VectorPushed meaning content old new v (begun v (length old.records)) x
  pushed-begun full created more begins free = record {
    vector = rw full refl;
    objects = rw full created;
    elements = more;
    begun = λ _. begins;
    free = rw full free;
  }
