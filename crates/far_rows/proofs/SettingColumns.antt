-- Columns after a value is put at a place of one of them.
use Rattle.std.proofs.Common.{◌≡◌, ◌≢◌, ℕ, zero, suc, ◌<◌, List, [], ◌∷◌, length, map, get_or, set, Option, Some, refl, sym, ap, subst, ◌∙◌, arith}
use Rattle.std.specs.Prelude.{ℤ, slice_get, slice_set}
use Rattle.std.proofs.lemmas.Option.{slice_get_within, get_or_from_slice_get}
use Rattle.std.proofs.lemmas.List.{set-get_or}
use Rattle.far_columns.specs.Vector.{Vector, IsVector, AreDisjoint, IsUntouched, elements}
use Rattle.far_columns.specs.Vectors.{AreVectors, ChangesVector}
use Rattle.far_columns.proofs.VectorsLaws.{vectors-after, others-after}
use Rattle.far_texts.specs.Texts.{Texts, Lists, IsTextColumn, KeepsOthers, texts_in}
use Rattle.far_texts.specs.Columns.{AreTextColumns, ChangesColumn}
use Rattle.far_columns.specs.NumbersTogether.{NumberLists, NumberColumns, AreNumberColumns}
use Rattle.far_texts.specs.Together.{AreColumns}
use Rattle.far_texts.proofs.ColumnsLaws.{columns-after, others-after as texts-after}

-- mapping another function changes only one element, if both functions agree on all others
pub map-one : {A B : Type 0} (f h : A → B) (xs : List A) (i : ℕ) (y : B) → i < length xs → ((d : A) → h (get_or xs i d) ≡ y) → ((j : ℕ) (d : A) → j ≢ i → j < length xs → h (get_or xs j d) ≡ f (get_or xs j d)) → map h xs ≡ set (map f xs) i y
map-one f h [] i y within here others = absurd (omega (arith, within))
map-one f h (x ∷ xs) zero y within here others =
    let rest = map-same f h xs (λ j d below. others (suc j) d (λ e. omega (arith, e)) (omega (arith, below))) in
    λ k. here x k ∷ rest k where
      map-same : {A B : Type 0} (f h : A → B) (xs : List A) → ((j : ℕ) (d : A) → j < length xs → h (get_or xs j d) ≡ f (get_or xs j d)) → map h xs ≡ map f xs
      map-same f h [] same = refl
      map-same f h (x ∷ xs) same =
          let rest = map-same f h xs (λ j d below. same (suc j) d (omega (arith, below))) in
          let first = same 0 x (omega arith) in
          λ k. first k ∷ rest k
map-one f h (x ∷ xs) (suc i) y within here others =
    let first = others 0 x (λ e. omega (arith, e)) (omega arith) in
    let rest = map-one f h xs i y (omega (arith, within)) here (λ j d ne below. others (suc j) d (λ e. ne (omega (arith, e))) (omega (arith, below))) in
    λ k. first k ∷ rest k

-- writing an element that is already there changes nothing
pub set-same : {A : Type 0} (xs : List A) (k : ℕ) (x : A) → slice_get xs k ≡ Some x → set xs k x ≡ xs
set-same xs k x at = ap (set xs k) (sym (get_or_from_slice_get xs k x x at)) ∙ set-get_or xs k x

module _ (old new : NumberLists) (columns : NumberColumns) (are : AreNumberColumns old columns) (k : ℕ) (c : Vector (Option ℤ)) (at : slice_get columns k ≡ Some c) (is : IsVector new c) (disjoint : (w : Vector (Option ℤ)) → IsVector old w → AreDisjoint c w → IsUntouched old new c w) where
  change : ChangesVector old new c c
  change = record { is = is; others = disjoint }

  pub numbers-still : AreNumberColumns new columns
  numbers-still = record {
    all_disjoint = subst (AreVectors new) (set-same columns k c at) (vectors-after old new columns are.all_disjoint k c c at change);
    same_length = are.same_length;
  }

  pub numbers-set : map (elements new) columns ≡ slice_set (map (elements old) columns) k (elements new c)
  numbers-set = map-one (elements old) (elements new) columns k (elements new c) (slice_get_within columns k c at)
      (λ d. ap (elements new) (get_or_from_slice_get columns k c d at))
      (λ j d ne below. ap (λ cs. elements new (get_or cs j d)) (sym (set-same columns k c at)) ∙ others-after old new columns are.all_disjoint k c c at change j d ne below)

module _ (old new : Lists) (columns : List Texts) (are : AreColumns old columns) (k : ℕ) (c : Texts) (at : slice_get columns k ≡ Some c) (is : IsTextColumn new c) (others : KeepsOthers old new c) where
  text-change : ChangesColumn old new c c
  text-change = record { is = is; others = others; disjoint = λ d was disjoint. disjoint }

  pub texts-still : AreColumns new columns
  texts-still = record {
    all_disjoint = subst (AreTextColumns new) (set-same columns k c at) (columns-after old new columns are.all_disjoint k c c at text-change);
    same_length = are.same_length;
  }

  pub texts-set : map (texts_in new) columns ≡ slice_set (map (texts_in old) columns) k (texts_in new c)
  texts-set = map-one (texts_in old) (texts_in new) columns k (texts_in new c) (slice_get_within columns k c at)
      (λ d. ap (texts_in new) (get_or_from_slice_get columns k c d at))
      (λ j d ne below. ap (λ cs. texts_in new (get_or cs j d)) (sym (set-same columns k c at)) ∙ texts-after old new columns are.all_disjoint k c c at text-change j d ne below)
