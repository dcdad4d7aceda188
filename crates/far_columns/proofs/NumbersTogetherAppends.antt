-- A number is appended to one of several columns, and then to the others.
use Rattle.std.proofs.Common.{◌≡◌, ℕ, ℤ, ◌<◌, false, List, [], ◌∷◌, ◌++◌, length, get_or, map, Option, None, refl, sym, ap, subst, ◌∙◌}
use Rattle.std.specs.Prelude.{All}
use Rattle.std.proofs.lemmas.List.Elements.{All-cons, All-head, All-tail}
use Rattle.std.proofs.lemmas.List.Kept.{AllPairs-cons}
use Rattle.far_scopes.specs.Movement.{Movement, ChangesObject}
use Rattle.far_columns.specs.Vector.{Vector, IsShaped, IsVector, AreDisjoint, IsUntouched, elements, object_at}
use Rattle.far_columns.specs.Vectors.{AreVectors, ChangesVector}
use Rattle.far_columns.specs.Effects.{is_full, objects_after_push}
use Rattle.far_columns.specs.Refusing.{push_refusal}
use Rattle.far_columns.specs.Numbers.{Numbers}
use Rattle.far_columns.specs.NumbersTogether.{NumberLists, NumberColumns, all_numbers_with, KeepsNumbers}
use Rattle.far_columns.proofs.NumbersTogether.{pairs-head, pairs-tail, disjoint-turned, next-disjoint, push-free, free-push, write-other, changes-same}

pub first-has : {X : Type 0} (P : X → Type 0) (x : X) (xs ys : List X) → ys ≡ x ∷ xs → All P ys → P x
first-has P x xs ys is all = All-head P x xs (subst (All P) is all)

-- nothing changes
pub same-numbers : (lists : NumberLists) (columns : NumberColumns) → KeepsNumbers lists lists columns columns
same-numbers lists columns = record { is = λ w is _. is; numbers = λ w is _. refl; disjoint = λ w is disjoint. disjoint }

-- one more number, for columns with the same numbers
pub numbers-with-same : (old new : NumberLists) (columns : NumberColumns) (numbers : Numbers) → All (λ c. elements new c ≡ elements old c) columns → all_numbers_with new columns numbers ≡ all_numbers_with old columns numbers
numbers-with-same old new [] numbers same = refl
numbers-with-same old new (c ∷ columns) [] same = refl
numbers-with-same old new (c ∷ columns) (x ∷ numbers) same =
    ap (λ l. (l ++ x ∷ []) ∷ all_numbers_with new columns numbers) (All-head (λ d. elements new d ≡ elements old d) c columns same)
    ∙ ap (λ l. (elements old c ++ x ∷ []) ∷ l) (numbers-with-same old new columns numbers (All-tail (λ d. elements new d ≡ elements old d) c columns same))

module _ (old mid : NumberLists) (c c' : Vector (Option ℤ)) (rest : NumberColumns) (all_disjoint : AreVectors old (c ∷ rest)) (first : ChangesVector old mid c c') where
  -- the other columns after the first is changed
  module _ (k : ℕ) (d : Vector (Option ℤ)) (below : k < length rest) where
    rest-is : IsVector old (get_or rest k d)
    rest-is = All-tail (IsVector old) c rest all_disjoint.each k d below

    pub rest-disjoint : AreDisjoint c (get_or rest k d)
    rest-disjoint = pairs-head AreDisjoint c rest all_disjoint.disjoint k d below

    pub untouched : IsUntouched old mid c' (get_or rest k d)
    untouched = first.others (get_or rest k d) rest-is rest-disjoint

  pub all_disjoint-rest : AreVectors mid rest
  all_disjoint-rest = record { each = λ k d below. (untouched k d below).is; disjoint = pairs-tail AreDisjoint c rest all_disjoint.disjoint }

  module _ (new : NumberLists) (rest' : NumberColumns) (all_disjoint' : AreVectors new rest') (keeps : KeepsNumbers mid new rest rest') where
    rest-from-first : All (λ r. AreDisjoint r c') rest
    rest-from-first k d below = disjoint-turned c' (get_or rest k d) (untouched k d below).disjoint

    pub all_disjoint-all : AreVectors new (c' ∷ rest')
    all_disjoint-all = record {
      each = All-cons (IsVector new) c' rest' (keeps.is c' first.is rest-from-first) all_disjoint'.each;
      disjoint = AllPairs-cons AreDisjoint c' rest' (λ k d below. disjoint-turned (get_or rest' k d) c' (keeps.disjoint c' first.is rest-from-first k d below)) all_disjoint'.disjoint;
    }

    pub keeps-all : KeepsNumbers old new (c ∷ rest) (c' ∷ rest')
    keeps-all = record {
      is = λ w is disjoint. let mine = first-of w is disjoint in keeps.is w mine.is (All-tail (λ r. AreDisjoint r w) c rest disjoint);
      numbers = λ w is disjoint. let mine = first-of w is disjoint in keeps.numbers w mine.is (All-tail (λ r. AreDisjoint r w) c rest disjoint) ∙ mine.elements;
      disjoint = λ w is disjoint. let mine = first-of w is disjoint in All-cons (λ r. AreDisjoint r w) c' rest' mine.disjoint (keeps.disjoint w mine.is (All-tail (λ r. AreDisjoint r w) c rest disjoint));
    }
      where
        first-of : (w : Vector (Option ℤ)) → IsVector old w → All (λ r. AreDisjoint r w) (c ∷ rest) → IsUntouched old mid c' w
        first-of w is disjoint = first.others w is (All-head (λ r. AreDisjoint r w) c rest disjoint)

    pub numbers-all : (x : Option ℤ) (numbers : Numbers) → elements mid c' ≡ elements old c ++ x ∷ [] → map (elements new) rest' ≡ all_numbers_with mid rest numbers → map (elements new) (c' ∷ rest') ≡ all_numbers_with old (c ∷ rest) (x ∷ numbers)
    numbers-all x numbers here others =
        ap (λ l. l ∷ map (elements new) rest') (keeps.numbers c' first.is rest-from-first ∙ here)
        ∙ ap (λ l. (elements old c ++ x ∷ []) ∷ l) (others ∙ numbers-with-same old mid rest numbers (λ k d below. (untouched k d below).elements))

module _ {K : Type 0} (m mid : Movement (Option ℤ) K) (c : Vector (Option ℤ)) (x : Option ℤ) (rest : NumberColumns) (written : mid ≡ objects_after_push m c x) (others : ChangesObject m mid (object_at c c.len)) where
  -- the other columns may still be written
  pub free-rest : (lists : NumberLists) → AreVectors lists (c ∷ rest) → All IsShaped (c ∷ rest) → All (λ d. is_full d ≡ false) (c ∷ rest) → All (λ d. push_refusal m d ≡ None) (c ∷ rest) → All (λ d. push_refusal mid d ≡ None) rest
  free-rest lists all_disjoint shaped begun free k d below =
      let w = get_or rest k d in
      let begun_w = All-tail (λ (d : Vector (Option ℤ)). is_full d ≡ false) c rest begun k d below in
      let begun_c = All-head (λ (d : Vector (Option ℤ)). is_full d ≡ false) c rest begun in
      let disjoint = pairs-head AreDisjoint c rest all_disjoint.disjoint k d below in
      let ne = next-disjoint c w (All-head IsShaped c rest shaped) (All-tail IsShaped c rest shaped k d below) begun_c begun_w disjoint in
      let was = All-tail (λ d. push_refusal m d ≡ None) c rest free k d below in
      let changes : mid.max_writes ≡ m.max_writes = ap (λ w. w.max_writes) written ∙ changes-same m c x in
      push-free mid w begun_w (sym (write-other m mid (object_at c c.len) (object_at w w.len) others changes ne ∙ free-push m w begun_w was))
