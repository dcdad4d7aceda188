-- Several columns of numbers begin row groups at once, in the order of the columns, and undo them in the reverse order.
use Rattle.std.proofs.Common.{◌≡◌, ℕ, zero, suc, ℤ, ◌+◌, ◌-◌, ◌*◌, ◌/◌, ◌<◌, true, List, [], ◌∷◌, length, get_or, map, take, Option, Some, refl, sym, ap, subst, ◌∙◌, arith}
use Rattle.std.specs.Prelude.{All, AllPairs, is_some}
use Rattle.std.specs.Option.{option_and_then, option_map_or}
use Rattle.std.proofs.lemmas.Bool.{eqb-true}
use Rattle.std.proofs.lemmas.List.{length-take-le, get_or_push}
use Rattle.std.proofs.lemmas.List.Elements.{All-cons, All-head, All-tail, All-map}
use Rattle.std.proofs.lemmas.List.Kept.{AllPairs-cons}
use Rattle.std.proofs.lemmas.Nat.{div-mul-add}
use Rattle.far_scopes.specs.Memory.{at_of}
use Rattle.far_scopes.specs.Movement.{Movement, ChangesObject, is_local, pins_of}
use Rattle.far_scopes.specs.Effects.{after_uncreate}
use Rattle.far_columns.specs.Vector.{Vector, IsShaped, IsVector, AreDisjoint, IsUntouched, elements, object_at}
use Rattle.far_columns.specs.Vectors.{AreVectors, ChangesVector}
use Rattle.far_columns.specs.Effects.{IsNewGroup, is_full, after_push, objects_after_push, after_unpush}
use Rattle.far_columns.specs.NumbersTogether.{NumberLists, NumberColumns, KeepsNumbers}
use Rattle.far_columns.specs.NumbersUndo.{KeepsBelow, AreBegunFrom, AreBegunLast, after_uncreate_all}
use Rattle.far_columns.proofs.NumbersTogether.{pairs-head, pairs-tail, disjoint-turned}
use Rattle.far_columns.proofs.NumbersTogetherBeginning.{one-more, alone, last}

-- the columns after the first
pub all_disjoint-tail : (lists : NumberLists) (c : Vector (Option ℤ)) (rest : NumberColumns) → AreVectors lists (c ∷ rest) → AreVectors lists rest
all_disjoint-tail lists c rest all_disjoint = record { each = All-tail (IsVector lists) c rest all_disjoint.each; disjoint = pairs-tail AreDisjoint c rest all_disjoint.disjoint }

map-same : {X Y : Type 0} (f h : X → Y) (xs : List X) → All (λ x. h x ≡ f x) xs → map h xs ≡ map f xs
map-same f h [] same = refl
map-same f h (x ∷ xs) same = ap (λ y. y ∷ map h xs) (All-head (λ x. h x ≡ f x) x xs same) ∙ ap (λ l. f x ∷ l) (map-same f h xs (All-tail (λ x. h x ≡ f x) x xs same))

module _ (old mid new : NumberLists) (c c' : Vector (Option ℤ)) (rest rest' : NumberColumns) (all_disjoint : AreVectors old (c ∷ rest)) (after : AreVectors mid rest') (keeps : KeepsNumbers old mid rest rest') where
  disjoint-first : All (λ r. AreDisjoint r c) rest
  disjoint-first k d below = disjoint-turned c (get_or rest k d) (pairs-head AreDisjoint c rest all_disjoint.disjoint k d below)

  -- the first column after the others changed
  pub first-stays : IsVector mid c
  first-stays = keeps.is c (All-head (IsVector old) c rest all_disjoint.each) disjoint-first

  -- the first column after it changed too
  module _ (first : ChangesVector mid new c c') where
    other : (k : ℕ) (d : Vector (Option ℤ)) → k < length rest' → IsUntouched mid new c' (get_or rest' k d)
    other k d below = first.others (get_or rest' k d) (after.each k d below) (disjoint-turned (get_or rest' k d) c (keeps.disjoint c (All-head (IsVector old) c rest all_disjoint.each) disjoint-first k d below))

    pub all_disjoint-undone : AreVectors new (c' ∷ rest')
    all_disjoint-undone = record {
      each = All-cons (IsVector new) c' rest' first.is (λ k d below. (other k d below).is);
      disjoint = AllPairs-cons AreDisjoint c' rest' (λ k d below. (other k d below).disjoint) after.disjoint;
    }

    -- each column has its numbers without its last number
    pub numbers-undone : elements new c' ≡ take (c.len - 1) (elements mid c) → map (elements mid) rest' ≡ map (λ d. take (d.len - 1) (elements old d)) rest → map (elements new) (c' ∷ rest') ≡ map (λ d. take (d.len - 1) (elements old d)) (c ∷ rest)
    numbers-undone here others =
        ap (λ l. l ∷ map (elements new) rest') (here ∙ ap (take (c.len - 1)) (keeps.numbers c (All-head (IsVector old) c rest all_disjoint.each) disjoint-first))
        ∙ ap (λ l. take (c.len - 1) (elements old c) ∷ l) (map-same (elements mid) (elements new) rest' (λ k d below. (other k d below).elements) ∙ others)

    pub keeps-undone : KeepsNumbers old new (c ∷ rest) (c' ∷ rest')
    keeps-undone = record {
      is = λ w is disjoint. (first-of w is disjoint).is;
      numbers = λ w is disjoint. (first-of w is disjoint).elements ∙ keeps.numbers w is (All-tail (λ r. AreDisjoint r w) c rest disjoint);
      disjoint = λ w is disjoint. All-cons (λ r. AreDisjoint r w) c' rest' (first-of w is disjoint).disjoint (keeps.disjoint w is (All-tail (λ r. AreDisjoint r w) c rest disjoint));
    }
      where
        first-of : (w : Vector (Option ℤ)) → IsVector old w → All (λ r. AreDisjoint r w) (c ∷ rest) → IsUntouched mid new c' w
        first-of w is disjoint = first.others w (keeps.is w is (All-tail (λ r. AreDisjoint r w) c rest disjoint)) (All-head (λ r. AreDisjoint r w) c rest disjoint)

-- with one number less each, the columns still have the same length and the same size of row groups
pub same_length-undone : (columns : NumberColumns) → AllPairs (λ c d. (c.size ≡ d.size) × (c.len ≡ d.len)) columns → AllPairs (λ c d. (c.size ≡ d.size) × (c.len ≡ d.len)) (map after_unpush columns)
same_length-undone [] same_length = same_length
same_length-undone (c ∷ rest) same_length =
    AllPairs-cons (λ c d. (c.size ≡ d.size) × (c.len ≡ d.len)) (after_unpush c) (map after_unpush rest)
    (All-map (λ d. (c.size ≡ d.size) × (c.len - 1 ≡ d.len)) after_unpush rest (λ k d below. let pair = pairs-head (λ c d. (c.size ≡ d.size) × (c.len ≡ d.len)) c rest same_length k d below in (pair.0, ap (λ l. l - 1) pair.1)))
    (same_length-undone rest (pairs-tail (λ c d. (c.size ≡ d.size) × (c.len ≡ d.len)) c rest same_length))

module _ {K : Type 0} where
  pub length-uncreated : (n : ℕ) (m : Movement (Option ℤ) K) → length (after_uncreate_all n m).records ≡ length m.records - n
  length-uncreated zero m = omega arith
  length-uncreated (suc n) m =
      let records = (after_uncreate_all n m).records in
      omega (arith, length-uncreated n m, length-take-le (length records - 1) records (omega arith))

  module _ (n : ℕ) (m mid : Movement (Option ℤ) K) (keeps : KeepsBelow n m mid) (p : ℕ) (below : p < n) where
    local-unchanged : is_local mid p ≡ is_local m p
    local-unchanged = ap (λ word. is_some (option_and_then at_of word)) (keeps.words p below)

    pins-unchanged : pins_of mid p ≡ pins_of m p
    pins-unchanged = ap (λ object_record. option_map_or (λ e. e.pins) object_record 0) (keeps.records p below)

    -- a row group that was just begun remains so if its object keeps its word and its record
    pub begun-unchanged : (c : Vector (Option ℤ)) → IsNewGroup m p c → IsNewGroup mid p c
    begun-unchanged c begun = record { alone = begun.alone; last = begun.last; local = local-unchanged ∙ begun.local; unpinned = pins-unchanged ∙ begun.unpinned }

  pub begun-count : (m : Movement (Option ℤ) K) (o : ℕ) (columns : NumberColumns) → AreBegunFrom m o columns → o + length columns ≡ length m.records
  begun-count m o [] is = omega (arith, is)
  begun-count m o (c ∷ columns) begun = omega (arith, begun-count m (o + 1) columns begun.1)

  -- columns whose row groups begin with object o and all objects after it have the last objects
  pub begun-last : (m : Movement (Option ℤ) K) (o : ℕ) (columns : NumberColumns) → AreBegunFrom m o columns → AreBegunLast m columns
  begun-last m o columns begun =
      let first : o ≡ length m.records - length columns = omega (arith, begun-count m o columns begun) in
      subst (λ n. AreBegunFrom m n columns) first begun

  module _ (m : Movement (Option ℤ) K) (c : Vector (Option ℤ)) (rest : NumberColumns) (begun : AreBegunLast m (c ∷ rest)) where
    -- the row groups after the first are the last ones begun
    pub rest-last : AreBegunLast m rest
    rest-last = begun-last m (length m.records - length (c ∷ rest) + 1) rest begun.1

    -- after these are undone, the row group of the first column is the last one begun
    pub first-last : (mid : Movement (Option ℤ) K) → mid ≡ after_uncreate_all (length rest) m → KeepsBelow (length mid.records) m mid → IsNewGroup mid (length mid.records - 1) c
    first-last mid is keeps =
        let all = begun-count m (length m.records - length (c ∷ rest)) (c ∷ rest) begun in
        let left : length mid.records ≡ length m.records - length rest = ap (λ w. length w.records) is ∙ length-uncreated (length rest) m in
        let number : length m.records - length (c ∷ rest) ≡ length mid.records - 1 = omega (arith, all, left) in
        begun-unchanged (length mid.records) m mid keeps (length mid.records - 1) (omega (arith, all, left)) c (subst (λ o. IsNewGroup m o c) number begun.0)

-- the object of a row group that was just begun
pub object-begun : (c : Vector (Option ℤ)) (n : ℕ) → IsShaped c → is_full c ≡ true → object_at (after_push c n) c.len ≡ n
object-begun c n shaped full =
    let places : c.len ≡ length c.objects * c.size + 0 = omega (arith, eqb-true c.len (length c.objects * c.size) full) in
    let group : length c.objects ≡ c.len / c.size = sym (ap (λ l. l / c.size) places ∙ div-mul-add (length c.objects) c.size 0 shaped.some) in
    rw full (get_or_push c.objects n 0 (c.len / c.size) group)

module _ {K : Type 0} (m mid new : Movement (Option ℤ) K) (c c' : Vector (Option ℤ)) (x : Option ℤ) (shaped : IsShaped c) (full : is_full c ≡ true) (is : c' ≡ after_push c (length m.records)) (written : mid ≡ objects_after_push m c x) (others : ChangesObject m mid (object_at c' c.len)) (keeps : KeepsBelow (length mid.records) mid new) where
  more : length mid.records ≡ length m.records + 1
  more = one-more m mid c c' x full is written

  object : object_at c' c.len ≡ length m.records
  object = ap (λ v. object_at v c.len) is ∙ object-begun c (length m.records) shaped full

  -- the objects that existed before do not change
  pub below-all : KeepsBelow (length m.records) m new
  below-all = record {
    words = λ p below. keeps.words p (omega (arith, below, more)) ∙ others.words p (λ e. omega (arith, e, object, below));
    records = λ p below. keeps.records p (omega (arith, below, more)) ∙ others.records p (λ e. omega (arith, e, object, below));
  }

  -- the first column begins a row group, and then the others do
  pub begun-all : (rest' : NumberColumns) → is_local mid (length m.records) ≡ true → pins_of mid (length m.records) ≡ 0 → AreBegunFrom new (length mid.records) rest' → AreBegunFrom new (length m.records) (c' ∷ rest')
  begun-all rest' local unpinned begun =
      let number : length mid.records - 1 ≡ length m.records = omega (arith, more) in
      let first : IsNewGroup mid (length m.records) c' = record { alone = alone m mid c c' x full is written; last = last m mid c c' x full is written ∙ ap Some number; local = local; unpinned = unpinned } in
      (begun-unchanged (length mid.records) mid new keeps (length m.records) (omega (arith, more)) c' first, subst (λ o. AreBegunFrom new o rest') more begun)

  -- undoing all restores the columns and the objects
  pub undone-all : (rest rest' : NumberColumns) → (after_unpush c' ≡ c) × (after_uncreate mid ≡ m) → (map after_unpush rest' ≡ rest) × (after_uncreate_all (length rest) new ≡ mid) → (map after_unpush (c' ∷ rest') ≡ c ∷ rest) × (after_uncreate_all (length (c ∷ rest)) new ≡ m)
  undone-all rest rest' first others = (
    ap (λ d. d ∷ map after_unpush rest') first.0 ∙ ap (λ l. c ∷ l) others.0,
    ap after_uncreate others.1 ∙ first.1,
  )
