-- Appending a row or setting a cell writes each object at most once.
use Rattle.std.proofs.Common.{◌≡◌, ◌≢◌, inl, inr, ℕ, zero, suc, ◌+◌, ◌-◌, ◌*◌, ◌/◌, ◌<◌, ◌≤◌, ◌%◌, true, false, List, [], ◌∷◌, ◌++◌, map, length, get_or, Option, None, Some, refl, sym, ap, subst, ◌∙◌, arith}
use Rattle.std.specs.Prelude.{ℤ, All, AllPairs, slice_get, slice_set}
use Rattle.std.specs.Option.{option_map_or}
use Rattle.std.proofs.lemmas.Bool.{cases_eq, cases_Bool, eqb-false}
use Rattle.std.proofs.lemmas.Nat.{div_below}
use Rattle.std.proofs.lemmas.Option.{slice_get-get_or}
use Rattle.std.proofs.lemmas.List.Elements.{All-nil, All-cons, All-head, All-tail}
use Rattle.far_types.specs.declared.name.Name.{Name}
use Rattle.far_scopes.specs.declared.object_record.ObjectRecord.{ObjectRecord}
use Rattle.far_scopes.specs.declared.replacement.Replacement.{Replacement}
use Rattle.far_scopes.specs.Movement.{Movement, version_of}
use Rattle.far_scopes.specs.Effects.{new_record, with_record, with_lens, after_create, after_write, after_write_all, after_replace_all}
use Rattle.far_scopes.proofs.MovementFrames.{object_record-with_other}
use Rattle.far_columns.specs.Vector.{Vector, IsShaped, AreDisjoint, object_at}
use Rattle.far_columns.specs.Effects.{is_full, objects_after_push}
use Rattle.far_columns.specs.Numbers.{Numbers, number_lists}
use Rattle.far_columns.specs.NumbersTogether.{NumberColumns, AreNumberColumns, objects_after_push_all}
use Rattle.far_texts.specs.Texts as texts
use Rattle.far_texts.specs.Texts.{Texts, Lists, HasGroups, lists_of}
use Rattle.far_texts.specs.Effects.{begins_group, last_object}
use Rattle.far_texts.specs.Together.{AreColumns, AreReplaced, all_begin, after_create_all, forms_of, next_forms}
use Rattle.far_columns.proofs.NumbersTogether.{pairs-head, pairs-tail}
use Rattle.far_rows.proofs.RowsGroupStarts.{IsNumbers, number-begins, number-begun, IsTexts, text-begun, texts-begin}
use Rattle.far_rows.proofs.NamingTexts.{true-not}

-- no number is listed twice
abbrev pub AreOnce : List ℕ → Type 0
AreOnce [] = Unit {0}
AreOnce (o ∷ os) = All (λ p. p ≢ o) os × AreOnce os

module _ {K : Type 0} where
  -- how often an object was written, by its record
  abbrev writes : List (ObjectRecord K) → ℕ → ℕ
  writes records o = option_map_or (λ e. e.version) (slice_get records o) 0

  abbrev once_more : ObjectRecord K → ObjectRecord K
  once_more object_record = record object_record { version = object_record.version + 1 }

  -- the records after these objects are written, one after another
  abbrev counted : List (ObjectRecord K) → List ℕ → List (ObjectRecord K)
  counted records [] = records
  counted records (o ∷ os) = counted (with_record records o once_more) os

  with-later : (e : ObjectRecord K) (records : List (ObjectRecord K)) (o : ℕ) (change : ObjectRecord K → ObjectRecord K) → with_record (e ∷ records) (suc o) change ≡ e ∷ with_record records o change
  with-later e records o change = found (slice_get records o) where
    found : (at : Option (ObjectRecord K)) → option_map_or (λ object_record. slice_set (e ∷ records) (suc o) (change object_record)) at (e ∷ records) ≡ e ∷ option_map_or (λ object_record. slice_set records o (change object_record)) at records
    found None = refl
    found (Some object_record) = refl

  writes-with : (records : List (ObjectRecord K)) (o : ℕ) → writes (with_record records o once_more) o ≤ writes records o + 1
  writes-with [] o = omega arith
  writes-with (e ∷ records) zero = omega arith
  writes-with (e ∷ records) (suc o) =
      let later : writes (with_record (e ∷ records) (suc o) once_more) (suc o) ≡ writes (with_record records o once_more) o = ap (λ l. writes l (suc o)) (with-later e records o once_more) in
      omega (arith, later, writes-with records o)

  writes-other : (records : List (ObjectRecord K)) (o p : ℕ) → p ≢ o → writes (with_record records o once_more) p ≡ writes records p
  writes-other records o p other = ap (λ at. option_map_or (λ e. e.version) at 0) (object_record-with_other records o once_more p other)

  writes-len : (records : List (ObjectRecord K)) (o n p : ℕ) → writes (with_record records o (λ object_record. record object_record { len = n })) p ≡ writes records p
  writes-len [] o n p = refl
  writes-len (e ∷ records) zero n zero = refl
  writes-len (e ∷ records) zero n (suc p) = refl
  writes-len (e ∷ records) (suc o) n zero = ap (λ l. writes l 0) (with-later e records o (λ object_record. record object_record { len = n }))
  writes-len (e ∷ records) (suc o) n (suc p) = ap (λ l. writes l (suc p)) (with-later e records o (λ object_record. record object_record { len = n })) ∙ writes-len records o n p

  writes-new : (records : List (ObjectRecord K)) (name : Name) (n p : ℕ) → writes (records ++ new_record name n ∷ []) p ≡ writes records p
  writes-new [] name n zero = refl
  writes-new [] name n (suc p) = refl
  writes-new (e ∷ records) name n zero = refl
  writes-new (e ∷ records) name n (suc p) = writes-new records name n p

  counted-others : (records : List (ObjectRecord K)) (os : List ℕ) (p : ℕ) → All (λ o. o ≢ p) os → writes (counted records os) p ≡ writes records p
  counted-others records [] p others = refl
  counted-others records (o ∷ os) p others =
      counted-others (with_record records o once_more) os p (All-tail (λ q. q ≢ p) o os others)
      ∙ writes-other records o p (λ same. All-head (λ q. q ≢ p) o os others (sym same))

  -- each object is written at most once if none is listed twice
  counted-once : (records : List (ObjectRecord K)) (os : List ℕ) → AreOnce os → (p : ℕ) → writes (counted records os) p ≤ writes records p + 1
  counted-once records [] once p = omega arith
  counted-once records (o ∷ os) once p = elim (cases_eq p o) [
    | inl same ↦
        let rest = counted-others (with_record records o once_more) os o once.0 in
        let here = writes-with records o in
        let at : writes (counted (with_record records o once_more) os) o ≤ writes records o + 1 = omega (arith, rest, here) in
        subst (λ q. writes (counted (with_record records o once_more) os) q ≤ writes records q + 1) (sym same) at
    | inr other ↦
        let rest = counted-once (with_record records o once_more) os once.1 p in
        let here = writes-other records o p other in
        omega (arith, rest, here)
  ]

  -- appending a number to each column writes each object at most once
  one-written : (m : Movement (Option ℤ) K) (c : Vector (Option ℤ)) (x : Option ℤ) → is_full c ≡ false → (objects_after_push m c x).records ≡ with_record m.records (object_at c c.len) once_more
  one-written m c x not = rw not refl

  one-made : (m : Movement (Option ℤ) K) (c : Vector (Option ℤ)) (x : Option ℤ) (p : ℕ) → is_full c ≡ true → writes (objects_after_push m c x).records p ≡ writes m.records p
  one-made m c x p full = rw full (writes-new m.records _ _ p)

  all-written : (m : Movement (Option ℤ) K) (columns : NumberColumns) (numbers : Numbers) → length numbers ≡ length columns → All (λ c. is_full c ≡ false) columns → (objects_after_push_all m columns numbers).records ≡ counted m.records (map (λ c. object_at c c.len) columns)
  all-written m [] numbers same_length not = refl
  all-written m (c ∷ columns) [] same_length not = absurd (omega (arith, same_length))
  all-written m (c ∷ columns) (x ∷ numbers) same_length not =
      all-written (objects_after_push m c x) columns numbers (omega (arith, same_length)) (All-tail (λ d. is_full d ≡ false) c columns not)
      ∙ ap (λ (l : List (ObjectRecord K)). counted l (map (λ (d : Vector (Option ℤ)). object_at d d.len) columns)) (one-written m c x (All-head (λ d. is_full d ≡ false) c columns not))

  all-made : (m : Movement (Option ℤ) K) (columns : NumberColumns) (numbers : Numbers) (p : ℕ) → All (λ c. is_full c ≡ true) columns → writes (objects_after_push_all m columns numbers).records p ≡ writes m.records p
  all-made m [] numbers p full = refl
  all-made m (c ∷ columns) [] p full = refl
  all-made m (c ∷ columns) (x ∷ numbers) p full =
      all-made (objects_after_push m c x) columns numbers p (All-tail (λ d. is_full d ≡ true) c columns full) ∙ one-made m c x p (All-head (λ d. is_full d ≡ true) c columns full)

-- the last object of a column that is not full is one of its objects
pub last-there : (c : Vector (Option ℤ)) → IsShaped c → is_full c ≡ false → c.len / c.size < length c.objects
last-there c shaped not = let ne = eqb-false c.len (length c.objects * c.size) not in div_below c.len c.size (length c.objects) shaped.some (omega (arith, shaped.enough, ne))

last-disjoint : (c d : Vector (Option ℤ)) → IsShaped c → IsShaped d → is_full c ≡ false → is_full d ≡ false → AreDisjoint c d → object_at d d.len ≢ object_at c c.len
last-disjoint c d of_c of_d not also disjoint same = disjoint (c.len / c.size) 0 (last-there c of_c not) (d.len / d.size) 0 (last-there d of_d also) (sym same)

numbers-once : (columns : NumberColumns) → All IsShaped columns → All (λ c. is_full c ≡ false) columns → AllPairs AreDisjoint columns → AreOnce (map (λ c. object_at c c.len) columns)
numbers-once [] shaped not disjoint = (cc)
numbers-once (c ∷ columns) shaped not disjoint = (
  all-others columns (All-tail IsShaped c columns shaped) (All-tail (λ d. is_full d ≡ false) c columns not) (pairs-head AreDisjoint c columns disjoint),
  numbers-once columns (All-tail IsShaped c columns shaped) (All-tail (λ d. is_full d ≡ false) c columns not) (pairs-tail AreDisjoint c columns disjoint),
) where
  all-others : (ds : NumberColumns) → All IsShaped ds → All (λ d. is_full d ≡ false) ds → All (AreDisjoint c) ds → All (λ p. p ≢ object_at c c.len) (map (λ d. object_at d d.len) ds)
  all-others [] of_ds nots aparts = All-nil (λ p. p ≢ object_at c c.len)
  all-others (d ∷ ds) of_ds nots aparts =
      All-cons (λ p. p ≢ object_at c c.len) (object_at d d.len) (map (λ e. object_at e e.len) ds)
      (last-disjoint c d (All-head IsShaped c columns shaped) (All-head IsShaped d ds of_ds) (All-head (λ e. is_full e ≡ false) c columns not) (All-head (λ e. is_full e ≡ false) d ds nots) (All-head (AreDisjoint c) d ds aparts))
      (all-others ds (All-tail IsShaped d ds of_ds) (All-tail (λ e. is_full e ≡ false) d ds nots) (All-tail (AreDisjoint c) d ds aparts))

module _ {K : Type 0} (content : K → List ℕ) where
  pub number-versions : (size len : ℕ) (columns : NumberColumns) → 0 < size → All (IsNumbers size len) columns → (m : Movement (Option ℤ) K) → AreNumberColumns (number_lists content m) columns → (numbers : Numbers) → length numbers ≡ length columns → (o : ℕ) → version_of (objects_after_push_all m columns numbers) o ≤ version_of m o + 1
  number-versions size len columns some are m all_disjoint numbers same_length o = elim (cases_eq (len % size) 0) [
    | inl divides ↦
        let full : All (λ c. is_full c ≡ true) columns = λ k d below. number-begins size len some divides (get_or columns k d) (are k d below) in
        omega (arith, all-made m columns numbers o full)
    | inr not_divides ↦
        let not : All (λ c. is_full c ≡ false) columns = λ k d below. number-begun size len some not_divides (get_or columns k d) (are k d below) in
        let shaped : All IsShaped columns = λ k d below. (are k d below).shaped in
        let last = map (λ (c : Vector (Option ℤ)). object_at c c.len) columns in
        subst (λ (l : List (ObjectRecord K)). writes l o ≤ writes m.records o + 1) (sym (all-written m columns numbers same_length not)) (counted-once m.records last (numbers-once columns shaped not all_disjoint.all_disjoint.disjoint) o)
  ]

-- appending a text to each column writes each object at most once
module _ {K : Type 0} where
  lens-unchanged : (records : List (ObjectRecord K)) (lists : List (Replacement ℕ)) (p : ℕ) → writes (with_lens records lists) p ≡ writes records p
  lens-unchanged records [] p = refl
  lens-unchanged records (r ∷ rs) p = lens-unchanged (with_record records r.object (λ object_record. record object_record { len = length r.list.items })) rs p ∙ writes-len records r.object (length r.list.items) p

  all-counted : (m : Movement ℕ K) (lists : List (Replacement ℕ)) → (after_write_all m lists).records ≡ counted m.records (map (λ f. f.0) (forms_of lists))
  all-counted m [] = refl
  all-counted m (r ∷ rs) = all-counted (after_write m r.object) rs

  replaced-once : (m : Movement ℕ K) (lists : List (Replacement ℕ)) → AreOnce (map (λ f. f.0) (forms_of lists)) → (p : ℕ) → version_of (after_replace_all m lists) p ≤ version_of m p + 1
  replaced-once m lists once p =
      let objects = map (λ (f : ℕ × List ℕ). f.0) (forms_of lists) in
      let lens = lens-unchanged m.records lists p in
      let after = counted-once (with_lens m.records lists) objects once p in
      let same : writes (after_replace_all m lists).records p ≡ writes (counted (with_lens m.records lists) objects) p = ap (λ l. writes l p) (all-counted _ lists) in
      omega (arith, lens, after, same)

  texts-made : (m : Movement ℕ K) (columns : List Texts) (forms : List (ℕ × List ℕ)) (p : ℕ) → version_of (after_create_all m columns forms) p ≡ version_of m p
  texts-made m [] forms p = refl
  texts-made m (c ∷ columns) [] p = refl
  texts-made m (c ∷ columns) (form ∷ forms) p = texts-made (after_create m record { column = c.column; group = length c.objects } form.1) columns forms p ∙ writes-new m.records _ _ p

next-objects : (lists : Lists) (n : ℕ) (columns : List Texts) (texts : List (Option (List ℕ))) → length texts ≡ length columns → All (λ c. begins_group c ≡ false) columns → map (λ f. f.0) (next_forms lists n columns texts) ≡ map last_object columns
next-objects lists n [] texts same_length not = refl
next-objects lists n (c ∷ columns) [] same_length not = absurd (omega (arith, same_length))
next-objects lists n (c ∷ columns) (text ∷ texts) same_length not =
    let first = All-head (λ d. begins_group d ≡ false) c columns not in
    let rest = next-objects lists (n + 1) columns texts (omega (arith, same_length)) (All-tail (λ d. begins_group d ≡ false) c columns not) in
    rw first (ap (λ (l : List ℕ). last_object c ∷ l) rest)

last-text : (c : Texts) → HasGroups c → begins_group c ≡ false → slice_get c.objects (length c.objects - 1) ≡ Some (last_object c)
last-text c has not = let ne = eqb-false c.len (length c.objects * c.size) not in slice_get-get_or c.objects (length c.objects - 1) 0 (some-there c.objects c.size c.len has.held ne) where
  some-there : (os : List ℕ) (size len : ℕ) → len ≤ length os * size → len ≢ length os * size → length os - 1 < length os
  some-there [] size len held ne = absurd (ne (omega (arith, held)))
  some-there (o ∷ os) size len held ne = omega arith

texts-once : (columns : List Texts) → All HasGroups columns → All (λ c. begins_group c ≡ false) columns → AllPairs texts.AreDisjoint columns → AreOnce (map last_object columns)
texts-once [] has not disjoint = (cc)
texts-once (c ∷ columns) has not disjoint = (
  all-others columns (All-tail HasGroups c columns has) (All-tail (λ d. begins_group d ≡ false) c columns not) (pairs-head texts.AreDisjoint c columns disjoint),
  texts-once columns (All-tail HasGroups c columns has) (All-tail (λ d. begins_group d ≡ false) c columns not) (pairs-tail texts.AreDisjoint c columns disjoint),
) where
  all-others : (ds : List Texts) → All HasGroups ds → All (λ d. begins_group d ≡ false) ds → All (texts.AreDisjoint c) ds → All (λ p. p ≢ last_object c) (map last_object ds)
  all-others [] of_ds nots aparts = All-nil (λ p. p ≢ last_object c)
  all-others (d ∷ ds) of_ds nots aparts =
      All-cons (λ p. p ≢ last_object c) (last_object d) (map last_object ds)
      (λ same. All-head (texts.AreDisjoint c) d ds aparts (length c.objects - 1) (length d.objects - 1) (last_object c) (last-text c (All-head HasGroups c columns has) (All-head (λ e. begins_group e ≡ false) c columns not)) (last-text d (All-head HasGroups d ds of_ds) (All-head (λ e. begins_group e ≡ false) d ds nots) ∙ ap Some same))
      (all-others ds (All-tail HasGroups d ds of_ds) (All-tail (λ e. begins_group e ≡ false) d ds nots) (All-tail (texts.AreDisjoint c) d ds aparts))

module _ {K : Type 0} (content : K → List ℕ) (size len : ℕ) (columns : List Texts) (some : 0 < size) (are : All (IsTexts size len) columns) (m now : Movement ℕ K) (all_disjoint : AreColumns (lists_of content m) columns) where
  pub text-versions : (texts : List (Option (List ℕ))) → length texts ≡ length columns
      → (all_begin columns ≡ true → now ≡ after_create_all m columns (next_forms (lists_of content m) (length m.records) columns texts))
      → (all_begin columns ≡ false → AreReplaced m (next_forms (lists_of content m) (length m.records) columns texts) now)
      → (o : ℕ) → version_of now o ≤ version_of m o + 1
  text-versions texts same_length made replaced o = elim (cases_Bool (all_begin columns)) [
    | inl begin ↦
        let forms = next_forms (lists_of content m) (length m.records) columns texts in
        omega (arith, ap (λ (objects : Movement ℕ K). version_of objects o) (made begin), texts-made m columns forms o)
    | inr not ↦
        let forms = next_forms (lists_of content m) (length m.records) columns texts in
        let disjoint : len % size ≢ 0 = λ divides. true-not (sym (texts-begin size len columns some divides are) ∙ not) in
        let none : All (λ c. begins_group c ≡ false) columns = λ k d below. text-begun size len some disjoint (get_or columns k d) (are k d below) in
        let grouped : All HasGroups columns = λ k d below. (are k d below).grouped in
        let given = replaced not in
        let once = subst AreOnce (sym (ap (map (λ (f : ℕ × List ℕ). f.0)) given.1 ∙ next-objects (lists_of content m) (length m.records) columns texts same_length none)) (texts-once columns grouped none all_disjoint.all_disjoint.disjoint) in
        omega (arith, ap (λ (objects : Movement ℕ K). version_of objects o) given.2, replaced-once m given.0 once o)
  ]

-- a write of one object raises no version by more than one
pub after_write-once : {X K : Type 0} (m : Movement X K) (o p : ℕ) → version_of (after_write m o) p ≤ version_of m p + 1
after_write-once m o p = counted-once m.records (o ∷ []) (All-nil (λ q. q ≢ o), (cc)) p

pub replaced-version : {X K : Type 0} (m : Movement X K) (o n p : ℕ) → writes (with_record (with_record m.records o (λ object_record. record object_record { len = n })) o once_more) p ≤ version_of m p + 1
replaced-version m o n p =
    let records = with_record m.records o (λ object_record. record object_record { len = n }) in
    let more = counted-once records (o ∷ []) (All-nil (λ q. q ≢ o), (cc)) p in
    omega (arith, more, writes-len m.records o n p)
