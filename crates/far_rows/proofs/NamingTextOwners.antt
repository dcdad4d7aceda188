-- The owners of the objects of text columns, after a text is appended to each.
use Rattle.std.proofs.Common.{◌≡◌, ◌≢◌, inl, inr, ℕ, zero, suc, ◌+◌, ◌%◌, ◌<◌, true, false, List, [], ◌∷◌, ◌++◌, map, length, get_or, Option, Some, sym, ap, subst, ◌∙◌, arith}
use Rattle.std.specs.Prelude.{All, slice_get}
use Rattle.std.proofs.lemmas.Bool.{cases_Bool}
use Rattle.std.proofs.lemmas.List.{append_assoc, append-nil, length-map}
use Rattle.std.proofs.lemmas.List.Sums.{AllPass-from_list_all}
use Rattle.std.proofs.lemmas.Option.{none-some, same_Some, slice_get_within, get_or_from_slice_get}
use Rattle.far_codec.specs.TextForm.{texts_form}
use Rattle.far_types.specs.declared.name.Name.{Name}
use Rattle.far_scopes.specs.Movement.{Movement}
use Rattle.far_scopes.proofs.MemoryWordPlaces.{slice_get-push_last}
use Rattle.far_texts.specs.Texts.{Texts, Lists}
use Rattle.far_texts.specs.Effects.{begins_group, group_with_next, after_push}
use Rattle.far_texts.specs.Together.{AreReplaced, all_begin, after_create_all, after_push_all, next_forms}
use Rattle.far_rows.specs.Naming.{names_of, AreOwned}
use Rattle.far_rows.proofs.RowsGroupStarts.{IsTexts, text-begun, texts-begin}
use Rattle.far_rows.proofs.EffectsTextGrowth.{begun, longer}
use Rattle.far_rows.proofs.NamingCreation.{get-before, names-after_create}
use Rattle.far_rows.proofs.NamingTexts.{next_name, one, names-unchanged, true-not}
use Rattle.far_rows.proofs.NamingOwners.{AreMore, HaveNext, owned-still, owned-more}

abbrev column_of : Texts → ℕ
column_of c = c.column

abbrev objects_of : Texts → List ℕ
objects_of c = c.objects

pushed-at : (n : ℕ) (columns : List Texts) (i : ℕ) (c : Texts) → slice_get columns i ≡ Some c → slice_get (after_push_all n columns) i ≡ Some (after_push c (n + i))
pushed-at n [] i c at = absurd (none-some c at)
pushed-at n (d ∷ columns) zero c at =
    let same = same_Some d c at in
    let e : n ≡ n + 0 = omega arith in
    λ k. Some (after_push (same k) (e k))
pushed-at n (d ∷ columns) (suc i) c at =
    let e : n + 1 + i ≡ n + suc i = omega arith in
    pushed-at (n + 1) columns i c at ∙ (λ k. Some (after_push c (e k)))

known : (P : Texts → Type 0) (columns : List Texts) (i : ℕ) (c : Texts) → slice_get columns i ≡ Some c → All P columns → P c
known P columns i c at all = subst P (get_or_from_slice_get columns i c c at) (all i c (slice_get_within columns i c at))

module _ (n : ℕ) (columns : List Texts) where
  more-begun : All (λ c. begins_group c ≡ true) columns → AreMore column_of objects_of columns (after_push_all n columns)
  more-begun full i c at =
      let is = begun c (n + i) (known (λ d. begins_group d ≡ true) columns i c at full) in
      (after_push c (n + i), pushed-at n columns i c at, ap column_of is, λ g o there. ap (λ (d : Texts). slice_get d.objects g) is ∙ get-before c.objects ((n + i) ∷ []) g o there)

  next-begun : All (λ c. begins_group c ≡ true) columns → HaveNext column_of objects_of n columns (after_push_all n columns)
  next-begun full i c at =
      let is = begun c (n + i) (known (λ d. begins_group d ≡ true) columns i c at full) in
      (after_push c (n + i), pushed-at n columns i c at, ap column_of is, ap (λ (d : Texts). slice_get d.objects (length c.objects)) is ∙ slice_get-push_last c.objects (n + i))

  more-longer : All (λ c. begins_group c ≡ false) columns → AreMore column_of objects_of columns (after_push_all n columns)
  more-longer not i c at =
      let is = longer c (n + i) (known (λ d. begins_group d ≡ false) columns i c at not) in
      (after_push c (n + i), pushed-at n columns i c at, ap column_of is, λ g o there. ap (λ (d : Texts). slice_get d.objects g) is ∙ there)

module _ {K : Type 0} (lists : Lists) where
  all-made : (m : Movement ℕ K) (n : ℕ) (columns : List Texts) (texts : List (Option (List ℕ))) → length texts ≡ length columns → names_of (after_create_all m columns (next_forms lists n columns texts)) ≡ names_of m ++ map next_name columns
  all-made m n [] texts same_length = sym (append-nil (names_of m))
  all-made m n (c ∷ columns) [] same_length = absurd (omega (arith, same_length))
  all-made m n (c ∷ columns) (text ∷ texts) same_length =
      all-made (one lists m c text) (n + 1) columns texts (omega (arith, same_length))
      ∙ ap (λ (ns : List Name). ns ++ map next_name columns) (names-after_create m (next_name c) (texts_form (group_with_next lists c text)))
      ∙ append_assoc (names_of m) (next_name c ∷ []) (map next_name columns)

  pub texts-owned : (size len : ℕ) (columns : List Texts) → 0 < size → All (IsTexts size len) columns → (m now : Movement ℕ K) (texts : List (Option (List ℕ))) → length texts ≡ length columns
      → (all_begin columns ≡ true → now ≡ after_create_all m columns (next_forms lists (length m.records) columns texts))
      → (all_begin columns ≡ false → AreReplaced m (next_forms lists (length m.records) columns texts) now)
      → AreOwned column_of objects_of (names_of m) columns → AreOwned column_of objects_of (names_of now) (after_push_all (length m.records) columns)
  texts-owned size len columns some are m now texts same_length made replaced owned =
      let n = length m.records in
      elim (cases_Bool (all_begin columns)) [
        | inl begin ↦
            let full = AllPass-from_list_all begins_group columns begin in
            let count : n ≡ length (names_of m) = sym (length-map m.records (λ object_record. object_record.name)) in
            subst (λ (ns : List Name). AreOwned column_of objects_of ns (after_push_all n columns)) (sym (ap names_of (made begin) ∙ all-made m n columns texts same_length))
            (owned-more column_of objects_of (names_of m) columns (after_push_all n columns) (more-begun n columns full) (subst (λ k. HaveNext column_of objects_of k columns (after_push_all n columns)) count (next-begun n columns full)) owned)
        | inr not ↦
            let disjoint : len % size ≢ 0 = λ divides. true-not (sym (texts-begin size len columns some divides are) ∙ not) in
            let none : All (λ c. begins_group c ≡ false) columns = λ k d below. text-begun size len some disjoint (get_or columns k d) (are k d below) in
            subst (λ (ns : List Name). AreOwned column_of objects_of ns (after_push_all n columns)) (sym (names-unchanged lists m now (next_forms lists n columns texts) (replaced not)))
            (owned-still column_of objects_of (names_of m) columns (after_push_all n columns) (more-longer n columns none) owned)
      ]
