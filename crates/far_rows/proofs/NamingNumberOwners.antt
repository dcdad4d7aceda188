-- The owners of the objects of number columns, after a number is appended to each.
use Rattle.std.proofs.Common.{◌≡◌, inl, inr, ℕ, zero, suc, ◌+◌, ◌%◌, ◌<◌, true, false, List, [], ◌∷◌, ◌++◌, map, length, get_or, sym, ap, subst, ◌∙◌, arith}
use Rattle.std.specs.Prelude.{ℤ, Option, Some, All, slice_get}
use Rattle.std.proofs.lemmas.Bool.{cases_eq}
use Rattle.std.proofs.lemmas.List.{append_assoc, append-nil, length-map}
use Rattle.std.proofs.lemmas.List.Elements.{All-head, All-tail}
use Rattle.std.proofs.lemmas.Option.{none-some, same_Some, slice_get_within, get_or_from_slice_get}
use Rattle.far_types.specs.declared.name.Name.{Name}
use Rattle.far_scopes.specs.Movement.{Movement}
use Rattle.far_scopes.proofs.MemoryWordPlaces.{slice_get-push_last}
use Rattle.far_columns.specs.Vector.{Vector}
use Rattle.far_columns.specs.Effects.{is_full, next_name, after_push, objects_after_push}
use Rattle.far_columns.specs.Numbers.{Numbers}
use Rattle.far_columns.specs.NumbersTogether.{NumberColumns, after_push_all, objects_after_push_all}
use Rattle.far_rows.specs.Naming.{names_of, AreOwned}
use Rattle.far_rows.proofs.RowsGroupStarts.{IsNumbers, number-begins, number-begun}
use Rattle.far_rows.proofs.EffectsNumberGrowth.{begun, longer}
use Rattle.far_rows.proofs.NamingCreation.{get-before}
use Rattle.far_rows.proofs.NamingNumbers.{names-made, names-written-in}
use Rattle.far_rows.proofs.NamingOwners.{AreMore, HaveNext, owned-still, owned-more}

abbrev column_of : Vector (Option ℤ) → ℕ
column_of c = c.column

abbrev objects_of : Vector (Option ℤ) → List ℕ
objects_of c = c.objects

-- each column keeps its index after a number is appended to each
pushed-at : (n : ℕ) (columns : NumberColumns) (i : ℕ) (c : Vector (Option ℤ)) → slice_get columns i ≡ Some c → slice_get (after_push_all n columns) i ≡ Some (after_push c (n + i))
pushed-at n [] i c at = absurd (none-some c at)
pushed-at n (d ∷ columns) zero c at =
    let same = same_Some d c at in
    let e : n ≡ n + 0 = omega arith in
    λ k. Some (after_push (same k) (e k))
pushed-at n (d ∷ columns) (suc i) c at =
    let e : n + 1 + i ≡ n + suc i = omega arith in
    pushed-at (n + 1) columns i c at ∙ (λ k. Some (after_push c (e k)))

known : (P : Vector (Option ℤ) → Type 0) (columns : NumberColumns) (i : ℕ) (c : Vector (Option ℤ)) → slice_get columns i ≡ Some c → All P columns → P c
known P columns i c at all = subst P (get_or_from_slice_get columns i c c at) (all i c (slice_get_within columns i c at))

module _ (n : ℕ) (columns : NumberColumns) where
  more-begun : All (λ c. is_full c ≡ true) columns → AreMore column_of objects_of columns (after_push_all n columns)
  more-begun full i c at =
      let is = begun c (n + i) (known (λ d. is_full d ≡ true) columns i c at full) in
      (after_push c (n + i), pushed-at n columns i c at, ap column_of is, λ g o there. ap (λ (d : Vector (Option ℤ)). slice_get d.objects g) is ∙ get-before c.objects ((n + i) ∷ []) g o there)

  next-begun : All (λ c. is_full c ≡ true) columns → HaveNext column_of objects_of n columns (after_push_all n columns)
  next-begun full i c at =
      let is = begun c (n + i) (known (λ d. is_full d ≡ true) columns i c at full) in
      (after_push c (n + i), pushed-at n columns i c at, ap column_of is, ap (λ (d : Vector (Option ℤ)). slice_get d.objects (length c.objects)) is ∙ slice_get-push_last c.objects (n + i))

  more-longer : All (λ c. is_full c ≡ false) columns → AreMore column_of objects_of columns (after_push_all n columns)
  more-longer not i c at =
      let is = longer c (n + i) (known (λ d. is_full d ≡ false) columns i c at not) in
      (after_push c (n + i), pushed-at n columns i c at, ap column_of is, λ g o there. ap (λ (d : Vector (Option ℤ)). slice_get d.objects g) is ∙ there)

module _ {K : Type 0} where
  -- if all columns begin row groups, the new objects have the names of these row groups, in order
  all-made : (m : Movement (Option ℤ) K) (columns : NumberColumns) (numbers : Numbers) → length numbers ≡ length columns → All (λ c. is_full c ≡ true) columns → names_of (objects_after_push_all m columns numbers) ≡ names_of m ++ map next_name columns
  all-made m [] numbers same_length full = sym (append-nil (names_of m))
  all-made m (c ∷ columns) [] same_length full = absurd (omega (arith, same_length))
  all-made m (c ∷ columns) (x ∷ numbers) same_length full =
      all-made (objects_after_push m c x) columns numbers (omega (arith, same_length)) (All-tail (λ d. is_full d ≡ true) c columns full)
      ∙ ap (λ (ns : List Name). ns ++ map next_name columns) (names-made m c x (All-head (λ d. is_full d ≡ true) c columns full))
      ∙ append_assoc (names_of m) (next_name c ∷ []) (map next_name columns)

  pub numbers-owned : (size len : ℕ) (columns : NumberColumns) → 0 < size → All (IsNumbers size len) columns → (m : Movement (Option ℤ) K) (numbers : Numbers) → length numbers ≡ length columns → AreOwned column_of objects_of (names_of m) columns → AreOwned column_of objects_of (names_of (objects_after_push_all m columns numbers)) (after_push_all (length m.records) columns)
  numbers-owned size len columns some are m numbers same_length owned =
      let n = length m.records in
      elim (cases_eq (len % size) zero) [
        | inl divides ↦
            let full : All (λ c. is_full c ≡ true) columns = λ k d below. number-begins size len some divides (get_or columns k d) (are k d below) in
            let count : n ≡ length (names_of m) = sym (length-map m.records (λ object_record. object_record.name)) in
            subst (λ (ns : List Name). AreOwned column_of objects_of ns (after_push_all n columns)) (sym (all-made m columns numbers same_length full))
            (owned-more column_of objects_of (names_of m) columns (after_push_all n columns) (more-begun n columns full) (subst (λ k. HaveNext column_of objects_of k columns (after_push_all n columns)) count (next-begun n columns full)) owned)
        | inr not_divides ↦
            let not : All (λ c. is_full c ≡ false) columns = λ k d below. number-begun size len some not_divides (get_or columns k d) (are k d below) in
            subst (λ (ns : List Name). AreOwned column_of objects_of ns (after_push_all n columns)) (sym (names-written-in m columns numbers not))
            (owned-still column_of objects_of (names_of m) columns (after_push_all n columns) (more-longer n columns not) owned)
      ]
