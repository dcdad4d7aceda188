-- The names of the objects of number columns, after a number is appended to each.
use Rattle.std.proofs.Common.{◌≡◌, inl, inr, ℕ, zero, ◌+◌, ◌%◌, ◌<◌, true, false, List, [], ◌∷◌, ◌++◌, length, map, get_or, refl, sym, ap, subst, ◌∙◌, arith}
use Rattle.std.specs.Prelude.{ℤ, Option, Some, All, slice_get}
use Rattle.std.proofs.lemmas.Bool.{cases_eq, cases_Bool}
use Rattle.std.proofs.lemmas.List.{length-map, length_push}
use Rattle.std.proofs.lemmas.List.Elements.{All-nil, All-cons, All-head, All-tail}
use Rattle.far_types.specs.declared.name.Name.{Name}
use Rattle.far_scopes.specs.Movement.{Movement}
use Rattle.far_scopes.specs.Effects.{after_create}
use Rattle.far_columns.specs.Vector.{Vector, object_at}
use Rattle.far_columns.specs.Effects.{is_full, next_name, next_group, after_push, objects_after_push}
use Rattle.far_columns.specs.Numbers.{Numbers}
use Rattle.far_columns.specs.NumbersTogether.{NumberColumns, after_push_all, objects_after_push_all}
use Rattle.far_rows.specs.Naming.{names_of, AreNamed}
use Rattle.far_rows.proofs.RowsGroupStarts.{IsNumbers, number-begins, number-begun}
use Rattle.far_rows.proofs.EffectsGrowth.{all-numbers}
use Rattle.far_rows.proofs.EffectsNumberGrowth.{begun, longer}
use Rattle.far_rows.proofs.NamingLaws.{names-after_write}
use Rattle.far_rows.proofs.NamingCreation.{Extends, get-before, named-more, named-next, names-after_create}

-- the objects of a column are named by it and by their row groups
abbrev pub IsNamed : List Name → Vector (Option ℤ) → Type 0
IsNamed names c = AreNamed names c.column c.objects

-- each column keeps its number
same-number : (c : Vector (Option ℤ)) (o : ℕ) → (after_push c o).column ≡ c.column
same-number c o = elim (cases_Bool (is_full c)) [
  | inl full ↦ ap (λ (d : Vector (Option ℤ)). d.column) (begun c o full)
  | inr not ↦ ap (λ (d : Vector (Option ℤ)). d.column) (longer c o not)
]

pub same-numbers : (n : ℕ) (columns : NumberColumns) → map (λ c. c.column) (after_push_all n columns) ≡ map (λ c. c.column) columns
same-numbers n [] = refl
same-numbers n (c ∷ columns) = let here = same-number c n in let rest = same-numbers (n + 1) columns in λ k. here k ∷ rest k

named-still : (names : List Name) (c : Vector (Option ℤ)) (o : ℕ) → (is_full c ≡ false) × IsNamed names c → IsNamed names (after_push c o)
named-still names c o was = subst (IsNamed names) (sym (longer c o was.0)) was.1

module _ {K : Type 0} where
  group-made : (m : Movement (Option ℤ) K) (c : Vector (Option ℤ)) (x : Option ℤ) → is_full c ≡ true → objects_after_push m c x ≡ after_create m (next_name c) (next_group c x)
  group-made m c x full = rw full refl

  pub names-made : (m : Movement (Option ℤ) K) (c : Vector (Option ℤ)) (x : Option ℤ) → is_full c ≡ true → names_of (objects_after_push m c x) ≡ names_of m ++ next_name c ∷ []
  names-made m c x full = ap names_of (group-made m c x full) ∙ names-after_create m (next_name c) (next_group c x)

  names-unchanged : (m : Movement (Option ℤ) K) (c : Vector (Option ℤ)) (x : Option ℤ) → is_full c ≡ false → names_of (objects_after_push m c x) ≡ names_of m
  names-unchanged m c x not = rw not (names-after_write m (object_at c c.len))

  number-extends : (m : Movement (Option ℤ) K) (c : Vector (Option ℤ)) (x : Option ℤ) → Extends (names_of m) (names_of (objects_after_push m c x))
  number-extends m c x o name at = elim (cases_Bool (is_full c)) [
    | inl full ↦ subst (λ (names : List Name). slice_get names o ≡ Some name) (sym (names-made m c x full)) (get-before (names_of m) (next_name c ∷ []) o name at)
    | inr not ↦ subst (λ (names : List Name). slice_get names o ≡ Some name) (sym (names-unchanged m c x not)) at
  ]

  numbers-extend : (m : Movement (Option ℤ) K) (columns : NumberColumns) (numbers : Numbers) → Extends (names_of m) (names_of (objects_after_push_all m columns numbers))
  numbers-extend m [] numbers o name at = at
  numbers-extend m (c ∷ columns) [] o name at = at
  numbers-extend m (c ∷ columns) (x ∷ numbers) o name at = numbers-extend (objects_after_push m c x) columns numbers o name (number-extends m c x o name at)

  -- if all columns begin row groups, each new object has the name of its column's row group
  named-begun : (m : Movement (Option ℤ) K) (columns : NumberColumns) (numbers : Numbers) (n : ℕ) → n ≡ length (names_of m) → length numbers ≡ length columns → All (λ c. is_full c ≡ true) columns → All (IsNamed (names_of m)) columns → All (IsNamed (names_of (objects_after_push_all m columns numbers))) (after_push_all n columns)
  named-begun m [] numbers n count same_length full named = All-nil (IsNamed (names_of (objects_after_push_all m [] numbers)))
  named-begun m (c ∷ columns) [] n count same_length full named = absurd (omega (arith, same_length))
  named-begun m (c ∷ columns) (x ∷ numbers) n count same_length full named =
      let next = objects_after_push m c x in
      let last = names_of (objects_after_push_all next columns numbers) in
      let first = All-head (λ d. is_full d ≡ true) c columns full in
      let made = names-made m c x first in
      let own : IsNamed (names_of next) (after_push c n) =
      subst (IsNamed (names_of next)) (sym (begun c n first)) (subst (λ (names : List Name). AreNamed names c.column (c.objects ++ n ∷ [])) (sym made)
      (subst (λ o. AreNamed (names_of m ++ next_name c ∷ []) c.column (c.objects ++ o ∷ [])) (sym count) (named-next (names_of m) c.column c.objects (All-head (IsNamed (names_of m)) c columns named)))) in
      let more : n + 1 ≡ length (names_of next) = omega (arith, count, ap length made, length_push (names_of m) (next_name c)) in
      let others : All (IsNamed (names_of next)) columns = λ k d below. named-more (names_of m) (names_of next) (get_or columns k d).column (get_or columns k d).objects (number-extends m c x) (All-tail (IsNamed (names_of m)) c columns named k d below) in
      All-cons (IsNamed last) (after_push c n) (after_push_all (n + 1) columns)
      (named-more (names_of next) last (after_push c n).column (after_push c n).objects (numbers-extend next columns numbers) own)
      (named-begun next columns numbers (n + 1) more (omega (arith, same_length)) (All-tail (λ d. is_full d ≡ true) c columns full) others)

  -- if no column begins a row group, all names stay
  pub names-written-in : (m : Movement (Option ℤ) K) (columns : NumberColumns) (numbers : Numbers) → All (λ c. is_full c ≡ false) columns → names_of (objects_after_push_all m columns numbers) ≡ names_of m
  names-written-in m [] numbers not = refl
  names-written-in m (c ∷ columns) [] not = refl
  names-written-in m (c ∷ columns) (x ∷ numbers) not =
      names-written-in (objects_after_push m c x) columns numbers (All-tail (λ d. is_full d ≡ false) c columns not) ∙ names-unchanged m c x (All-head (λ d. is_full d ≡ false) c columns not)

  pub numbers-named : (size len : ℕ) (columns : NumberColumns) → 0 < size → All (IsNumbers size len) columns → (m : Movement (Option ℤ) K) (numbers : Numbers) → length numbers ≡ length columns → All (IsNamed (names_of m)) columns → All (IsNamed (names_of (objects_after_push_all m columns numbers))) (after_push_all (length m.records) columns)
  numbers-named size len columns some are m numbers same_length named = elim (cases_eq (len % size) zero) [
    | inl divides ↦ named-begun m columns numbers (length m.records) (sym (length-map m.records (λ object_record. object_record.name))) same_length (λ k d below. number-begins size len some divides (get_or columns k d) (are k d below)) named
    | inr not_divides ↦
        let not : All (λ c. is_full c ≡ false) columns = λ k d below. number-begun size len some not_divides (get_or columns k d) (are k d below) in
        subst (λ (ns : List Name). All (IsNamed ns) (after_push_all (length m.records) columns)) (sym (names-written-in m columns numbers not))
        (all-numbers (λ c. (is_full c ≡ false) × IsNamed (names_of m) c) (IsNamed (names_of m)) (named-still (names_of m)) (length m.records) columns (λ k d below. (not k d below, named k d below)))
  ]
