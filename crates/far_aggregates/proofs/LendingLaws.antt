-- The columns that a row group lends have the cells of its places, and include each column that an aggregate needs.
use Rattle.std.proofs.Common.{inl, inr, ◌≡◌, ℕ, zero, suc, ◌≤◌, length, arith, Bool, true, false, ◌||◌, cond, List, [], ◌∷◌, Option, None, Some, refl, sym, ap, ◌∙◌, subst, slice_get}
use Rattle.std.specs.Prelude.{◌==◌, ◌⊎◌, option_map, IfSome}
use Rattle.std.specs.List.{AllByRecursion, list_any}
use Rattle.std.specs.Option.{option_map_or}
use Rattle.std.proofs.lemmas.Bool.{eqb-true, eq-eqb, or_left, or_right}
use Rattle.std.proofs.lemmas.Bool.Decides.{eqb_tells}
use Rattle.far_types.specs.declared.cell.Cell.{Cell}
use Rattle.far_types.specs.declared.filter.Test.{Test}
use Rattle.far_types.specs.declared.spec.Spec.{Spec}
use Rattle.far_types.specs.Bounds.{needs}
use Rattle.far_types.specs.Bounds as bounds
use Rattle.far_types.specs.Cells.{cells_of}
use Rattle.far_types.specs.Table.{Place}
use Rattle.far_offload.specs.AtHand.{AreAtHand}
use Rattle.far_offload.specs.Columns.{Columns, is_number, column_of, cell_of, cells_at}
use Rattle.far_aggregates.specs.Lending.{IsOfPlaces, IsLent, IsServed}

-- a column has this number, or begins with the cells of the places
abbrev pub IsHere : List Place → ℕ → ℕ × List Cell → Type 0
IsHere here value column = (column.0 ≡ value) ⊎ IsOfPlaces here column

-- a lent column has the cells of the places, unless its number is `value`
shows : (here : List Place) (value : ℕ) (columns : Columns) (c i : ℕ) (place : Place) → (value ≡ c → ⊥) → AllByRecursion (IsHere here value) columns → list_any (is_number c) columns ≡ true → slice_get here i ≡ Some place → cells_at columns i c ≡ cells_of place.cells c
shows here value [] c i place other are there at = cc
shows here value (column ∷ columns) c i place other are there at =
    elim (is_number c column) as (λ b. is_number c column ≡ b → (b || list_any (is_number c) columns) ≡ true → option_map (cell_of i) (cond b (Some column) (column_of columns c)) ≡ cells_of place.cells c) [
      | true ↦ λ e h. elim are.0 [
        | inl same ↦ absurd (other (sym same ∙ eqb-true column.0 c e))
        | inr of_places ↦ of_places i place at ∙ ap (cells_of place.cells) (eqb-true column.0 c e)
      ]
      | false ↦ λ e h. shows here value columns c i place other are.1 h at
    ] refl there

-- the first column has this number, so no look-up finds a later column with the same number
first : (here : List Place) (column : ℕ × List Cell) (columns : Columns) (c i : ℕ) (place : Place) → IsOfPlaces here column → AllByRecursion (IsHere here column.0) columns → list_any (is_number c) (column ∷ columns) ≡ true → slice_get here i ≡ Some place → cells_at (column ∷ columns) i c ≡ cells_of place.cells c
first here column columns c i place of_places are there at = elim (eqb_tells column.0 c) as (λ o. cells_at (column ∷ columns) i c ≡ cells_of place.cells c) [
  | inl t ↦ ap (λ b. option_map (cell_of i) (cond b (Some column) (column_of columns c))) t.0 ∙ of_places i place at ∙ ap (cells_of place.cells) t.1
  | inr t ↦
      let rest : list_any (is_number c) columns ≡ true = sym (ap (λ b. b || list_any (is_number c) columns) t.0) ∙ there in
      ap (λ b. option_map (cell_of i) (cond b (Some column) (column_of columns c))) t.0 ∙ shows here column.0 columns c i place t.1 are rest at
]

-- each needed column is the column of a test, of the key or of the value

pub or-cases : (a b : Bool) → (a || b) ≡ true → (a ≡ true) ⊎ (b ≡ true)
or-cases true b h = inl refl
or-cases false b h = inr h

keyed-is : (key : Option ℕ) (c : ℕ) → option_map_or (λ k. k == c) key false ≡ true → key ≡ Some c
keyed-is None c h = cc
keyed-is (Some k) c h = ap Some (eqb-true k c h)

is_it : (c : ℕ) (column : ℕ × List Cell) → column.0 ≡ c → is_number c column ≡ true
is_it c column h = eq-eqb column.0 c h

-- the columns have the numbers of the tests, in order
abbrev Numbered : List Test → Columns → Type 0
Numbered [] columns = Unit {0}
Numbered (test ∷ tests) [] = ⊥
Numbered (test ∷ tests) (column ∷ columns) = (column.0 ≡ bounds.column_of test) × Numbered tests columns

tested-there : (tests : List Test) (columns : Columns) (c : ℕ) → Numbered tests columns → list_any (λ test. bounds.column_of test == c) tests ≡ true → list_any (is_number c) columns ≡ true
tested-there [] columns c h some = cc
tested-there (test ∷ tests) [] c h some = absurd h
tested-there (test ∷ tests) (column ∷ columns) c h some = elim (or-cases (bounds.column_of test == c) (list_any (λ t. bounds.column_of t == c) tests) some) [
  | inl e ↦ or_left (is_number c column) (list_any (is_number c) columns) (is_it c column (h.0 ∙ eqb-true (bounds.column_of test) c e))
  | inr e ↦ or_right (is_number c column) (list_any (is_number c) columns) (tested-there tests columns c h.1 e)
]

-- the column of the n-th test, if there is one
abbrev pub nth_test : List Test → ℕ → Option ℕ
nth_test tests i = option_map bounds.column_of (slice_get tests i)

-- the columns that are lent for an aggregate, with the value column first
module _ (here : List Place) (other : ℕ) where
  is_here : (value : ℕ) (number : Option ℕ) (column : ℕ × List Cell) → value ≡ other → IsLent here other number column → IsHere here value column
  is_here value None column e h = inl (h ∙ sym e)
  is_here value (Some number) column e h = inr h.1

  numbered : (tests : List Test) (one two three four : ℕ × List Cell) → length tests ≤ 4 → IsLent here other (nth_test tests 0) one → IsLent here other (nth_test tests 1) two → IsLent here other (nth_test tests 2) three → IsLent here other (nth_test tests 3) four
      → Numbered tests (one ∷ two ∷ three ∷ four ∷ [])
  numbered [] one two three four few a b c d = tt
  numbered (t ∷ []) one two three four few a b c d = (a.0, tt)
  numbered (t ∷ u ∷ []) one two three four few a b c d = (a.0, (b.0, tt))
  numbered (t ∷ u ∷ v ∷ []) one two three four few a b c d = (a.0, (b.0, (c.0, tt)))
  numbered (t ∷ u ∷ v ∷ w ∷ []) one two three four few a b c d = (a.0, (b.0, (c.0, (d.0, tt))))
  numbered (t ∷ u ∷ v ∷ w ∷ x ∷ tests) one two three four few a b c d = absurd (omega arith)

pub at_hand : (spec : Spec) (here : List Place) (value key one two three four : ℕ × List Cell) → length spec.filter ≤ 4 → IsLent here spec.value (Some spec.value) value → IsLent here spec.value spec.key key
    → IsLent here spec.value (nth_test spec.filter 0) one → IsLent here spec.value (nth_test spec.filter 1) two → IsLent here spec.value (nth_test spec.filter 2) three → IsLent here spec.value (nth_test spec.filter 3) four
    → AreAtHand spec (value ∷ key ∷ one ∷ two ∷ three ∷ four ∷ []) here
at_hand spec here value key one two three four few is_value is_key is_one is_two is_three is_four = λ c i place needed at. first here value (key ∷ one ∷ two ∷ three ∷ four ∷ []) c i place is_value.1 all (there c needed) at where
  all : AllByRecursion (IsHere here value.0) (key ∷ one ∷ two ∷ three ∷ four ∷ [])
  all = (is_here here spec.value value.0 spec.key key is_value.0 is_key, (is_here here spec.value value.0 (nth_test spec.filter 0) one is_value.0 is_one, (is_here here spec.value value.0 (nth_test spec.filter 1) two is_value.0 is_two, (is_here here spec.value value.0 (nth_test spec.filter 2) three is_value.0 is_three, (is_here here spec.value value.0 (nth_test spec.filter 3) four is_value.0 is_four, tt)))))

  there : (c : ℕ) → needs spec c ≡ true → list_any (is_number c) (value ∷ key ∷ one ∷ two ∷ three ∷ four ∷ []) ≡ true
  there c needed =
      let test = list_any (λ t. bounds.column_of t == c) spec.filter in
      let keyed = option_map_or (λ k. k == c) spec.key false in
      let behind = list_any (is_number c) (one ∷ two ∷ three ∷ four ∷ []) in
      elim (or-cases (test || keyed) (spec.value == c) needed) [
        | inl h ↦ elim (or-cases test keyed h) [
          | inl t ↦ or_right (is_number c value) (is_number c key || behind) (or_right (is_number c key) behind (tested-there spec.filter (one ∷ two ∷ three ∷ four ∷ []) c (numbered here spec.value spec.filter one two three four few is_one is_two is_three is_four) t))
          | inr k ↦
              let lent = subst (λ o. IsLent here spec.value o key) (keyed-is spec.key c k) is_key in
              or_right (is_number c value) (is_number c key || behind) (or_left (is_number c key) behind (is_it c key lent.0))
        ]
        | inr h ↦ or_left (is_number c value) (is_number c key || behind) (is_it c value (is_value.0 ∙ eqb-true spec.value c h))
      ]

-- without tests only two columns are lent
pub untested-at_hand : (spec : Spec) (here : List Place) (value key : ℕ × List Cell) → spec.filter ≡ [] → IsLent here spec.value (Some spec.value) value → IsLent here spec.value spec.key key → AreAtHand spec (value ∷ key ∷ []) here
untested-at_hand spec here value key untested is_value is_key = λ c i place needed at. first here value (key ∷ []) c i place is_value.1 (is_here here spec.value value.0 spec.key key is_value.0 is_key, tt) (there c needed) at where
  there : (c : ℕ) → needs spec c ≡ true → list_any (is_number c) (value ∷ key ∷ []) ≡ true
  there c needed =
      let test = list_any (λ t. bounds.column_of t == c) spec.filter in
      let keyed = option_map_or (λ k. k == c) spec.key false in
      let behind = list_any (is_number c) (key ∷ []) in
      elim (or-cases (test || keyed) (spec.value == c) needed) [
        | inl h ↦ elim (or-cases test keyed h) [
          | inl t ↦
              let none : list_any (λ (u : Test). bounds.column_of u == c) [] ≡ true = subst (λ (tests : List Test). list_any (λ u. bounds.column_of u == c) tests ≡ true) untested t in
              absurd (cc none)
          | inr k ↦
              let lent = subst (λ o. IsLent here spec.value o key) (keyed-is spec.key c k) is_key in
              or_right (is_number c value) behind (or_left (is_number c key) false (is_it c key lent.0))
        ]
        | inr h ↦ or_left (is_number c value) behind (is_it c value (is_value.0 ∙ eqb-true spec.value c h))
      ]

-- the column of a test is needed

nth-any : (tests : List Test) (i n : ℕ) → nth_test tests i ≡ Some n → list_any (λ t. bounds.column_of t == n) tests ≡ true
nth-any [] i n h = cc
nth-any (test ∷ tests) zero n h =
    let same : bounds.column_of test ≡ n = cc in
    or_left (bounds.column_of test == n) (list_any (λ t. bounds.column_of t == n) tests) (eq-eqb (bounds.column_of test) n same)
nth-any (test ∷ tests) (suc i) n h = or_right (bounds.column_of test == n) (list_any (λ t. bounds.column_of t == n) tests) (nth-any tests i n h)

asked : (has : ℕ → Bool) (spec : Spec) (i : ℕ) (o : Option ℕ) → IsServed has spec → nth_test spec.filter i ≡ o → IfSome o (λ n. has n ≡ true)
asked has spec i None served h = tt
asked has spec i (Some n) served h =
    let test = list_any (λ t. bounds.column_of t == n) spec.filter in
    let keyed = option_map_or (λ k. k == n) spec.key false in
    served.at_hand n (or_left (test || keyed) (spec.value == n) (or_left test keyed (nth-any spec.filter i n h)))

pub test-at_hand : (has : ℕ → Bool) (spec : Spec) (i : ℕ) (o : Option ℕ) → IsServed has spec → o ≡ nth_test spec.filter i → IfSome o (λ n. has n ≡ true)
test-at_hand has spec i o served h = asked has spec i o served (sym h)
