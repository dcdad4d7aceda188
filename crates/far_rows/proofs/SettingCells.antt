-- The cells of a table after a value is put at a place of one column.
use Rattle.std.proofs.Common.{◌≡◌, ◌≢◌, inl, inr, ℕ, zero, suc, ◌<◌, List, [], ◌∷◌, length, map, get_or, set, Option, Some, refl, sym, ap, ◌∙◌, arith}
use Rattle.std.specs.Prelude.{ℤ, AllPairs, option_map, slice_get}
use Rattle.std.proofs.lemmas.Bool.{cases_eq, cases_lt}
use Rattle.std.proofs.lemmas.List.{get_or-set_same, get_or-set_other, map-set}
use Rattle.std.proofs.lemmas.Option.{slice_get_within, slice_get-map, get_or_from_slice_get}
use Rattle.far_columns.specs.Numbers.{Numbers}
use Rattle.far_rows.specs.declared.column_index.ColumnIndex.{ColumnIndex}
use Rattle.far_rows.specs.declared.column_index.ColumnIndex.TheVariants as column_index
use Rattle.far_types.specs.Lent.{int_cell, text_cell}
use Rattle.far_types.specs.declared.cell.Kind.{Kind}
use Rattle.far_rows.specs.ColumnIndexes.{kind_of, column_in, columns_of}
use Rattle.far_rows.specs.Setting.{with_cell_at}
use Rattle.far_rows.proofs.SettingColumns.{map-one}

-- the texts of several columns
abbrev TextLists : Type 0
TextLists = List (List (Option (List ℕ)))

-- another column has another index
other-column_index : (column_indexes : List ColumnIndex) → AllPairs (λ s t. s ≢ t) column_indexes → (c j : ℕ) (s d : ColumnIndex) → slice_get column_indexes c ≡ Some s → j ≢ c → j < length column_indexes → get_or column_indexes j d ≢ s
other-column_index column_indexes once c j s d at ne within same =
    let here : get_or column_indexes c d ≡ s = get_or_from_slice_get column_indexes c s d at in
    elim (cases_lt j c) [
      | inl before ↦ once j c d before (slice_get_within column_indexes c s at) (same ∙ sym here)
      | inr behind ↦ once c j d (omega (arith, behind, λ (e : c ≡ j). ne (sym e))) within (here ∙ sym same)
    ]

-- a column with a known kind exists
pub column_index-within : (column_indexes : List ColumnIndex) (c : ℕ) (k : Kind) → option_map kind_of (slice_get column_indexes c) ≡ Some k → c < length column_indexes
column_index-within [] c k is = absurd cc
column_index-within (s ∷ column_indexes) zero k is = omega arith
column_index-within (s ∷ column_indexes) (suc c) k is = let rest = column_index-within column_indexes c k is in omega (arith, rest)

-- the cells of the column with this index
at-column_index : (column_indexes : List ColumnIndex) (numbers : List Numbers) (texts : TextLists) (c : ℕ) (s : ColumnIndex) → slice_get column_indexes c ≡ Some s → get_or (columns_of column_indexes numbers texts) c [] ≡ column_in numbers texts s
at-column_index column_indexes numbers texts c s at =
    get_or_from_slice_get (columns_of column_indexes numbers texts) c (column_in numbers texts s) [] (slice_get-map (column_in numbers texts) column_indexes c ∙ ap (option_map (column_in numbers texts)) at)

pub number-set : (column_indexes : List ColumnIndex) (numbers : List Numbers) (texts : TextLists) (c i place : ℕ) (number : Option ℤ) → AllPairs (λ s t. s ≢ t) column_indexes → slice_get column_indexes c ≡ Some (column_index.Number i) → i < length numbers
    → columns_of column_indexes (set numbers i (set (get_or numbers i []) place number)) texts ≡ with_cell_at (columns_of column_indexes numbers texts) c place (int_cell number)
number-set column_indexes numbers texts c i place number once at within =
    let now = set (get_or numbers i []) place number in
    let numbers_now = set numbers i now in
    let new = column_in numbers_now texts (column_index.Number i) in
    let own : new ≡ set (get_or (columns_of column_indexes numbers texts) c []) place (int_cell number) =
    ap (map int_cell) (get_or-set_same numbers i now [] within)
    ∙ map-set int_cell (get_or numbers i []) place number
    ∙ ap (λ l. set l place (int_cell number)) (sym (at-column_index column_indexes numbers texts c (column_index.Number i) at)) in
    let other : (s : ColumnIndex) → s ≢ column_index.Number i → column_in numbers_now texts s ≡ column_in numbers texts s = λ s ne. disjoint-number s ne in
    map-one (column_in numbers texts) (column_in numbers_now texts) column_indexes c new (slice_get_within column_indexes c (column_index.Number i) at)
    (λ d. ap (column_in numbers_now texts) (get_or_from_slice_get column_indexes c (column_index.Number i) d at))
    (λ j d ne below. other (get_or column_indexes j d) (other-column_index column_indexes once c j (column_index.Number i) d at ne below))
    ∙ ap (set (columns_of column_indexes numbers texts) c) own where
      disjoint-number : (s : ColumnIndex) → s ≢ column_index.Number i → column_in (set numbers i (set (get_or numbers i []) place number)) texts s ≡ column_in numbers texts s
      disjoint-number (column_index.Text k) ne = refl
      disjoint-number (column_index.Number k) ne = elim (cases_eq k i) [
        | inl same ↦ absurd (ne (ap column_index.Number same))
        | inr other ↦ ap (map int_cell) (get_or-set_other numbers i k (set (get_or numbers i []) place number) [] other)
      ]

pub text-set : (column_indexes : List ColumnIndex) (numbers : List Numbers) (texts : TextLists) (c i place : ℕ) (text : Option (List ℕ)) → AllPairs (λ s t. s ≢ t) column_indexes → slice_get column_indexes c ≡ Some (column_index.Text i) → i < length texts
    → columns_of column_indexes numbers (set texts i (set (get_or texts i []) place text)) ≡ with_cell_at (columns_of column_indexes numbers texts) c place (text_cell text)
text-set column_indexes numbers texts c i place text once at within =
    let now = set (get_or texts i []) place text in
    let texts_now = set texts i now in
    let new = column_in numbers texts_now (column_index.Text i) in
    let own : new ≡ set (get_or (columns_of column_indexes numbers texts) c []) place (text_cell text) =
    ap (map text_cell) (get_or-set_same texts i now [] within)
    ∙ map-set text_cell (get_or texts i []) place text
    ∙ ap (λ l. set l place (text_cell text)) (sym (at-column_index column_indexes numbers texts c (column_index.Text i) at)) in
    map-one (column_in numbers texts) (column_in numbers texts_now) column_indexes c new (slice_get_within column_indexes c (column_index.Text i) at)
    (λ d. ap (column_in numbers texts_now) (get_or_from_slice_get column_indexes c (column_index.Text i) d at))
    (λ j d ne below. disjoint-text (get_or column_indexes j d) (other-column_index column_indexes once c j (column_index.Text i) d at ne below))
    ∙ ap (set (columns_of column_indexes numbers texts) c) own where
      disjoint-text : (s : ColumnIndex) → s ≢ column_index.Text i → column_in numbers (set texts i (set (get_or texts i []) place text)) s ≡ column_in numbers texts s
      disjoint-text (column_index.Number k) ne = refl
      disjoint-text (column_index.Text k) ne = elim (cases_eq k i) [
        | inl same ↦ absurd (ne (ap column_index.Text same))
        | inr other ↦ ap (map text_cell) (get_or-set_other texts i k (set (get_or texts i []) place text) [] other)
      ]
