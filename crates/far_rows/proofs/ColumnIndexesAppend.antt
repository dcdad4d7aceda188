-- The columns after a value is appended to each.
use Rattle.std.proofs.Common.{◌≡◌, ℕ, zero, suc, ◌<◌, List, [], ◌∷◌, ◌++◌, map, length, get_or, Option, None, refl, ap, ◌∙◌, arith}
use Rattle.std.specs.Prelude.{All}
use Rattle.std.proofs.lemmas.List.{map-append}
use Rattle.std.proofs.lemmas.List.Elements.{All-head, All-tail}
use Rattle.far_columns.specs.Vector.{elements}
use Rattle.far_texts.specs.Texts.{Texts, Lists, texts_in}
use Rattle.far_columns.specs.Numbers.{Numbers}
use Rattle.far_columns.specs.NumbersTogether.{NumberLists, NumberColumns, all_numbers_with}
use Rattle.far_texts.specs.Together.{all_texts_with}
use Rattle.far_rows.specs.declared.column_index.ColumnIndex.{ColumnIndex}
use Rattle.far_rows.specs.declared.column_index.ColumnIndex.TheVariants as column_index
use Rattle.far_types.specs.Lent.{int_cell, text_cell}
use Rattle.far_rows.specs.ColumnIndexes.{Values, IsColumnIn, cell_in, row_of, column_in, columns_of, with_row}

module _ {A : Type 0} where
  -- each list with one more element
  abbrev pub all_with : List (List A) → List A → List (List A)
  all_with [] xs = []
  all_with (l ∷ ls) [] = []
  all_with (l ∷ ls) (x ∷ xs) = (l ++ x ∷ []) ∷ all_with ls xs

  pub at-with : (ls : List (List A)) (xs : List A) (i : ℕ) (d : A) → length xs ≡ length ls → i < length ls → get_or (all_with ls xs) i [] ≡ get_or ls i [] ++ get_or xs i d ∷ []
  at-with [] xs i d same_length below = absurd (omega arith)
  at-with (l ∷ ls) [] i d same_length below = absurd (omega arith)
  at-with (l ∷ ls) (x ∷ xs) zero d same_length below = refl
  at-with (l ∷ ls) (x ∷ xs) (suc i) d same_length below = at-with ls xs i d (omega arith) (omega arith)

pub numbers-with : (lists : NumberLists) (columns : NumberColumns) (numbers : Numbers) → all_numbers_with lists columns numbers ≡ all_with (map (elements lists) columns) numbers
numbers-with lists [] numbers = refl
numbers-with lists (c ∷ columns) [] = refl
numbers-with lists (c ∷ columns) (number ∷ numbers) = ap (λ l. (elements lists c ++ number ∷ []) ∷ l) (numbers-with lists columns numbers)

pub texts-with : (lists : Lists) (columns : List Texts) (texts : List (Option (List ℕ))) → all_texts_with lists columns texts ≡ all_with (map (texts_in lists) columns) texts
texts-with lists [] texts = refl
texts-with lists (c ∷ columns) [] = refl
texts-with lists (c ∷ columns) (text ∷ texts) = ap (λ l. (texts_in lists c ++ text ∷ []) ∷ l) (texts-with lists columns texts)

module _ (numbers : List Numbers) (texts : List (List (Option (List ℕ)))) (values : Values) (n m : ℕ) (same_length_numbers : length values.numbers ≡ length numbers) (same_length_texts : length values.texts ≡ length texts) (n_is : n ≡ length numbers) (m_is : m ≡ length texts) where
  column-with : (s : ColumnIndex) → IsColumnIn n m s → column_in (all_with numbers values.numbers) (all_with texts values.texts) s ≡ column_in numbers texts s ++ cell_in values s ∷ []
  column-with (column_index.Number i) within =
      ap (map int_cell) (at-with numbers values.numbers i None same_length_numbers (omega (arith, within, n_is)))
      ∙ map-append int_cell (get_or numbers i []) (get_or values.numbers i None ∷ [])
  column-with (column_index.Text i) within =
      ap (map text_cell) (at-with texts values.texts i None same_length_texts (omega (arith, within, m_is)))
      ∙ map-append text_cell (get_or texts i []) (get_or values.texts i None ∷ [])

  -- each column of the table has its cell of the new row
  pub columns-with : (column_indexes : List ColumnIndex) → All (IsColumnIn n m) column_indexes → columns_of column_indexes (all_with numbers values.numbers) (all_with texts values.texts) ≡ with_row (columns_of column_indexes numbers texts) (row_of column_indexes values)
  columns-with [] within = refl
  columns-with (s ∷ column_indexes) within =
      let here = column-with s (All-head (IsColumnIn n m) s column_indexes within) in
      let there = columns-with column_indexes (All-tail (IsColumnIn n m) s column_indexes within) in
      λ k. here k ∷ there k
