-- The columns of a schema, made one after another.
use Rattle.std.proofs.Common.{◌≡◌, ℕ, ◌+◌, ◌<◌, List, [], ◌∷◌, ◌++◌, length, drop, get_or, ℤ, Option, refl, sym, ap, ◌∙◌, arith}
use Rattle.std.proofs.lemmas.List.{append_assoc, length-append, at_drop_more}
use Rattle.far_types.specs.declared.cell.Kind.{Kind}
use Rattle.far_types.specs.declared.cell.Kind.TheVariants as kind
use Rattle.far_columns.specs.Vector.{Vector}
use Rattle.far_texts.specs.Texts.{Texts}
use Rattle.far_rows.specs.declared.column_index.ColumnIndex.{ColumnIndex}
use Rattle.far_rows.specs.declared.column_index.ColumnIndex.TheVariants as column_index
use Rattle.far_rows.specs.ColumnIndexes.{column_indexes_from}
use Rattle.far_rows.specs.Opening.{numbers_from, texts_from}

add-zero : (n : ℕ) → n + 0 ≡ n
add-zero n = omega arith

module _ (size limit : ℕ) where
  column_indexes-first : (a b n : ℕ) (k : Kind) (kinds : List Kind) → column_indexes_from a b (k ∷ kinds) ≡ column_indexes_from a b (k ∷ []) ++ column_indexes_from (a + length (numbers_from size n (k ∷ []))) (b + length (texts_from size limit n (k ∷ []))) kinds
  column_indexes-first a b n kind.Int kinds = ap (λ m. column_index.Number a ∷ column_indexes_from (a + 1) m kinds) (sym (add-zero b))
  column_indexes-first a b n kind.Text kinds = ap (λ m. column_index.Text b ∷ column_indexes_from m (b + 1) kinds) (sym (add-zero a))

  numbers-first : (n : ℕ) (k : Kind) (kinds : List Kind) → numbers_from size n (k ∷ kinds) ≡ numbers_from size n (k ∷ []) ++ numbers_from size (n + 1) kinds
  numbers-first n kind.Int kinds = refl
  numbers-first n kind.Text kinds = refl

  texts-first : (n : ℕ) (k : Kind) (kinds : List Kind) → texts_from size limit n (k ∷ kinds) ≡ texts_from size limit n (k ∷ []) ++ texts_from size limit (n + 1) kinds
  texts-first n kind.Int kinds = refl
  texts-first n kind.Text kinds = refl

  -- the columns made so far and the remaining ones, after one more is made
  pub column_indexes-next : (column_indexes column_indexes' : List ColumnIndex) (numbers numbers' : List (Vector (Option ℤ))) (texts texts' : List Texts) (n i : ℕ) (d : Kind) (kinds : List Kind) → i < length kinds
      → column_indexes' ≡ column_indexes ++ column_indexes_from (length numbers) (length texts) (get_or kinds i d ∷ [])
      → numbers' ≡ numbers ++ numbers_from size n (get_or kinds i d ∷ [])
      → texts' ≡ texts ++ texts_from size limit n (get_or kinds i d ∷ [])
      → column_indexes' ++ column_indexes_from (length numbers') (length texts') (drop (i + 1) kinds) ≡ column_indexes ++ column_indexes_from (length numbers) (length texts) (drop i kinds)
  column_indexes-next column_indexes column_indexes' numbers numbers' texts texts' n i d kinds within s m t =
      let k = get_or kinds i d in
      let rest = drop (i + 1) kinds in
      let a : length numbers' ≡ length numbers + length (numbers_from size n (k ∷ [])) = ap length m ∙ length-append numbers _ in
      let b : length texts' ≡ length texts + length (texts_from size limit n (k ∷ [])) = ap length t ∙ length-append texts _ in
      (λ j. s j ++ column_indexes_from (a j) (b j) rest)
      ∙ append_assoc column_indexes _ _
      ∙ ap (λ l. column_indexes ++ l) (sym (column_indexes-first (length numbers) (length texts) n k rest) ∙ sym (at_drop_more (column_indexes_from (length numbers) (length texts)) kinds i d within))

  pub numbers-next : (numbers numbers' : List (Vector (Option ℤ))) (n i : ℕ) (d : Kind) (kinds : List Kind) → i < length kinds → numbers' ≡ numbers ++ numbers_from size n (get_or kinds i d ∷ []) → numbers' ++ numbers_from size (n + 1) (drop (i + 1) kinds) ≡ numbers ++ numbers_from size n (drop i kinds)
  numbers-next numbers numbers' n i d kinds within m =
      ap (λ l. l ++ numbers_from size (n + 1) (drop (i + 1) kinds)) m
      ∙ append_assoc numbers _ _
      ∙ ap (λ l. numbers ++ l) (sym (numbers-first n (get_or kinds i d) (drop (i + 1) kinds)) ∙ sym (at_drop_more (numbers_from size n) kinds i d within))

  pub texts-next : (texts texts' : List Texts) (n i : ℕ) (d : Kind) (kinds : List Kind) → i < length kinds → texts' ≡ texts ++ texts_from size limit n (get_or kinds i d ∷ []) → texts' ++ texts_from size limit (n + 1) (drop (i + 1) kinds) ≡ texts ++ texts_from size limit n (drop i kinds)
  texts-next texts texts' n i d kinds within t =
      ap (λ l. l ++ texts_from size limit (n + 1) (drop (i + 1) kinds)) t
      ∙ append_assoc texts _ _
      ∙ ap (λ l. texts ++ l) (sym (texts-first n (get_or kinds i d) (drop (i + 1) kinds)) ∙ sym (at_drop_more (texts_from size limit n) kinds i d within))
