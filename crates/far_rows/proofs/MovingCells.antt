-- Rows after their objects moved: each object keeps its list, so the rows keep their cells.
use Rattle.std.proofs.Common.{◌≡◌, ℕ, List, [], ◌∷◌, map, Option, refl, sym, ap, subst, ◌∙◌}
use Rattle.std.specs.Prelude.{ℤ}
use Rattle.far_codec.specs.Reading.{ints_meaning}
use Rattle.far_scopes.specs.Movement.{Movement, AreClean, AreHere}
use Rattle.far_columns.proofs.VectorsLaws.{vectors-stay, elements-stay}
use Rattle.far_texts.specs.Texts.{lists_of, texts_in}
use Rattle.far_columns.specs.Numbers.{number_lists, numbers_in}
use Rattle.far_texts.proofs.ColumnsLaws.{columns-stay, texts-stay}
use Rattle.far_rows.specs.ColumnIndexes.{columns_of}
use Rattle.far_rows.specs.Naming.{names_of}
use Rattle.far_rows.specs.Rows.{Rows, AreRows, all_cells, all_numbers, all_texts}
use Rattle.far_rows.specs.Moving.{KeepsCells}
use Rattle.far_rows.proofs.RowsObjects.{rows-kept}

module _ {A B : Type 0} where
  pub same-map : (f g : A → B) → ((x : A) → f x ≡ g x) → (xs : List A) → map f xs ≡ map g xs
  same-map f g same [] = refl
  same-map f g same (x ∷ xs) = let here = same x in let there = same-map f g same xs in λ k. here k ∷ there k

module _ {K : Type 0} (content : K → List ℕ) {r : Rows K} where
  pub numbers-moved : AreRows content r → (m : Movement (Option ℤ) K) → ((o : ℕ) → number_lists content m o ≡ number_lists content r.number_objects o) → names_of m ≡ names_of r.number_objects → AreClean ints_meaning content m → AreRows content (record r { number_objects = m })
  numbers-moved are m lists names clean = rows-kept content content r m r.text_objects are
      names record { all_disjoint = vectors-stay (number_lists content r.number_objects) (number_lists content m) r.numbers are.numbers.all_disjoint lists; same_length = are.numbers.same_length } clean
      refl are.texts are.clean_texts

  pub texts-moved : AreRows content r → (m : Movement ℕ K) → ((o : ℕ) → lists_of content m o ≡ lists_of content r.text_objects o) → names_of m ≡ names_of r.text_objects → AreClean (λ bytes. bytes) content m → AreRows content (record r { text_objects = m })
  texts-moved are m lists names clean = rows-kept content content r r.number_objects m are
      refl are.numbers are.clean_numbers
      names record { all_disjoint = columns-stay (lists_of content r.text_objects) (lists_of content m) r.texts are.texts.all_disjoint lists; same_length = are.texts.same_length } clean

  module _ {now : Rows K} (is : r ≡ now) where
    pub number-cells : (m : Movement (Option ℤ) K) → ((o : ℕ) → number_lists content m o ≡ number_lists content r.number_objects o) → all_cells content (record r { number_objects = m }) ≡ all_cells content now
    number-cells m lists =
        ap (λ numbers. columns_of r.column_indexes numbers (all_texts content r))
        (same-map (numbers_in content m) (numbers_in content r.number_objects) (λ c. elements-stay (number_lists content r.number_objects) (number_lists content m) c lists) r.numbers)
        ∙ ap (all_cells content) is

    pub text-cells : (m : Movement ℕ K) → ((o : ℕ) → lists_of content m o ≡ lists_of content r.text_objects o) → all_cells content (record r { text_objects = m }) ≡ all_cells content now
    text-cells m lists =
        ap (columns_of r.column_indexes (all_numbers content r))
        (same-map (texts_in (lists_of content m)) (texts_in (lists_of content r.text_objects)) (λ c. texts-stay (lists_of content r.text_objects) (lists_of content m) c lists) r.texts)
        ∙ ap (all_cells content) is

    -- tickets of a store remain tickets of that store, if the moved objects' tickets do
    pub numbers-unchanged : (is_of : K → List ℕ → Type 0) (m : Movement (Option ℤ) K) → ((o : ℕ) → number_lists content m o ≡ number_lists content r.number_objects o) → ((id : List ℕ) → AreHere is_of id r.number_objects → AreHere is_of id m) → KeepsCells content is_of now (record r { number_objects = m })
    numbers-unchanged is_of m lists store = record {
      cells = number-cells m lists;
      number_store = λ id here. store id (subst (λ (was : Rows K). AreHere is_of id was.number_objects) (sym is) here);
      text_store = λ id here. subst (λ (was : Rows K). AreHere is_of id was.text_objects) (sym is) here;
    }

    pub texts-unchanged : (is_of : K → List ℕ → Type 0) (m : Movement ℕ K) → ((o : ℕ) → lists_of content m o ≡ lists_of content r.text_objects o) → ((id : List ℕ) → AreHere is_of id r.text_objects → AreHere is_of id m) → KeepsCells content is_of now (record r { text_objects = m })
    texts-unchanged is_of m lists store = record {
      cells = text-cells m lists;
      number_store = λ id here. subst (λ (was : Rows K). AreHere is_of id was.number_objects) (sym is) here;
      text_store = λ id here. store id (subst (λ (was : Rows K). AreHere is_of id was.text_objects) (sym is) here);
    }
