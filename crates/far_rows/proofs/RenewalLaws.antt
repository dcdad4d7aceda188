-- Rows after their objects got tickets of another store: each object keeps its list and its name.
use Rattle.std.proofs.Common.{◌≡◌, ℕ, List, [], ◌∷◌, map, length, Option, refl, ap, subst, arith}
use Rattle.std.specs.Prelude.{ℤ}
use Rattle.std.specs.List.{zip}
use Rattle.far_types.specs.declared.name.Name.{Name}
use Rattle.far_codec.specs.Reading.{ints_meaning}
use Rattle.far_scopes.specs.declared.object_record.ObjectRecord.{ObjectRecord}
use Rattle.far_scopes.specs.Movement.{Movement, AreClean}
use Rattle.far_scopes.specs.Renewal.{Renews, renewed_record, after_renew}
use Rattle.far_columns.proofs.VectorsLaws.{vectors-stay, elements-stay}
use Rattle.far_texts.specs.Texts.{lists_of, texts_in}
use Rattle.far_columns.specs.Numbers.{number_lists, numbers_in}
use Rattle.far_texts.proofs.ColumnsLaws.{columns-stay, texts-stay}
use Rattle.far_rows.specs.ColumnIndexes.{columns_of}
use Rattle.far_rows.specs.Naming.{names_of}
use Rattle.far_rows.specs.Renewal.{RenewsRows}
use Rattle.far_rows.specs.Rows.{Rows, AreRows, all_cells}
use Rattle.far_rows.proofs.MovingCells.{same-map}
use Rattle.far_rows.proofs.RowsObjects.{rows-kept}

module _ {K L : Type 0} where
  records-named : (records : List (ObjectRecord K)) (tickets : List (Option L)) → length tickets ≡ length records → map (λ e. e.name) (map (λ (e : ObjectRecord K × Option L). renewed_record e.0 e.1) (zip records tickets)) ≡ map (λ e. e.name) records
  records-named [] tickets same_length = refl
  records-named (e ∷ records) [] same_length = absurd (omega (arith, same_length))
  records-named (e ∷ records) (ticket ∷ tickets) same_length = ap (λ (names : List Name). e.name ∷ names) (records-named records tickets (omega (arith, same_length)))

  -- tickets that renew the objects of both kinds renew the rows
  pub both-renew : (content : K → List ℕ) (new_content : L → List ℕ) (numbers texts : List (Option L)) (r now : Rows K) → r ≡ now → Renews content new_content r.number_objects numbers → Renews content new_content r.text_objects texts → RenewsRows content new_content now record { numbers = numbers; texts = texts }
  both-renew content new_content numbers texts r now same number_objects text_objects = record {
    numbers = subst (λ (rows : Rows K). Renews content new_content rows.number_objects numbers) same number_objects;
    texts = subst (λ (rows : Rows K). Renews content new_content rows.text_objects texts) same text_objects;
  }

  pub renewed-named : {X : Type 0} (m : Movement X K) (tickets : List (Option L)) → length tickets ≡ length m.records → names_of (after_renew m tickets) ≡ names_of m
  renewed-named m tickets same_length = records-named m.records tickets same_length

  module _ (content : K → List ℕ) (new_content : L → List ℕ) (r : Rows K) (number_objects : Movement (Option ℤ) L) (text_objects : Movement ℕ L) (number_same : (o : ℕ) → number_lists new_content number_objects o ≡ number_lists content r.number_objects o) (text_same : (o : ℕ) → lists_of new_content text_objects o ≡ lists_of content r.text_objects o) where
    pub rows-renewed : AreRows content r → names_of number_objects ≡ names_of r.number_objects → AreClean ints_meaning new_content number_objects → names_of text_objects ≡ names_of r.text_objects → AreClean (λ bytes. bytes) new_content text_objects
        → AreRows new_content record { column_indexes = r.column_indexes; size = r.size; numbers = r.numbers; texts = r.texts; number_objects = number_objects; text_objects = text_objects; alive = r.alive }
    rows-renewed are number_names number_clean text_names text_clean = rows-kept content new_content r number_objects text_objects are
        number_names record { all_disjoint = vectors-stay (number_lists content r.number_objects) (number_lists new_content number_objects) r.numbers are.numbers.all_disjoint number_same; same_length = are.numbers.same_length } number_clean
        text_names record { all_disjoint = columns-stay (lists_of content r.text_objects) (lists_of new_content text_objects) r.texts are.texts.all_disjoint text_same; same_length = are.texts.same_length } text_clean

    pub renewed-cells : all_cells new_content record { column_indexes = r.column_indexes; size = r.size; numbers = r.numbers; texts = r.texts; number_objects = number_objects; text_objects = text_objects; alive = r.alive } ≡ all_cells content r
    renewed-cells =
        let numbers_is = same-map (numbers_in new_content number_objects) (numbers_in content r.number_objects) (λ c. elements-stay (number_lists content r.number_objects) (number_lists new_content number_objects) c number_same) r.numbers in
        let texts_is = same-map (texts_in (lists_of new_content text_objects)) (texts_in (lists_of content r.text_objects)) (λ c. texts-stay (lists_of content r.text_objects) (lists_of new_content text_objects) c text_same) r.texts in
        λ k. columns_of r.column_indexes (numbers_is k) (texts_is k)
