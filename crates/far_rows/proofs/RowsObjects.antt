-- Rows whose objects changed, but not their columns or the names of the objects.
use Rattle.std.proofs.Common.{◌≡◌, ℕ, ◌<◌, List, length, get_or, Option, Some, sym, ap, subst, ◌∙◌}
use Rattle.std.specs.Prelude.{ℤ, slice_get}
use Rattle.std.proofs.lemmas.Option.{slice_get-get_or}
use Rattle.far_types.specs.declared.name.Name.{Name}
use Rattle.far_codec.specs.Reading.{ints_meaning}
use Rattle.far_scopes.specs.Movement.{Movement, AreClean}
use Rattle.far_columns.specs.Numbers.{number_lists}
use Rattle.far_columns.specs.NumbersTogether.{AreNumberColumns}
use Rattle.far_columns.specs.Vector.{Vector}
use Rattle.far_texts.specs.Texts.{Texts, lists_of}
use Rattle.far_texts.specs.Together.{AreColumns}
use Rattle.far_rows.specs.Naming.{names_of, AreNamed, AreOwned}
use Rattle.far_rows.specs.Rows.{Rows, AreRows}
use Rattle.far_rows.proofs.NamingLaws.{as-many}

module _ {K L : Type 0} (content : K → List ℕ) (new_content : L → List ℕ) (r : Rows K) (number_objects : Movement (Option ℤ) L) (text_objects : Movement ℕ L) where
  -- the rows are valid with these objects if their columns are, and clean objects are equal to their copies
  pub rows-kept : AreRows content r → names_of number_objects ≡ names_of r.number_objects → AreNumberColumns (number_lists new_content number_objects) r.numbers → AreClean ints_meaning new_content number_objects
      → names_of text_objects ≡ names_of r.text_objects → AreColumns (lists_of new_content text_objects) r.texts → AreClean (λ bytes. bytes) new_content text_objects
      → AreRows new_content record { column_indexes = r.column_indexes; size = r.size; numbers = r.numbers; texts = r.texts; number_objects = number_objects; text_objects = text_objects; alive = r.alive }
  rows-kept are number_names numbers number_clean text_names texts text_clean = record {
    column_indexes = are.column_indexes;
    few = are.few;
    some = are.some;
    small = are.small;
    places = are.places;
    numbers = numbers;
    texts = texts;
    shaped = are.shaped;
    grouped = are.grouped;
    same_length_numbers = are.same_length_numbers;
    same_length_texts = are.same_length_texts;
    number_objects = λ k c within. as-many r.number_objects number_objects number_names ∙ are.number_objects k c within;
    text_objects = λ k c within. as-many r.text_objects text_objects text_names ∙ are.text_objects k c within;
    numbered = are.numbered;
    placed_numbers = are.placed_numbers;
    placed_texts = are.placed_texts;
    number_names = λ k c within. subst (λ (ns : List Name). AreNamed ns (get_or r.numbers k c).column (get_or r.numbers k c).objects) (sym number_names) (are.number_names k c within);
    text_names = λ k c within. subst (λ (ns : List Name). AreNamed ns (get_or r.texts k c).column (get_or r.texts k c).objects) (sym text_names) (are.text_names k c within);
    owned_numbers = subst (λ (ns : List Name). AreOwned (λ (v : Vector (Option ℤ)). v.column) (λ v. v.objects) ns r.numbers) (sym number_names) are.owned_numbers;
    owned_texts = subst (λ (ns : List Name). AreOwned (λ (v : Texts). v.column) (λ v. v.objects) ns r.texts) (sym text_names) are.owned_texts;
    clean_numbers = number_clean;
    clean_texts = text_clean;
  }

-- the column with an index, of rows that are seen as `now`
module _ {K : Type 0} {r now : Rows K} (view : r ≡ now) (i : ℕ) where
  pub number-column-at : {v : Vector (Option ℤ)} → i < length now.numbers → v ≡ get_or r.numbers i v → slice_get r.numbers i ≡ Some v
  number-column-at {v} within is = slice_get-get_or r.numbers i v (subst (λ (s : Rows K). i < length s.numbers) (sym view) within) ∙ ap Some (sym is)

  pub text-column-at : {v : Texts} → i < length now.texts → v ≡ get_or r.texts i v → slice_get r.texts i ≡ Some v
  text-column-at {v} within is = slice_get-get_or r.texts i v (subst (λ (s : Rows K). i < length s.texts) (sym view) within) ∙ ap Some (sym is)
