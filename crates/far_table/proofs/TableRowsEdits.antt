-- An edit keeps the invariant of a table's rows.
use Rattle.std.proofs.Common.{◌≡◌, ◌≢◌, ℕ, suc, ◌+◌, ◌≤◌, ℤ, true, false, if◌then◌else◌, List, [], ◌∷◌, ◌++◌, length, map, set, Option, None, Some, inl, inr, refl, sym, ap, subst, ◌∙◌, arith}
use Rattle.std.specs.Prelude.{All, slice_get}
use Rattle.std.specs.Option.{option_map_or}
use Rattle.std.proofs.lemmas.Bool.{cases_Bool}
use Rattle.std.proofs.lemmas.List.{length-append, length-set}
use Rattle.std.proofs.lemmas.List.Elements.{All-nil, All-cons, All-head, All-tail}
use Rattle.far_types.specs.declared.cell.Kind.{Kind}
use Rattle.far_types.specs.declared.limits.Limits.{Limits}
use Rattle.far_types.specs.Cells.{CellFits, RowFits}
use Rattle.far_types.specs.Edits.{change_at, with_cell, after_remove}
use Rattle.far_scopes.specs.declared.replacement.Replacement.{Replacement}
use Rattle.far_scopes.specs.Effects.{after_create, after_write, after_write_all}
use Rattle.far_scopes.specs.Movement.{Movement, version_of}
use Rattle.far_columns.specs.Vector.{Vector}
use Rattle.far_columns.specs.Effects.{is_full, next_name, next_group, objects_after_push, after_write_range}
use Rattle.far_texts.specs.Texts.{Texts, lists_of}
use Rattle.far_texts.specs.Effects.{set_in as text_set_in}
use Rattle.far_columns.specs.Numbers.{Numbers}
use Rattle.far_columns.specs.NumbersTogether.{NumberColumns, after_push_all, objects_after_push_all}
use Rattle.far_texts.specs.Together.{all_begin, after_create_all, next_forms, after_push_all as all_texts_pushed}
use Rattle.far_rows.specs.declared.new_cell.NewCell.{NewCell}
use Rattle.far_rows.specs.declared.new_cell.NewCell.TheVariants as new
use Rattle.far_rows.specs.declared.column_index.ColumnIndex.{ColumnIndex}
use Rattle.far_rows.specs.declared.column_index.ColumnIndex.TheVariants as column_index
use Rattle.far_rows.specs.ColumnIndexes.{Values, kind_of, row_of}
use Rattle.far_rows.specs.Rows.{Rows, TextsMoved}
use Rattle.far_rows.specs.Effects.{IsPushed, KeepsObjects}
use Rattle.far_rows.specs.Places.{places_in}
use Rattle.far_rows.specs.Setting.{cell_of, set_in}
use Rattle.far_aggregates.specs.Accumulators.{PlacesFit}
use Rattle.far_table.specs.TableRows.{AreWritten, AreTableRows}
use Rattle.far_table.proofs.AccumulatorsFits.{fit-appended, fit-set, fit-removed}

-- pushing values keeps the limit of writes
module _ {K : Type 0} where
  one-changes : (m : Movement (Option ℤ) K) (c : Vector (Option ℤ)) (x : Option ℤ) → (objects_after_push m c x).max_writes ≡ m.max_writes
  one-changes m c x = elim (is_full c) as (λ b. (if b then after_create m (next_name c) (next_group c x) else after_write_range m c c.len (x ∷ [])).max_writes ≡ m.max_writes) [ true ↦ refl | false ↦ refl ]

  numbers-changes : (m : Movement (Option ℤ) K) (columns : NumberColumns) (numbers : Numbers) → (objects_after_push_all m columns numbers).max_writes ≡ m.max_writes
  numbers-changes m [] numbers = refl
  numbers-changes m (c ∷ columns) [] = refl
  numbers-changes m (c ∷ columns) (x ∷ numbers) = numbers-changes (objects_after_push m c x) columns numbers ∙ one-changes m c x

  made-changes : (m : Movement ℕ K) (columns : List Texts) (forms : List (ℕ × List ℕ)) → (after_create_all m columns forms).max_writes ≡ m.max_writes
  made-changes m [] forms = refl
  made-changes m (c ∷ columns) [] = refl
  made-changes m (c ∷ columns) (form ∷ forms) = made-changes (after_create m record { column = c.column; group = length c.objects } form.1) columns forms

  after_write-changes : (m : Movement ℕ K) (lists : List (Replacement ℕ)) → (after_write_all m lists).max_writes ≡ m.max_writes
  after_write-changes m [] = refl
  after_write-changes m (r ∷ rs) = after_write-changes (after_write m r.object) rs

  texts-changes : (content : K → List ℕ) (r : Rows K) (texts : List (Option (List ℕ))) (now : Movement ℕ K) → TextsMoved content r texts now → now.max_writes ≡ r.text_objects.max_writes
  texts-changes content r texts now moved = elim (cases_Bool (all_begin r.texts)) [
    | inl begin ↦ ap (λ (m : Movement ℕ K). m.max_writes) (moved.begun begin) ∙ made-changes r.text_objects r.texts (next_forms (lists_of content r.text_objects) (length r.text_objects.records) r.texts texts)
    | inr begun ↦ (let given = moved.replaced begun in ap (λ (m : Movement ℕ K). m.max_writes) given.2 ∙ after_write-changes _ given.0)
  ]

-- pushing a row keeps the number of columns and their limits
length-numbers : (n : ℕ) (columns : NumberColumns) → length (after_push_all n columns) ≡ length columns
length-numbers n [] = refl
length-numbers n (c ∷ columns) = ap suc (length-numbers (n + 1) columns)

length-texts : (n : ℕ) (columns : List Texts) → length (all_texts_pushed n columns) ≡ length columns
length-texts n [] = refl
length-texts n (c ∷ columns) = ap suc (length-texts (n + 1) columns)

texts-limit : (limit n : ℕ) (columns : List Texts) → All (λ c. c.limit ≡ limit) columns → All (λ c. c.limit ≡ limit) (all_texts_pushed n columns)
texts-limit limit n [] of = All-nil (λ c. c.limit ≡ limit)
texts-limit limit n (c ∷ columns) of = All-cons (λ c. c.limit ≡ limit) _ _ (All-head (λ c. c.limit ≡ limit) c columns of) (texts-limit limit (n + 1) columns (All-tail (λ c. c.limit ≡ limit) c columns of))

module _ {K : Type 0} (content : K → List ℕ) (is_of : K → List ℕ → Type 0) (schema : List Kind) (limits : Limits) (old : Rows K) (new_row : Values) (edits : ℕ) (holds : AreTableRows content schema limits old new_row edits) where
  more-written : {X : Type 0} (m now : Movement X K) → AreWritten limits edits m → now.max_writes ≡ m.max_writes → ((o : ℕ) → version_of now o ≤ version_of m o + 1) → AreWritten limits (edits + 1) now
  more-written m now are same once = record { max_writes = same ∙ are.max_writes; versions = λ o. (let before = are.versions o in let after = once o in omega (arith, before, after)) }

  pub pushed-invariant : edits ≢ limits.edits → (now : Rows K) → IsPushed content old new_row now → KeepsObjects is_of old now → length old.alive ≢ limits.places → places_in content now ≡ places_in content old ++ record { cells = row_of old.column_indexes new_row; alive = true } ∷ [] → AreTableRows content schema limits now new_row (edits + 1)
  pushed-invariant left now pushed keeps few places = record {
    bounds = holds.bounds;
    kinds = ap (map kind_of) pushed.column_indexes ∙ holds.kinds;
    layout = record {
      group = pushed.size ∙ holds.layout.group;
      limit = subst (λ (cs : List Texts). All (λ c. c.limit ≡ limits.text_size) cs) (sym pushed.texts) (texts-limit limits.text_size (length old.text_objects.records) old.texts holds.layout.limit);
    };
    few = omega (arith, ap length pushed.alive, length-append old.alive (true ∷ []), holds.few, few);
    edits_few = omega (arith, holds.edits_few, left);
    numbers_written = more-written old.number_objects now.number_objects holds.numbers_written (ap (λ (m : Movement (Option ℤ) K). m.max_writes) pushed.number_objects ∙ numbers-changes old.number_objects old.numbers new_row.numbers) keeps.number_versions;
    texts_written = more-written old.text_objects now.text_objects holds.texts_written (texts-changes content old new_row.texts now.text_objects pushed.text_objects) keeps.text_versions;
    numbers = holds.numbers ∙ sym (ap length pushed.numbers ∙ length-numbers (length old.number_objects.records) old.numbers);
    texts = holds.texts ∙ sym (ap length pushed.texts ∙ length-texts (length old.text_objects.records) old.texts);
    fit = subst PlacesFit (sym places) (fit-appended (row_of old.column_indexes new_row) (places_in content old) holds.fit holds.new_row_fit);
    new_row_fit = subst (λ (column_indexes : List ColumnIndex). RowFits (row_of column_indexes new_row)) (sym pushed.column_indexes) holds.new_row_fit;
  }

  -- only objects changed, and they may be written as often as before
  record IsAlike (now : Rows K) : Type 0 where
    pub column_indexes : now.column_indexes ≡ old.column_indexes
    pub size : now.size ≡ old.size
    pub numbers : now.numbers ≡ old.numbers
    pub texts : now.texts ≡ old.texts
    pub alive : now.alive ≡ old.alive
    pub number_changes : now.number_objects.max_writes ≡ old.number_objects.max_writes
    pub text_changes : now.text_objects.max_writes ≡ old.text_objects.max_writes

  number-set : (found : Option (Vector (Option ℤ))) (place : ℕ) (number : Option ℤ) → (option_map_or (λ (c : Vector (Option ℤ)). after_write_range old.number_objects c place (number ∷ [])) found old.number_objects).max_writes ≡ old.number_objects.max_writes
  number-set None place number = refl
  number-set (Some c) place number = refl

  text-set : (found : Option Texts) (place : ℕ) (text : Option (List ℕ)) → (option_map_or (λ c. text_set_in content old.text_objects c place text) found old.text_objects).max_writes ≡ old.text_objects.max_writes
  text-set None place text = refl
  text-set (Some c) place text = refl

  alike : (s : ColumnIndex) (place : ℕ) (value : NewCell) → IsAlike (set_in content old s place value)
  alike (column_index.Number i) place (new.Number number) = record { column_indexes = refl; size = refl; numbers = refl; texts = refl; alive = refl; number_changes = number-set (slice_get old.numbers i) place number; text_changes = refl }
  alike (column_index.Text i) place (new.Text text) = record { column_indexes = refl; size = refl; numbers = refl; texts = refl; alive = refl; number_changes = refl; text_changes = text-set (slice_get old.texts i) place text }
  alike (column_index.Number i) place (new.Text text) = record { column_indexes = refl; size = refl; numbers = refl; texts = refl; alive = refl; number_changes = refl; text_changes = refl }
  alike (column_index.Text i) place (new.Number number) = record { column_indexes = refl; size = refl; numbers = refl; texts = refl; alive = refl; number_changes = refl; text_changes = refl }

  pub set-invariant : edits ≢ limits.edits → (now : Rows K) (s : ColumnIndex) (column place : ℕ) (value : NewCell) → now ≡ set_in content old s place value → KeepsObjects is_of old now → CellFits (cell_of value) → places_in content now ≡ change_at (with_cell column (cell_of value)) place (places_in content old) → AreTableRows content schema limits now new_row (edits + 1)
  set-invariant left now s column place value moved keeps fits places =
      let same = subst IsAlike (sym moved) (alike s place value) in
      record {
        bounds = holds.bounds;
        kinds = ap (map kind_of) same.column_indexes ∙ holds.kinds;
        layout = record { group = same.size ∙ holds.layout.group; limit = subst (λ (cs : List Texts). All (λ c. c.limit ≡ limits.text_size) cs) (sym same.texts) holds.layout.limit };
        few = omega (arith, ap length same.alive, holds.few);
        edits_few = omega (arith, holds.edits_few, left);
        numbers_written = more-written old.number_objects now.number_objects holds.numbers_written same.number_changes keeps.number_versions;
        texts_written = more-written old.text_objects now.text_objects holds.texts_written same.text_changes keeps.text_versions;
        numbers = holds.numbers ∙ sym (ap length same.numbers);
        texts = holds.texts ∙ sym (ap length same.texts);
        fit = subst PlacesFit (sym places) (fit-set column (cell_of value) place (places_in content old) holds.fit fits);
        new_row_fit = subst (λ (column_indexes : List ColumnIndex). RowFits (row_of column_indexes new_row)) (sym same.column_indexes) holds.new_row_fit;
      }

  pub cleared-invariant : edits ≢ limits.edits → (place : ℕ) → places_in content (record old { alive = set old.alive place false }) ≡ change_at after_remove place (places_in content old) → AreTableRows content schema limits (record old { alive = set old.alive place false }) new_row (edits + 1)
  cleared-invariant left place places = record {
    bounds = holds.bounds;
    kinds = holds.kinds;
    layout = record { group = holds.layout.group; limit = holds.layout.limit };
    few = omega (arith, length-set old.alive place false, holds.few);
    edits_few = omega (arith, holds.edits_few, left);
    numbers_written = more-written old.number_objects old.number_objects holds.numbers_written refl (λ o. omega arith);
    texts_written = more-written old.text_objects old.text_objects holds.texts_written refl (λ o. omega arith);
    numbers = holds.numbers;
    texts = holds.texts;
    fit = subst PlacesFit (sym places) (fit-removed place (places_in content old) holds.fit);
    new_row_fit = holds.new_row_fit;
  }

  -- loading another row of the same width keeps the invariant
  pub loaded-invariant : (next : Values) → length next.numbers ≡ length new_row.numbers → length next.texts ≡ length new_row.texts → RowFits (row_of old.column_indexes next) → AreTableRows content schema limits old next edits
  loaded-invariant next numbers texts fits = record {
    bounds = holds.bounds;
    kinds = holds.kinds;
    layout = holds.layout;
    few = holds.few;
    edits_few = holds.edits_few;
    numbers_written = holds.numbers_written;
    texts_written = holds.texts_written;
    numbers = numbers ∙ holds.numbers;
    texts = texts ∙ holds.texts;
    fit = holds.fit;
    new_row_fit = fits;
  }
