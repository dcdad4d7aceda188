-- The rows of a table, in columns whose objects may be away.
use Rattle.std.specs.Prelude.{◌≡◌, ℕ, ℤ, ◌+◌, ◌*◌, ◌<◌, ◌≤◌, ◌^◌, Bool, true, false, List, map, length, All, Option, slice_get}
use Rattle.std.specs.Option.{option_and_then}
use Rattle.far_types.specs.declared.cell.Cell.{Cell}
use Rattle.far_codec.specs.Reading.{ints_meaning}
use Rattle.far_scopes.specs.Movement.{Movement, AreClean}
use Rattle.far_columns.specs.Vector.{IsShaped}
use Rattle.far_texts.specs.Texts.{Texts, HasGroups, lists_of, texts_in}
use Rattle.far_columns.specs.Numbers.{Numbers, number_lists, numbers_in}
use Rattle.far_columns.specs.NumbersTogether.{NumberColumns, AreNumberColumns}
use Rattle.far_texts.specs.Together.{AreColumns, AreReplaced, all_begin, after_create_all, next_forms}
use Rattle.far_rows.specs.declared.column_index.ColumnIndex.{ColumnIndex}
use Rattle.far_rows.specs.declared.column_index.ColumnIndex.TheVariants as column_index
use Rattle.far_rows.specs.ColumnIndexes.{AreColumnIndexes, columns_of}
use Rattle.far_rows.specs.Naming.{names_of, AreNamed, AreNumbered, AreOwned, ArePlaced}

-- the rows of a table: the index of each column, the size of a row group, the number columns and the text columns, the objects of each
-- kind, and the alive flag of each place
pub record Rows (K : Type 0) : Type 0 where
  pub column_indexes : List ColumnIndex
  pub size : ℕ
  pub numbers : NumberColumns
  pub texts : List Texts
  pub number_objects : Movement (Option ℤ) K
  pub text_objects : Movement ℕ K
  pub alive : List Bool

module _ {K : Type 0} where
  -- the object of a row group of a column; none if there is no such column, or no place of the row group is used
  abbrev pub object_of : Rows K → ColumnIndex → ℕ → Option ℕ
  object_of r (column_index.Number i) g =
      option_and_then (λ c. slice_get c.objects g) (slice_get r.numbers i)
  object_of r (column_index.Text i) g =
      option_and_then (λ c. slice_get c.objects g) (slice_get r.texts i)

  module _ (content : K → List ℕ) where
    -- the numbers of each number column
    abbrev pub all_numbers : Rows K → List Numbers
    all_numbers r = map (numbers_in content r.number_objects) r.numbers

    -- the texts of each text column
    abbrev pub all_texts : Rows K → List (List (Option (List ℕ)))
    all_texts r = map (texts_in (lists_of content r.text_objects)) r.texts

    -- the cells of each column, over all places, local or away
    abbrev pub all_cells : Rows K → List (List Cell)
    all_cells r = columns_of r.column_indexes (all_numbers r) (all_texts r)

    -- a valid table: at most 16 columns and 2^24 places; each column has a cell for each place, and all have row groups of one size; each
    -- column has an object of its own for each row group, named by both, and there are no other objects; a clean object's list is what its
    -- far copy means
    pub record AreRows (r : Rows K) : Type 0 where
      pub column_indexes : AreColumnIndexes r.column_indexes (length r.numbers) (length r.texts)
      pub few : length r.numbers + length r.texts ≤ 16
      pub some : 0 < r.size
      pub small : r.size ≤ 2 ^ 16
      pub places : length r.alive ≤ 2 ^ 24
      pub numbers : AreNumberColumns (number_lists content r.number_objects) r.numbers
      pub texts : AreColumns (lists_of content r.text_objects) r.texts
      pub shaped : All IsShaped r.numbers
      pub grouped : All HasGroups r.texts
      pub same_length_numbers : All (λ c. (c.size ≡ r.size) × (c.len ≡ length r.alive))
          r.numbers
      pub same_length_texts : All (λ c. (c.size ≡ r.size) × (c.len ≡ length r.alive)) r.texts
      pub number_objects : All
          (λ c. length r.number_objects.records ≡ length r.numbers * length c.objects) r.numbers
      pub text_objects : All
          (λ c. length r.text_objects.records ≡ length r.texts * length c.objects) r.texts
      pub numbered : AreNumbered r.column_indexes (map (λ c. c.column) r.numbers)
          (map (λ c. c.column) r.texts)
      pub placed_numbers : ArePlaced r.column_indexes (λ i. column_index.Number i)
          (map (λ c. c.column) r.numbers)
      pub placed_texts : ArePlaced r.column_indexes (λ i. column_index.Text i)
          (map (λ c. c.column) r.texts)
      pub number_names : All (λ c. AreNamed (names_of r.number_objects) c.column c.objects)
          r.numbers
      pub text_names : All (λ c. AreNamed (names_of r.text_objects) c.column c.objects) r.texts
      pub owned_numbers : AreOwned (λ c. c.column) (λ c. c.objects) (names_of r.number_objects)
          r.numbers
      pub owned_texts : AreOwned (λ c. c.column) (λ c. c.objects) (names_of r.text_objects)
          r.texts
      pub clean_numbers : AreClean ints_meaning content r.number_objects
      pub clean_texts : AreClean (λ bytes. bytes) content r.text_objects

  -- the objects of texts after one of these texts is appended to each text column: new objects if row groups begin, else the last object
  -- of each with a new form. All new forms are placed before an old form is dropped
  pub record TextsMoved (content : K → List ℕ) (r : Rows K) (texts : List (Option (List ℕ)))
      (now : Movement ℕ K) : Type 0 where
    pub begun : all_begin r.texts ≡ true
        → now
        ≡ after_create_all r.text_objects r.texts
        (next_forms (lists_of content r.text_objects) (length r.text_objects.records) r.texts texts)
    pub replaced : all_begin r.texts ≡ false
        → AreReplaced r.text_objects
        (next_forms (lists_of content r.text_objects) (length r.text_objects.records) r.texts texts)
        now
