-- The effects of edits on rows.
use Rattle.std.specs.Prelude.{◌≡◌, ℕ, ◌+◌, ◌≤◌, List, [], ◌∷◌, ◌++◌, true, IfSome, length, slice_get}
use Rattle.far_scopes.specs.Movement.{AreHere, version_of}
use Rattle.far_columns.specs.NumbersTogether.{after_push_all, objects_after_push_all}
use Rattle.far_texts.specs.Together.{after_push_all as all_texts_pushed}
use Rattle.far_rows.specs.declared.new_cell.NewCell.{NewCell}
use Rattle.far_rows.specs.ColumnIndexes.{Values, row_of, with_row}
use Rattle.far_rows.specs.Rows.{Rows, TextsMoved, all_cells}
use Rattle.far_rows.specs.Setting.{cell_of, set_in, with_cell_at}

-- values for a row: a number for each number column, and a text for each text column
pub record AreValuesOf {K : Type 0} (r : Rows K) (values : Values) : Type 0 where
  pub numbers : length values.numbers ≡ length r.numbers
  pub texts : length values.texts ≡ length r.texts

module _ {K : Type 0} (content : K → List ℕ) (old : Rows K) where
  -- a row of these values was appended
  pub record IsPushed (values : Values) (new : Rows K) : Type 0 where
    -- the columns keep their indexes, and their row groups their size
    pub column_indexes : new.column_indexes ≡ old.column_indexes
    pub size : new.size ≡ old.size
    -- the new place is alive
    pub alive : new.alive ≡ old.alive ++ true ∷ []
    -- each column has one more cell
    pub cells : all_cells content new
        ≡ with_row (all_cells content old) (row_of old.column_indexes values)
    -- each number column has one more number: the last objects are written, or new ones are made if a row group begins
    pub numbers : new.numbers ≡ after_push_all (length old.number_objects.records) old.numbers
    pub number_objects : new.number_objects
        ≡ objects_after_push_all old.number_objects old.numbers values.numbers
    pub texts : new.texts ≡ all_texts_pushed (length old.text_objects.records) old.texts
    pub text_objects : TextsMoved content old values.texts new.text_objects

  -- a cell was set to a value
  pub record IsSet (column place : ℕ) (value : NewCell) (new : Rows K) : Type 0 where
    -- the cell's object is written, and nothing else changes
    pub moved : IfSome (slice_get old.column_indexes column)
        (λ s. new ≡ set_in content old s place value)
    -- the column has the new cell
    pub cells : all_cells content new
        ≡ with_cell_at (all_cells content old) column place (cell_of value)

-- what an edit keeps, whether it is accepted or refused
pub record KeepsObjects {K : Type 0} (is_of : K → List ℕ → Type 0)
    (old new : Rows K) : Type 0 where
  -- tickets of a store remain tickets of that store
  pub number_store : (id : List ℕ) → AreHere is_of id old.number_objects
      → AreHere is_of id new.number_objects
  pub text_store : (id : List ℕ) → AreHere is_of id old.text_objects
      → AreHere is_of id new.text_objects
  -- no object's version rises by more than one
  pub number_versions : (o : ℕ)
      → version_of new.number_objects o ≤ version_of old.number_objects o + 1
  pub text_versions : (o : ℕ)
      → version_of new.text_objects o ≤ version_of old.text_objects o + 1
