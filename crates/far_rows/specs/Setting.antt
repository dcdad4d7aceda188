-- Setting a cell.
use Rattle.std.specs.Prelude.{ℕ, ◌/◌, List, [], ◌∷◌, Option, None, slice_get, slice_set, slice_index_or}
use Rattle.std.specs.Option.{option_and_then, option_map_or, option_or}
use Rattle.far_types.specs.declared.cell.Cell.{Cell}
use Rattle.far_types.specs.declared.cell.Kind.{Kind}
use Rattle.far_types.specs.declared.cell.Kind.TheVariants as kind
use Rattle.far_types.specs.declared.refusal.Refusal.{Refusal}
use Rattle.far_types.specs.FirstOf.{first_of}
use Rattle.far_columns.specs.Effects.{after_write_range}
use Rattle.far_columns.specs.Refusing.{set_refusal as number_refusal}
use Rattle.far_texts.specs.Effects.{set_in as text_set_in}
use Rattle.far_texts.specs.Refusing.{set_refusal as text_refusal}
use Rattle.far_rows.specs.declared.column_index.ColumnIndex.{ColumnIndex}
use Rattle.far_rows.specs.declared.column_index.ColumnIndex.TheVariants as column_index
use Rattle.far_rows.specs.declared.new_cell.NewCell.{NewCell}
use Rattle.far_rows.specs.declared.new_cell.NewCell.TheVariants as new
use Rattle.far_types.specs.Lent.{int_cell, text_cell}
use Rattle.far_rows.specs.Rows.{Rows}
use Rattle.far_rows.specs.Refusing.{absents}

-- the value as a cell
abbrev pub cell_of : NewCell → Cell
cell_of (new.Number number) = int_cell number
cell_of (new.Text text) = text_cell text

-- the kind of the value's column
abbrev pub kind_in : NewCell → Kind
kind_in (new.Number number) = kind.Int
kind_in (new.Text text) = kind.Text

-- the columns after a cell is put at a place of one column
abbrev pub with_cell_at : List (List Cell) → ℕ → ℕ → Cell → List (List Cell)
with_cell_at columns c place cell =
    slice_set columns c (slice_set (slice_index_or columns c []) place cell)

module _ {K : Type 0} (content : K → List ℕ) (r : Rows K) where
  -- why the column with this index refuses to set a cell
  abbrev pub value_refusal : ColumnIndex → ℕ → NewCell → Option Refusal
  value_refusal (column_index.Number i) place value =
      option_and_then (λ c. number_refusal r.number_objects c place) (slice_get r.numbers i)
  value_refusal (column_index.Text i) place (new.Text text) =
      option_and_then (λ c. text_refusal content r.text_objects c place text) (slice_get r.texts i)
  value_refusal (column_index.Text i) place (new.Number number) = None

  -- why setting a cell is refused: an object of the place's row group is away, or else the cell's column refuses
  abbrev pub set_refusal : ℕ → ℕ → NewCell → Option Refusal
  set_refusal column place value =
      option_or (first_of (absents r (place / r.size)))
      (option_and_then (λ s. value_refusal s place value) (slice_get r.column_indexes column))

  -- the rows after a cell is set: the object of its row group is written
  abbrev pub set_in : ColumnIndex → ℕ → NewCell → Rows K
  set_in (column_index.Number i) place (new.Number number) =
      record r {
        number_objects = option_map_or
            (λ c. after_write_range r.number_objects c place (number ∷ []))
            (slice_get r.numbers i) r.number_objects;
      }
  set_in (column_index.Text i) place (new.Text text) =
      record r {
        text_objects = option_map_or (λ c. text_set_in content r.text_objects c place text)
            (slice_get r.texts i) r.text_objects;
      }
  set_in s place value = r
