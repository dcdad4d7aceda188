-- When calls on rows are refused.
use Rattle.std.specs.Prelude.{ℕ, ◌+◌, ◌/◌, ◌%◌, ◌==◌, ◌&&◌, ◌||◌, nat_lt, not, false, Bool, List, [], ◌∷◌, ◌++◌, map, length, replicate, Option, option_map, slice_get, is_none}
use Rattle.std.specs.List.{list_any}
use Rattle.std.specs.Option.{option_map_or}
use Rattle.far_types.specs.declared.refusal.Refusal.{Refusal}
use Rattle.far_types.specs.declared.refusal.Refusal.TheVariants as refusal
use Rattle.far_types.specs.Bounds.{is_int, is_text}
use Rattle.far_types.specs.FirstOf.{first_of}
use Rattle.far_log.specs.RegionState.{spaces_of, fit_in_order}
use Rattle.far_scopes.specs.Refusing.{absent, written_out}
use Rattle.far_texts.specs.Texts.{Lists, lists_of}
use Rattle.far_texts.specs.Together.{next_forms}
use Rattle.far_texts.specs.RefusingTogether.{any_full}
use Rattle.far_columns.specs.Pieces.{overlapped_groups}
use Rattle.far_rows.specs.declared.column_index.ColumnIndex.{ColumnIndex}
use Rattle.far_rows.specs.declared.column_index.ColumnIndex.TheVariants as column_index
use Rattle.far_rows.specs.ColumnIndexes.{Values, kind_of}
use Rattle.far_rows.specs.Rows.{Rows, object_of}

module _ {K : Type 0} (r : Rows K) where
  -- the object of a row group of the column with this index is away; the refusal names the object
  abbrev pub away_at : ℕ → ColumnIndex → Bool × Refusal
  away_at g (column_index.Number i) =
      option_map_or (absent r.number_objects) (object_of r (column_index.Number i) g)
      (false, refusal.StaleJob)
  away_at g (column_index.Text i) =
      option_map_or (absent r.text_objects) (object_of r (column_index.Text i) g)
      (false, refusal.StaleJob)

  -- the object of a row group of a column, which has this index, is away; the refusal names the column and the row group
  abbrev pub absent_at : ℕ → ℕ → ColumnIndex → Bool × Refusal
  absent_at column g s = ((away_at g s).0, refusal.Absent column g)

  -- for each of these columns in order: its object of a row group is away. The first has number n
  abbrev pub absents_from : ℕ → ℕ → List ColumnIndex → List (Bool × Refusal)
  absents_from g n [] = []
  absents_from g n (s ∷ column_indexes) =
      absent_at n g s ∷ absents_from g (n + 1) column_indexes

  -- for each column in order: its object of a row group is away
  abbrev pub absents : ℕ → List (Bool × Refusal)
  absents g = absents_from g 0 r.column_indexes

  -- the place is past the end
  abbrev pub no_row : ℕ → Bool × Refusal
  no_row place = (not (nat_lt place (length r.alive)), refusal.NoRow)

  -- the range is not within the table's places
  abbrev pub no_range : ℕ → ℕ → Bool × Refusal
  no_range from to = (nat_lt to from || nat_lt (length r.alive) to, refusal.OutOfRange)

  module _ (column : ℕ) where
    -- there is no such column
    abbrev pub no_column : Bool × Refusal
    no_column = (is_none (slice_get r.column_indexes column), refusal.NoColumn)

    -- the column is a text column
    abbrev pub of_texts : Bool × Refusal
    of_texts = (is_text (option_map kind_of (slice_get r.column_indexes column)), refusal.WrongKind)

    -- the column is a number column
    abbrev pub of_numbers : Bool × Refusal
    of_numbers =
        (is_int (option_map kind_of (slice_get r.column_indexes column)), refusal.WrongKind)

    -- the column's object of a row group is away
    abbrev pub absent_in : ℕ → Bool × Refusal
    absent_in g =
        option_map_or (absent_at column g) (slice_get r.column_indexes column)
        (false, refusal.StaleJob)

  -- why reading a cell is refused (`cell`)
  abbrev pub cell_refusal : ℕ → ℕ → Option Refusal
  cell_refusal column place =
      first_of (no_column column ∷ no_row place ∷ absent_in column (place / r.size) ∷ [])

  -- why reading a text is refused (`text`)
  abbrev pub text_refusal : ℕ → ℕ → Option Refusal
  text_refusal column place =
      first_of (no_column column ∷ of_numbers column ∷ no_row place
      ∷ absent_in column (place / r.size) ∷ [])

  -- why lending a range of a number column is refused (`ints`); its row groups are tested in order
  abbrev pub ints_refusal : ℕ → ℕ → ℕ → Option Refusal
  ints_refusal column from to =
      first_of (no_column column ∷ of_texts column ∷ no_range from to
      ∷ map (absent_in column) (overlapped_groups r.size from to))

  -- why lending a range of a text column is refused (`texts`); its row groups are tested in order
  abbrev pub texts_refusal : ℕ → ℕ → ℕ → Option Refusal
  texts_refusal column from to =
      first_of (no_column column ∷ of_numbers column ∷ no_range from to
      ∷ map (absent_in column) (overlapped_groups r.size from to))

  -- the next place is the first of a row group
  abbrev pub begins : Bool
  begins = length r.alive % r.size == 0

  -- text objects of these lengths, placed in order, do not fit
  abbrev pub no_space_for_texts : List ℕ → Bool × Refusal
  no_space_for_texts lengths =
      (not (fit_in_order (spaces_of r.text_objects.memory.state) lengths), refusal.RegionFull)

  -- a row group begins, and its objects of numbers, placed in order, do not fit
  abbrev pub no_space_for_numbers : Bool × Refusal
  no_space_for_numbers = (
    begins
        && not (fit_in_order (spaces_of r.number_objects.memory.state)
        (replicate (length r.numbers) r.size)),
    refusal.RegionFull,
  )

  -- the object of a row group of the column with this index exists, and was written as often as the limits allow
  abbrev pub is_written_out : ℕ → ColumnIndex → Bool
  is_written_out g (column_index.Number i) =
      option_map_or (λ o. (written_out r.number_objects o).0)
      (object_of r (column_index.Number i) g) false
  is_written_out g (column_index.Text i) =
      option_map_or (λ o. (written_out r.text_objects o).0) (object_of r (column_index.Text i) g)
      false

  -- some object of a row group was written as often as the limits allow
  abbrev pub some_written_out : ℕ → Bool × Refusal
  some_written_out g = (list_any (is_written_out g) r.column_indexes, refusal.EditsUsedUp)

  -- the tests of an appended row: an object of its row group is away; a text object would be too long; the text objects that it writes,
  -- which have these lengths, do not fit, or its objects of numbers do not; an object was written too often
  abbrev pub append_tests : Bool → List ℕ → List (Bool × Refusal)
  append_tests too_long lengths =
      let g : ℕ = length r.alive / r.size
      in absents g
      ++ (too_long, refusal.ChunkFull) ∷ no_space_for_texts lengths ∷ no_space_for_numbers
      ∷ some_written_out g ∷ []

-- why appending a row of these values is refused, given the forms of the text columns
abbrev pub push_refusal : {K : Type 0} → (K → List ℕ) → Rows K → Values → Option Refusal
push_refusal content r values =
    let lists : Lists = lists_of content r.text_objects
    in first_of (append_tests r (any_full lists r.texts values.texts).0
    (map (λ form. length form.1)
    (next_forms lists (length r.text_objects.records) r.texts values.texts)))
