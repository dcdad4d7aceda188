-- How a field is read as a cell.
use Rattle.std.specs.Prelude.{ℕ, ◌+◌, ◌==◌, ℤ, Bool, List, [], ◌∷◌, Option, None, Some, slice_get, option_map, codes, if◌then◌else◌}
use Rattle.std.specs.Cmp.Lexicographic.{pointwise}
use Rattle.far_types.specs.declared.cell.Cell.{Cell}
use Rattle.far_types.specs.declared.cell.Cell.TheVariants as cell
use Rattle.far_types.specs.declared.cell.Kind.{Kind}
use Rattle.far_types.specs.declared.cell.Kind.TheVariants as kind
use Rattle.far_script.specs.Numbers.{signed_number_of}
use Rattle.far_script.specs.OneRecord.{one_record}

-- `\N`, the mark of a missing cell
abbrev pub missing_mark : List ℕ
missing_mark = codes "\\N"

-- whether a field is the mark of a missing cell
abbrev pub is_missing_mark : List ℕ → Bool
is_missing_mark field = pointwise ◌==◌ field missing_mark

-- a number if the field is one, else a text
abbrev pub number_or_text : Option ℤ → List ℕ → Cell
number_or_text None field = cell.Text field
number_or_text (Some number) field = cell.Int number

-- the cell of a field that is not `\N`: in a column of numbers, a number if it reads as one; else a text. `None` means past
-- the last column
abbrev pub cell_with_value : Option Kind → List ℕ → Cell
cell_with_value None field = cell.Text field
cell_with_value (Some kind.Text) field = cell.Text field
cell_with_value (Some kind.Int) field = number_or_text (signed_number_of field) field

-- the cell of a field
abbrev pub cell_of : Option Kind → List ℕ → Cell
cell_of column field = if is_missing_mark field then cell.Missing else cell_with_value column field

-- the cells of these fields, from the i-th column on
abbrev pub cells_from : List Kind → ℕ → List (List ℕ) → List Cell
cells_from kinds i [] = []
cells_from kinds i (field ∷ fields) = cell_of (slice_get kinds i) field
    ∷ cells_from kinds (i + 1) fields

-- the row of a text, if the text is exactly one record
abbrev pub row_of : List Kind → List ℕ → Option (List Cell)
row_of kinds text = option_map (cells_from kinds 0) (one_record text)

-- the field of a record, if it has only one
abbrev pub only_field : Option (List (List ℕ)) → Option (List ℕ)
only_field None = None
only_field (Some []) = None
only_field (Some (field ∷ [])) = Some field
only_field (Some (field ∷ next ∷ fields)) = None

-- the cell of a text in a column of this kind, if the text is exactly one record of one field
abbrev pub lone_cell_of : Option Kind → List ℕ → Option Cell
lone_cell_of column text = option_map (cell_of column) (only_field (one_record text))
