-- The rows of a table, as `dump` lists them.
use Rattle.std.specs.Prelude.{◌≡◌, ◌<◌, ◌/◌, ℕ, Bool, false, List, [], ◌∷◌, ◌++◌, codes, length, map, slice_get, if◌then◌else◌, None}
use Rattle.std.specs.Option.{option_map_or}
use Rattle.std.specs.Fmt.{signed_decimal}
use Rattle.csv.specs.Writing.{default_writer, field_text, row_text}
use Rattle.far_types.specs.declared.cell.Cell.{Cell}
use Rattle.far_types.specs.declared.cell.Cell.TheVariants as cell
use Rattle.far_types.specs.FirstOf.{first_of}
use Rattle.far_types.specs.Table.{Table, Place, rows_of}
use Rattle.far_rows.specs.Refusing.{absents}
use Rattle.far_table.specs.State.{LiveState}
use Rattle.far_frame.specs.Views.{away}
use Rattle.far_script.specs.Fields.{missing_mark}
use Rattle.far_script.specs.Printing.{numbered_text, record_text, refusal_text, texts_of}

-- the text of a cell, before it is quoted
abbrev pub cell_text : Cell → List ℕ
cell_text (cell.Int number) = signed_decimal number
cell_text (cell.Text text) = text
cell_text cell.Missing = missing_mark

-- a field as the csv writer writes it: alone in its record, or as one of several
abbrev pub field_in_record : Bool → List ℕ → List ℕ
field_in_record is_lone text = if is_lone then record_text (text ∷ [])
    else field_text default_writer text

-- the cells of a place
abbrev pub cells_at : ℕ → List Place → List Cell
cells_at p places = option_map_or (λ place. place.cells) (slice_get places p) []

-- whether the row of a place is alive
abbrev pub is_live : ℕ → List Place → Bool
is_live p places = option_map_or (λ place. place.alive) (slice_get places p) false

-- a place is used, and all objects of its row group are local
abbrev pub IsHere : {K : Type 0} → LiveState K → ℕ → Type 0
IsHere s place = (place < length s.table.places)
    × (first_of (absents s.rows (place / s.table.limits.group)) ≡ None)

-- a row as the csv writer writes it
abbrev pub row_line : List Cell → List ℕ
row_line cells = row_text default_writer (map cell_text cells)

-- the reply to `dump` if no object is away: the number of live rows, and then those rows
abbrev pub dump_text : Table → List ℕ
dump_text table = numbered_text (codes "rows") (length (rows_of table.places))
    ++ texts_of row_line (rows_of table.places)

-- the reply to `dump`: the refusal for the first object that is away, or else the rows
abbrev pub listing_of : {K : Type 0} → LiveState K → List ℕ
listing_of s = option_map_or refusal_text (away s) (dump_text s.table)
