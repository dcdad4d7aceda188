-- The fields of a text that is exactly one record of comma-separated values.
use Rattle.std.specs.Prelude.{ℕ, slice_index, not, ◌&&◌, ◌==◌, ◌||◌, Bool, List, [], Option, None, Some}
use Rattle.std.specs.List.{list_any}
use Rattle.csv.specs.Machine.{Read, next_record}
use Rattle.csv.specs.Reading.{default_config, strip_bom}
use Rattle.csv.specs.declared.parser.State.TheVariants as st

-- these fields, if no record follows them
abbrev pub if_last : List (List ℕ) → Option Read → Option (List (List ℕ))
if_last fields None = Some fields
if_last fields (Some next) = None

-- the first record, if it is the only one
abbrev pub only : Option Read → Option (List (List ℕ))
only None = None
only (Some first) = if_last first.0 (next_record default_config first.1 [] [] first.2)

-- the fields of a text, if it is exactly one record for the csv reader. A byte order mark at its beginning is skipped
abbrev pub one_record : List ℕ → Option (List (List ℕ))
one_record text = only (next_record default_config st.StartRecord [] [] (strip_bom text))

-- the bytes that the csv reader treats specially besides the comma: the quote, the carriage return and the line feed
abbrev pub is_mark : ℕ → Bool
is_mark c = (c == 34) || (c == 13) || (c == 10)

-- whether a byte is a comma
abbrev pub is_comma : ℕ → Bool
is_comma c = c == 44

-- whether a text begins with the first byte of a byte order mark
abbrev pub begins_as_order_mark : List ℕ → Bool
begins_as_order_mark text = slice_index text 0 == 239

-- whether the fields of a text are simply the parts between its commas
abbrev pub is_plain : List ℕ → Bool
is_plain text = not (begins_as_order_mark text) && not (list_any is_mark text)
