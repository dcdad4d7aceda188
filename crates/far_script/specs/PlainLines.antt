-- Texts whose records are simply their lines, cut at commas.
use Rattle.std.specs.Prelude.{ℕ, ◌==◌, ◌||◌, ◌&&◌, not, Bool, List}
use Rattle.std.specs.List.{list_any, before_first, after_first}
use Rattle.far_script.specs.Lines.{is_line_feed}
use Rattle.far_script.specs.OneRecord.{begins_as_order_mark}

-- the bytes that make a record more than a line of fields: the quote and the carriage return
abbrev pub is_break : ℕ → Bool
is_break c = (c == 34) || (c == 13)

-- whether the records of a text are simply its lines that are not empty
abbrev pub are_plain_lines : List ℕ → Bool
are_plain_lines text = not (begins_as_order_mark text) && not (list_any is_break text)

-- the first line of a text, without its line feed
abbrev pub line_of : List ℕ → List ℕ
line_of text = before_first is_line_feed text

-- the text after the first line
abbrev pub lines_behind : List ℕ → List ℕ
lines_behind text = after_first is_line_feed text
