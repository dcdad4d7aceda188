-- The text of replies.
use Rattle.std.specs.Prelude.{ℕ, ℤ, List, [], ◌∷◌, ◌++◌, Option, None, Some, codes, decimal, if◌then◌else◌}
use Rattle.std.specs.Fmt.{signed_decimal}
use Rattle.csv.specs.Writing.{default_writer, is_blank, row_body}
use Rattle.far_types.specs.declared.key.Key.{Key}
use Rattle.far_types.specs.declared.key.Key.TheVariants as key
use Rattle.far_types.specs.declared.answer.Answer.{Answer}
use Rattle.far_types.specs.declared.answer.Answer.TheVariants as answer
use Rattle.far_types.specs.declared.refusal.Refusal.{Refusal}
use Rattle.far_types.specs.declared.refusal.Refusal.TheVariants as refusal
use Rattle.far_types.specs.Refusals.{number_of, name_of}

-- a space
abbrev pub space : List ℕ
space = codes " "

-- a line feed
abbrev pub line_end : List ℕ
line_end = codes "\n"

-- a record as the csv writer writes it, without its line feed
abbrev pub record_text : List (List ℕ) → List ℕ
record_text fields = row_body default_writer fields
    ++ (if is_blank default_writer fields then codes "\"\"" else [])

-- the details that a refusal carries, each after a space
abbrev pub carried_text : Refusal → List ℕ
carried_text (refusal.Building left) = space ++ decimal left
carried_text (refusal.Absent column group) = space ++ decimal column ++ space ++ decimal group
carried_text refusal.NoMemory = []
carried_text refusal.BadSchema = []
carried_text refusal.BadSpec = []
carried_text refusal.NoColumn = []
carried_text refusal.WrongKind = []
carried_text refusal.RowWidth = []
carried_text refusal.TextTooLong = []
carried_text refusal.NoRow = []
carried_text refusal.RemovedRow = []
carried_text refusal.TableFull = []
carried_text refusal.ChunkFull = []
carried_text refusal.NoAggregate = []
carried_text refusal.TooManyAggregates = []
carried_text refusal.OutOfRange = []
carried_text refusal.RegionFull = []
carried_text refusal.NotPinned = []
carried_text refusal.Pinned = []
carried_text refusal.StaleJob = []
carried_text refusal.FarFault = []
carried_text refusal.FarFull = []
carried_text refusal.EditsUsedUp = []

-- `refused NUMBER NAME` and the details of the refusal
abbrev pub refusal_text : Refusal → List ℕ
refusal_text r = codes "refused " ++ decimal (number_of r) ++ space ++ name_of r ++ carried_text r
    ++ line_end

-- a word and a number
abbrev pub numbered_text : List ℕ → ℕ → List ℕ
numbered_text word n = word ++ space ++ decimal n ++ line_end

-- the key at the start of a line of an answer: a record of one field and a space, or nothing without key column
abbrev pub key_text : Option Key → List ℕ
key_text None = []
key_text (Some (key.Int n)) = record_text (signed_decimal n ∷ []) ++ space
key_text (Some (key.Text text)) = record_text (text ∷ []) ++ space

-- a line of totals
abbrev pub total_text : Option Key × ℕ × ℤ → List ℕ
total_text line = key_text line.0 ++ codes "count " ++ decimal line.1 ++ codes " sum "
    ++ signed_decimal line.2 ++ line_end

-- the text of a gauge's reading: the number of edits, the count and the sum
abbrev pub reading_text : ℕ → ℕ → ℤ → List ℕ
reading_text edits count sum = decimal edits
    ++ space
    ++ decimal count
    ++ space
    ++ signed_decimal sum
    ++ line_end

-- the line of the gauge of a session's stripe
abbrev pub gauge_text : ℕ → ℕ → ℕ → ℤ → List ℕ
gauge_text session edits count sum = codes "session " ++ decimal session ++ codes " gauge "
    ++ reading_text edits count sum

-- a line of extrema
abbrev pub extrema_text : Option Key × ℤ × ℤ → List ℕ
extrema_text line = key_text line.0 ++ codes "min " ++ signed_decimal line.1 ++ codes " max "
    ++ signed_decimal line.2 ++ line_end

-- the texts of all items, joined
abbrev pub texts_of : {A : Type 0} → (A → List ℕ) → List A → List ℕ
texts_of text [] = []
texts_of text (line ∷ lines) = text line ++ texts_of text lines

-- the lines of an answer, or `none` if it has none
abbrev pub or_none : {A : Type 0} → (A → List ℕ) → List A → List ℕ
or_none text [] = codes "none\n"
or_none text (line ∷ lines) = texts_of text (line ∷ lines)

-- the text of an answer
abbrev pub answer_text : Answer → List ℕ
answer_text (answer.Totals lines) = or_none total_text lines
answer_text (answer.Extrema lines) = or_none extrema_text lines
