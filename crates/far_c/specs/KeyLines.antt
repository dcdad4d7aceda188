-- The line of one key, as C receives it.
use Rattle.std.specs.Prelude.{◌≡◌, ◌⊎◌, ℕ, Option, None, Some, IsSomeAnd, true}
use Rattle.far_types.specs.declared.cell.Cell.{Cell}
use Rattle.far_types.specs.declared.key.Key.{Key}
use Rattle.far_types.specs.declared.refusal.Refusal.{Refusal}
use Rattle.far_types.specs.MayRefuse.{MayRefuse}
use Rattle.far_types.specs.Refusals.{number_of as refusal_number}
use Rattle.far_types.specs.Table.{Table}
use Rattle.far_aggregates.specs.declared.line.Line.{Line}
use Rattle.far_aggregates.specs.declared.line.Line.TheVariants as line
use Rattle.far_aggregates.specs.Aggregates.{ask_refusal}
use Rattle.far_aggregates.specs.Lines.{AnswersKey}
use Rattle.far_table.specs.Watching.{aggregate_at}
use Rattle.far_c.specs.declared.answer.FcLine.{FcLine}
use Rattle.far_c.specs.declared.cell.FcCell.{FcCell}
use Rattle.far_c.specs.Answering.{IsTotalLine, IsExtremaLine}
use Rattle.far_c.specs.Cells.{cell_of}
use Rattle.far_c.specs.Keys.{key_of}
use Rattle.far_c.specs.Outcomes.{refused_with}
use Rattle.far_c.specs.TableState.{TableState}
use Rattle.far_c.specs.Unreadable.{CellFault, IsReadable, IsUnreadable}

-- the line of a key, with the values that were found for it
abbrev pub IsLine : Option Key → Line → FcLine → Type 0
IsLine key (line.Totals count sum) given = IsTotalLine (key, count, sum) given
IsLine key (line.Extrema min max) given = IsExtremaLine (key, min, max) given

-- an aggregate answers, and the answer has this line for the key that a cell names, or none
abbrev pub AnswersCell : Table → ℕ → Cell → Option Line → Type 0
AnswersCell table a cell = AnswersKey table.places (aggregate_at table a) (key_of cell)

-- an aggregate answers, and the answer has this line for the key that a cell names
abbrev pub HasLine : Table → ℕ → Cell → FcLine → Type 0
HasLine table a cell given = (found : Line) × AnswersCell table a cell (Some found)
    × IsLine (key_of cell) found given

-- why there is no line: the cell that names its key cannot be read, or the aggregate answers, and
-- the answer has no line for this key
abbrev pub HasNoLine : ℕ → FcCell → TableState → ℕ → Type 0
HasNoLine a key table code = IsUnreadable (CellFault key) code
    ⊎ ((code ≡ 104) × IsReadable key
    × AnswersCell table.world.state.table a (cell_of key) None)

-- why an aggregate does not answer, or memory for the key ran out
abbrev pub MayRefuseKey : Table → ℕ → Refusal → Type 0
MayRefuseKey table a = MayRefuse (ask_refusal (aggregate_at table a)) true

-- the handle keeps the refusal with this code, and nothing else changes
abbrev pub IsNotAnswered : ℕ → ℕ → TableState → TableState → Type 0
IsNotAnswered code a old new = IsSomeAnd new.refusal
    (λ why. (code ≡ refusal_number why) × MayRefuseKey old.world.state.table a why
    × (new ≡ refused_with old why))
