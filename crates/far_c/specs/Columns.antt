-- Rows that C passes column by column, and cells of one column.
use Rattle.std.specs.Prelude.{◌≡◌, ℕ, pos, zero, suc, ◌+◌, ◌/◌, ◌%◌, ◌==◌, Bool, true, cond, List, map, Option, None, Some, slice_get, slice_index, slice_range, unwrap_or, IsSomeAnd, ◌⊎◌}
use Rattle.std.specs.Int.{bit_at}
use Rattle.far_types.specs.declared.cell.Cell.{Cell}
use Rattle.far_types.specs.declared.cell.Cell.TheVariants as cell
use Rattle.far_types.specs.declared.edit.Edit.TheVariants as edit
use Rattle.far_types.specs.declared.refusal.Refusal.TheVariants.{NoMemory}
use Rattle.far_types.specs.Refusals.{number_of as refusal_number}
use Rattle.far_host.specs.HostTickets.{TicketState}
use Rattle.far_frame.specs.declared.step.Step.{Step}
use Rattle.far_frame.specs.declared.step.Step.TheVariants as step
use Rattle.far_frame.specs.declared.step.Reply.{Reply}
use Rattle.far_frame.specs.declared.step.Reply.TheVariants as reply
use Rattle.far_frame.specs.Steps.{IsStep}
use Rattle.far_frame.specs.Worlds.{World}
use Rattle.far_c.specs.declared.columns.FcColumn.{FcColumn}
use Rattle.far_c.specs.Contents.{content, number_of}
use Rattle.far_c.specs.Outcomes.{IsAccepted}
use Rattle.far_c.specs.TableState.{TableState}

-- whether a bit of a byte is set, counted from the lowest; if there is no byte, it is
abbrev pub is_set : Option ℕ → ℕ → Bool
is_set None bit = true
is_set (Some byte) bit = bit_at byte bit == 1

-- whether a row has a value: its bit is set, or it has no bit
abbrev pub has_value : List ℕ → ℕ → Bool
has_value valid row = is_set (slice_get valid (row / 8)) (row % 8)

-- the offset at which a text begins
abbrev pub offset_at : List ℕ → ℕ → ℕ
offset_at offsets row = unwrap_or (slice_get offsets row) 0

-- the cell of a column in a row
abbrev pub column_cell : FcColumn → ℕ → Cell
column_cell c row = cond (has_value c.valid.now row)
    (cond (c.kind == 1)
    (cell.Int (unwrap_or (slice_get c.numbers.now row) (pos 0)))
    (cell.Text (slice_range c.bytes.now
    (offset_at c.offsets.now row)
    (offset_at c.offsets.now (row + 1)))))
    cell.Missing

-- a row, in the order of the columns
abbrev pub column_row : List FcColumn → ℕ → List Cell
column_row columns row = map (λ (c : FcColumn). column_cell c row) columns

-- the insert of a row
abbrev pub insert_of : List FcColumn → ℕ → Step
insert_of columns row = step.Edit (edit.Insert (column_row columns row))

-- the set of the cell at an index, in a column of the place at that index
abbrev pub set_of : ℕ → List ℕ → FcColumn → ℕ → Step
set_of column places values index = step.Edit
    (edit.Set (slice_index places index) column (column_cell values index))

-- the first n of these steps are accepted, in order
abbrev pub AreAccepted : (ℕ → Step) → ℕ → World TicketState → World TicketState → Type 0
AreAccepted steps zero old new = new ≡ old
AreAccepted steps (suc n) old new = (mid : World TicketState) × (given : Reply)
    × AreAccepted steps n old mid × IsStep content number_of mid (steps n) given new
    × IsAccepted given

-- the first n of these steps are accepted on a handle, which changes only in its last refusal
abbrev pub AreServed : (ℕ → Step) → ℕ → TableState → TableState → Type 0
AreServed steps count old new = AreAccepted steps count old.world new.world
    × (new ≡ record old { world = new.world; refusal = new.refusal })

-- the first n rows are inserted, in order
abbrev pub AreAppended : List FcColumn → ℕ → TableState → TableState → Type 0
AreAppended columns = AreServed (insert_of columns)

-- the first n cells are set, in order
abbrev pub AreSet : ℕ → List ℕ → FcColumn → ℕ → TableState → TableState → Type 0
AreSet column places values = AreServed (set_of column places values)

-- the next step is refused by the refusal with this code, which the handle keeps; or memory ran
-- out before the table was called
abbrev pub IsNextRefused : Step → ℕ → TableState → Type 0
IsNextRefused next code new = IsSomeAnd new.refusal (λ why. (code ≡ refusal_number why)
    × (IsStep content number_of new.world next (reply.Refused why) new.world ⊎ (why ≡ NoMemory)))
