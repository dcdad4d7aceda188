-- The plain table: a list of rows, and every answer computed anew from all of them. The code never builds it.
use Rattle.std.specs.Prelude.{ℕ, ◌+◌, ◌-◌, ◌*◌, ◌/◌, Bool, true, false, cond, List, [], map, filter, length, replicate, take, drop, slice_range, slice_index_or, count_by, Option, None}
use Rattle.far_types.specs.declared.cell.Cell.{Cell}
use Rattle.far_types.specs.declared.cell.Kind.{Kind}
use Rattle.far_types.specs.declared.limits.Limits.{Limits}
use Rattle.far_types.specs.declared.spec.Spec.{Spec}
use Rattle.far_types.specs.declared.answer.Answer.{Answer}
use Rattle.far_types.specs.Cells.{cell_at, cells_of}
use Rattle.far_types.specs.Pairs.{Pair, pair_of, pairs_of}
use Rattle.far_types.specs.Answers.{answer_of}

-- a row of cells, and whether it is alive: a removal clears the flag and keeps the cells
pub record Place : Type 0 where
  pub cells : List Cell
  pub alive : Bool

-- an aggregate: its specification, how many registrations were made before it, and whether each row group is still pending in it. There
-- is a flag for each row group that held a place when the aggregate was registered
pub record Registered : Type 0 where
  pub spec : Spec
  pub registration : ℕ
  pub pending : List Bool

-- the plain table: its places, how many edits and registrations were accepted, and its aggregates by number, at most 32
pub record Table : Type 0 where
  pub schema : List Kind
  pub limits : Limits
  pub places : List Place
  pub edits : ℕ
  pub registrations : ℕ
  pub aggregates : List (Option Registered)

-- a new table
abbrev pub empty_table : List Kind → Limits → Table
empty_table schema limits = record {
  schema = schema;
  limits = limits;
  places = [];
  edits = 0;
  registrations = 0;
  aggregates = replicate 32 None;
}

-- the rows: the cells of the places that are alive, in order of place
abbrev pub rows_of : List Place → List (List Cell)
rows_of places = map (λ place. place.cells) (filter (λ place. place.alive) places)

-- the pair that a place contributes to an aggregate, if its row is alive, kept and folded
abbrev pub place_pair : Spec → Place → Option Pair
place_pair spec place = cond place.alive (pair_of spec (cells_of place.cells)) None

-- a column: its cells over all places, dead ones too
abbrev pub column : ℕ → List Place → List Cell
column c places = map (λ place. cell_at c place.cells) places

-- the cells of a column from one place up to another, which is not included
abbrev pub part : ℕ → ℕ → ℕ → List Place → List Cell
part c from to places = slice_range (column c places) from to

-- row group g holds places g * size to g * size + size - 1
abbrev pub in_group : {A : Type 0} → ℕ → ℕ → List A → List A
in_group size g places = take size (drop (g * size) places)

-- how many row groups hold a place
abbrev pub groups : ℕ → ℕ → ℕ
groups size places = (places + size - 1) / size

-- whether a row group is still pending
abbrev pub is_pending : List Bool → ℕ → Bool
is_pending pending g = slice_index_or pending g false

-- how many row groups are still pending
abbrev pub left : List Bool → ℕ
left pending = count_by (λ flag. flag) pending

-- the answer of an aggregate over the table's rows as they are now
abbrev pub answer_now : Spec → Table → Answer
answer_now spec table = answer_of spec.fold spec.key (pairs_of spec (rows_of table.places))
