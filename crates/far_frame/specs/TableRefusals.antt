-- A table as its user sees it, and why its steps are refused: by its rows and aggregates, by which
-- of its chunks are away, and by their pins. A chunk is a row group of one column.
use Rattle.std.specs.Prelude.{◌≡◌, ◌⊎◌, ℕ, ◌/◌, ◌==◌, ◌&&◌, ◌||◌, nat_lt, not, Bool, true, List, [], ◌∷◌, ◌++◌, map, length, Option, None, Some}
use Rattle.std.specs.List.{Contains, enumerate_from, flat_map, range_with_len}
use Rattle.far_types.specs.declared.cell.Kind.{Kind}
use Rattle.far_types.specs.declared.edit.Edit.{Edit}
use Rattle.far_types.specs.declared.edit.Edit.TheVariants as edit
use Rattle.far_types.specs.declared.refusal.Refusal.{Refusal}
use Rattle.far_types.specs.declared.refusal.Refusal.TheVariants as refusal
use Rattle.far_types.specs.declared.spec.Spec.{Spec}
use Rattle.far_types.specs.Bounds.{needs}
use Rattle.far_types.specs.Edits.{edit_faults, overfills}
use Rattle.far_types.specs.FirstOf.{first_of}
use Rattle.far_types.specs.Table.{Table, Registered, is_pending}
use Rattle.far_aggregates.specs.Aggregates.{ask_refusal}
use Rattle.far_columns.specs.Pieces.{overlapped_groups}
use Rattle.far_table.specs.Watching.{aggregate_at, group_count, watch_refusal, unwatch_refusal}
use Rattle.far_frame.specs.declared.step.Step.{Step}
use Rattle.far_frame.specs.declared.step.Step.TheVariants as step

-- the plain table and, by column and row group, whether the chunk is away and how many pins it has.
-- `table_of` says of a chunk without places that it is not away and has no pin
pub record TableState : Type 0 where
  pub table : Table
  pub is_away : ℕ → ℕ → Bool
  pub pins : ℕ → ℕ → ℕ

-- there is no such column
abbrev pub no_column : Table → ℕ → Bool × Refusal
no_column table c = (not (nat_lt c (length table.schema)), refusal.NoColumn)

-- the row group has no place
abbrev pub no_group : Table → ℕ → Bool × Refusal
no_group table g = (not (nat_lt g (group_count table)), refusal.OutOfRange)

-- a chunk is away: the refusal names its column and its row group
abbrev pub away : TableState → ℕ → ℕ → Bool × Refusal
away s c g = (s.is_away c g, refusal.Absent c g)

-- for each needed column in order: its chunk of the row group is away
abbrev pub any_away : TableState → (ℕ → Bool) → ℕ → List (Bool × Refusal)
any_away s needed g = map
    (λ (at : ℕ × Kind). (needed at.0 && s.is_away at.0 g, refusal.Absent at.0 g))
    (enumerate_from 0 s.table.schema)

-- for each row group in order, and there for each column in order: its chunk is away
abbrev pub all_away : TableState → List (Bool × Refusal)
all_away s = flat_map (any_away s (λ c. true)) (range_with_len 0 (group_count s.table))

-- the row group of an edit's place. An insert is made at the next place, perhaps the first of a new
-- row group
abbrev pub edited_group : Table → Edit → ℕ
edited_group table (edit.Insert row) = length table.places / table.limits.group
edited_group table (edit.Set p c cell) = p / table.limits.group
edited_group table (edit.Remove p) = p / table.limits.group

-- the tests of an edit before the test for space: it has a fault of its own, a chunk of its row
-- group is away, or a text object would be too long
abbrev pub edit_tests : TableState → Edit → List (Bool × Refusal)
edit_tests s e = edit_faults s.table.schema s.table.limits s.table.places e
    ++ (any_away s (λ c. true) (edited_group s.table e)
    ++ (overfills s.table.schema s.table.limits e s.table.places, refusal.ChunkFull) ∷ [])

-- why scanning a row group into an aggregate is refused: there is no such aggregate, or no such row
-- group, or it is not pending, or a test in `columns` applies: for a scan, that a needed chunk is
-- away; for an offload there is none
abbrev pub scan_due :
    Table → Option Registered → ℕ → (Spec → List (Bool × Refusal)) → Option Refusal
scan_due table None g columns = Some refusal.NoAggregate
scan_due table (Some aggregate) g columns = first_of (no_group table g
    ∷ (not (is_pending aggregate.pending g), refusal.StaleJob) ∷ columns aggregate.spec)

-- the refusal that the step's arguments and this state determine, if there is one: the first test
-- that holds. A step that names a job or a segment has none here (`others`)
abbrev pub due : TableState → Step → Option Refusal
due s (step.Edit e) = first_of (edit_tests s e
    ++ (s.table.edits == s.table.limits.edits, refusal.EditsUsedUp) ∷ [])
due s (step.Watch spec) = watch_refusal s.table spec
due s (step.Unwatch a) = unwatch_refusal (aggregate_at s.table a)
due s (step.ScanGroup a g) =
    scan_due s.table (aggregate_at s.table a) g (λ spec. any_away s (needs spec) g)
due s (step.Ask a) = ask_refusal (aggregate_at s.table a)
due s (step.Lend c from to) = first_of (no_column s.table c
    ∷ (nat_lt to from || nat_lt (length s.table.places) to, refusal.OutOfRange)
    ∷ map (away s c) (overlapped_groups s.table.limits.group from to))
due s (step.Pin c g) = first_of (no_column s.table c ∷ no_group s.table g ∷ away s c g
    ∷ (s.pins c g == 65535, refusal.EditsUsedUp) ∷ [])
due s (step.Unpin c g) = first_of (no_column s.table c ∷ no_group s.table g
    ∷ (s.pins c g == 0, refusal.NotPinned) ∷ [])
due s (step.BeginEvac c g) = first_of (no_column s.table c ∷ no_group s.table g ∷ away s c g ∷ [])
due s (step.BeginFetch c g) = first_of (no_column s.table c ∷ no_group s.table g
    ∷ (not (s.is_away c g), refusal.StaleJob) ∷ [])
due s (step.BeginOffload a g) = scan_due s.table (aggregate_at s.table a) g (λ spec. [])
due s (step.Prefetch c) = first_of (no_column s.table c ∷ [])
due s _ = None

-- the refusals that a step may have if none is due, but for an edit: by its job, for lack of space,
-- by the far store, or for lack of memory. A step with none here has to be accepted then
abbrev pub others : Step → List Refusal
others (step.Unwatch a) = []
others (step.Pin c g) = []
others (step.Unpin c g) = []
others (step.BeginEvac c g) = refusal.EditsUsedUp ∷ refusal.NoMemory ∷ []
others (step.BeginFetch c g) = refusal.EditsUsedUp ∷ refusal.NoMemory ∷ []
others (step.BeginOffload a g) = refusal.StaleJob ∷ refusal.EditsUsedUp ∷ refusal.NoMemory ∷ []
others (step.Carry n) =
    refusal.StaleJob ∷ refusal.FarFault ∷ refusal.FarFull ∷ refusal.NoMemory ∷ []
others (step.Commit n) = refusal.StaleJob ∷ refusal.Pinned ∷ []
others (step.Install n) = refusal.StaleJob ∷ refusal.RegionFull ∷ refusal.NoMemory ∷ []
others (step.Merge n) = refusal.StaleJob ∷ refusal.NoAggregate ∷ refusal.NoMemory ∷ []
others (step.Compact kind segment) =
    refusal.OutOfRange ∷ refusal.RegionFull ∷ refusal.NoMemory ∷ []
others _ = refusal.NoMemory ∷ []

-- why a step may be refused: the refusal that is due or, if none is, one of the others. An edit: the
-- one that is due; or `RegionFull` if no test before the one for space holds, even if the edits are
-- used up; or `NoMemory` if none is due
abbrev pub IsReason : TableState → Step → Refusal → Type 0
IsReason s (step.Edit e) given = (due s (step.Edit e) ≡ Some given)
    ⊎ (((given ≡ refusal.RegionFull) × (first_of (edit_tests s e) ≡ None))
    ⊎ ((given ≡ refusal.NoMemory) × (due s (step.Edit e) ≡ None)))
IsReason s q given = (due s q ≡ Some given) ⊎ ((due s q ≡ None) × Contains (others q) given)
