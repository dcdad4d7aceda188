-- The aggregates of a table over objects: which are registered, forgotten, scanned and asked, and why that is refused.
use Rattle.std.specs.Prelude.{◌≡◌, ℕ, ◌+◌, ◌^◌, ◌==◌, ◌&&◌, not, Bool, nat_lt, List, [], ◌∷◌, length, Option, None, Some, is_none, option_map, replicate, slice_get, slice_set, true}
use Rattle.std.specs.Option.{option_or}
use Rattle.far_types.specs.declared.spec.Spec.{Spec}
use Rattle.far_types.specs.declared.refusal.Refusal.{Refusal}
use Rattle.far_types.specs.declared.refusal.Refusal.TheVariants as refusal
use Rattle.far_types.specs.Bounds.{needs, spec_refusal}
use Rattle.far_types.specs.FirstOf.{first_of}
use Rattle.far_types.specs.Table.{Table, Registered, groups, is_pending}
use Rattle.far_aggregates.specs.Aggregates.{flattened, free_from, after_scan}
use Rattle.far_rows.specs.declared.column_index.ColumnIndex.{ColumnIndex}
use Rattle.far_rows.specs.Rows.{Rows}
use Rattle.far_rows.specs.Refusing.{away_at}
use Rattle.far_table.specs.State.{LiveState}

-- the aggregate that is registered under a number
abbrev pub aggregate_at : Table → ℕ → Option Registered
aggregate_at table a = flattened (slice_get table.aggregates a)

-- the lowest number without an aggregate; none if all 32 are taken
abbrev pub lowest_free : Table → Option ℕ
lowest_free table = free_from 0 table.aggregates

-- the number of row groups that have a place
abbrev pub group_count : Table → ℕ
group_count table = groups table.limits.group (length table.places)

-- why an aggregate is not registered (`watch`): its specification; then that 32 are registered, or
-- 2^32 were in all
abbrev pub watch_refusal : Table → Spec → Option Refusal
watch_refusal table spec = option_or (spec_refusal table.schema spec) (first_of (
    (is_none (lowest_free table), refusal.TooManyAggregates)
    ∷ (table.registrations == 2 ^ 32, refusal.TooManyAggregates)
    ∷ []))

-- why an aggregate is not forgotten (`unwatch`)
abbrev pub unwatch_refusal : Option Registered → Option Refusal
unwatch_refusal None = Some refusal.NoAggregate
unwatch_refusal (Some aggregate) = None

module _ {K : Type 0} where
  -- a test for each column of these indexes, of which the first is column n of the table: the aggregate needs the column, and its object
  -- of the row group is away
  abbrev pub needed_from : Rows K → Spec → ℕ → ℕ → List ColumnIndex → List (Bool × Refusal)
  needed_from r spec g n [] = []
  needed_from r spec g n (s ∷ column_indexes) =
      (needs spec n && (away_at r g s).0, refusal.Absent n g)
      ∷ needed_from r spec g (n + 1) column_indexes

  -- a row group is scanned if it has a place, is still pending, and the columns that the aggregate needs are local
  abbrev pub scan_refusal : LiveState K → Option Registered → ℕ → Option Refusal
  scan_refusal s None g = Some refusal.NoAggregate
  scan_refusal s (Some aggregate) g = first_of (
      (not (nat_lt g (group_count s.table)), refusal.OutOfRange)
      ∷ (not (is_pending aggregate.pending g), refusal.StaleJob)
      ∷ needed_from s.rows aggregate.spec g 0 s.rows.column_indexes)

-- the table with this aggregate, or none, under a number
abbrev pub with_aggregate : ℕ → Option Registered → Table → Table
with_aggregate a aggregate table = record table
    { aggregates = slice_set table.aggregates a aggregate }

-- the table after an aggregate is registered under this number. All row groups that hold a place are
-- pending; one that gets its first place later never is
abbrev pub after_register_at : ℕ → Spec → Table → Table
after_register_at a spec table = record
    (with_aggregate a (Some record {
      spec = spec;
      registration = table.registrations;
      pending = replicate (group_count table) true;
    }) table)
    { registrations = table.registrations + 1 }

-- the table after row group g is scanned into aggregate a: it is no longer pending there
abbrev pub after_scan_at : ℕ → ℕ → Table → Table
after_scan_at a g table = with_aggregate a (option_map (after_scan g) (aggregate_at table a)) table

module _ {K : Type 0} (old new : LiveState K) where
  -- an aggregate is registered under the lowest free number
  pub record IsWatched (spec : Spec) (a : ℕ) : Type 0 where
    pub due : watch_refusal old.table spec ≡ None
    pub number : lowest_free old.table ≡ Some a
    pub state : new ≡ record old { table = after_register_at a spec old.table }

  -- the aggregate of a number is forgotten
  pub record IsUnwatched (a : ℕ) : Type 0 where
    pub due : unwatch_refusal (aggregate_at old.table a) ≡ None
    pub state : new ≡ record old { table = with_aggregate a None old.table }

  -- a row group is scanned into the aggregate of a number
  pub record IsScanned (a g : ℕ) : Type 0 where
    pub due : scan_refusal old (aggregate_at old.table a) g ≡ None
    pub state : new ≡ record old { table = after_scan_at a g old.table }
