-- The state under the lock of a stripe.
use Rattle.std.specs.Prelude.{◌≡◌, ℕ, ◌≤◌, ◌^◌, List, [], length, Some}
use Rattle.far_types.specs.declared.cell.Kind.{Kind}
use Rattle.far_types.specs.declared.spec.Spec.{Spec}
use Rattle.far_types.specs.Table.{Table, Registered}
use Rattle.far_rows.specs.Jobs.{AreAt}
use Rattle.far_rows.specs.Rows.{Rows}
use Rattle.far_table.specs.Watching.{aggregate_at}
use Rattle.far_frame.specs.State.{State}
use Rattle.far_sessions.specs.Histories.{Planned, replay}
use Rattle.far_sessions.specs.declared.view.Entry.{Entry}
use Rattle.far_shared.specs.Fours.{pending_in}
use Rattle.far_shared.specs.Plans.{IsPlan}

-- the history of a stripe, and its table with its objects and aggregates
pub record StripeState (K : Type 0) : Type 0 where
  pub log : List Entry
  pub state : State K

-- an aggregate that was registered before all others, in an empty table: no row group was ever pending in it
abbrev pub first_registered : Spec → Registered
first_registered spec = record { spec = spec; registration = 0; pending = [] }

-- the rows of a table with this schema have an index for each column, and their objects have the number of their stripe
pub record AreRowsOf {K : Type 0} (schema : List Kind) (n : ℕ) (r : Rows K) : Type 0 where
  pub column_indexes : length r.column_indexes ≡ length schema
  pub numbers : r.number_objects.number ≡ n
  pub texts : r.text_objects.number ≡ n

-- a call keeps the indexes of the columns, and the number
pub record KeepsColumns {K : Type 0} (old new : Rows K) : Type 0 where
  pub column_indexes : new.column_indexes ≡ old.column_indexes
  pub numbers : new.number_objects.number ≡ old.number_objects.number
  pub texts : new.text_objects.number ≡ old.text_objects.number

-- a call keeps rows in their stripe
pub record KeepsHome {K : Type 0} (is_of : K → List ℕ → Type 0) (old new : Rows K) : Type 0 where
  -- it keeps the indexes of the columns, and the number
  pub columns : KeepsColumns old new
  -- if all tickets were of one store, they are afterwards
  pub here : (id : List ℕ) → AreAt is_of id old → AreAt is_of id new

-- the table is the replay of the history, and its aggregate 0 is the gauge of the plan, with nothing pending. Other aggregates may be
-- registered, each with at most as many pending row groups as a table may have places
pub record IsStripe (p : Planned) (log : List Entry) (table : Table) : Type 0 where
  pub plan : IsPlan p
  pub schema : table.schema ≡ p.schema
  pub limits : table.limits ≡ p.limits
  pub places : table.places ≡ (replay p log).places
  pub edits : table.edits ≡ (replay p log).edits
  pub aggregates : length table.aggregates ≡ 32
  pub gauge : aggregate_at table 0 ≡ Some (first_registered p.gauge)
  pub few : (a : ℕ) → pending_in (aggregate_at table a) ≤ 2 ^ 24
