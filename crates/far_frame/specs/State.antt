-- A table with its access history.
use Rattle.std.specs.Prelude.{◌≡◌, ℕ, List, [], length, replicate}
use Rattle.far_types.specs.declared.cell.Kind.{Kind}
use Rattle.far_types.specs.declared.limits.Limits.{Limits}
use Rattle.far_types.specs.Table.{Table, empty_table}
use Rattle.far_rows.specs.Rows.{Rows}
use Rattle.far_rows.specs.Opening.{empty_rows}
use Rattle.far_table.specs.State.{LiveState}

-- all that a step on the table can see or change: the plain table, the rows over the objects that have its places, and for each column
-- the last 8 row groups that were accessed, oldest first
pub record State (K : Type 0) : Type 0 where
  pub table : Table
  pub rows : Rows K
  pub accesses : List (List ℕ)

-- a new table
abbrev pub empty_state : {K : Type 0} → List Kind → Limits → ℕ → State K
empty_state schema limits number = record {
  table = empty_table schema limits;
  rows = empty_rows schema limits number;
  accesses = replicate (length schema) [];
}

module _ {K : Type 0} where
  -- a table and its rows, with an access history
  abbrev pub with_accesses : LiveState K → List (List ℕ) → State K
  with_accesses s accesses = record { table = s.table; rows = s.rows; accesses = accesses }

  -- the table and its rows, without the access history
  abbrev pub live : State K → LiveState K
  live s = record { table = s.table; rows = s.rows }

  -- the table and its rows change in this way, and the access history does not change
  pub record Alters (change : LiveState K → LiveState K → Type 0) (old new : State K) : Type 0 where
    pub changed : change (live old) (live new)
    pub accesses : new.accesses ≡ old.accesses
