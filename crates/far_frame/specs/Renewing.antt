-- A table that moves to another far store.
use Rattle.std.specs.Prelude.{◌≡◌, ℕ, List, []}
use Rattle.far_rows.specs.Renewal.{RowsTickets, RenewsRows, renewed_rows}
use Rattle.far_frame.specs.State.{State}
use Rattle.far_frame.specs.Worlds.{World}

module _ {K L : Type 0} (content : K → List ℕ) (new_content : L → List ℕ) where
  -- the contents of the objects that are away are now in another store, under these tickets. Every row, aggregate and answer is unchanged.
  -- A local object is dirty, since the new store has no copy of it
  pub record IsMigrated (old : State K) (new : State L) : Type 0 where
    pub tickets : RowsTickets L
    pub renews : RenewsRows content new_content old.rows tickets
    pub state : new
        ≡ record
        { table = old.table; rows = renewed_rows old.rows tickets; accesses = old.accesses }

  -- the same for a world: the numbers of all jobs begun so far are spent, and the counts of jobs and faults continue
  pub record IsMigratedTo (id : List ℕ) (old : World K) (new : World L) : Type 0 where
    pub migrated : IsMigrated old.state new.state
    pub world : new
        ≡ record
        { state = new.state; store = id; begun = old.begun; jobs = []; faults = old.faults }
