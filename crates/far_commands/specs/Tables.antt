-- The table that a first line opens.
use Rattle.std.specs.Prelude.{◌≡◌, ℕ, []}
use Rattle.far_types.specs.Bounds.{IsSchema, AreLimits}
use Rattle.far_store.specs.declared.store.FarTickets.{Ghosts as Tickets}
use Rattle.far_frame.specs.State.{empty_state}
use Rattle.far_frame.specs.Worlds.{World}
use Rattle.far_script.specs.Openings.{Opened}

-- an empty table of these columns and limits, both valid. No job was begun and no fault occurred
pub record IsEmpty {K : Type 0} (opened : Opened) (world : World K) : Type 0 where
  pub schema : IsSchema opened.0
  pub limits : AreLimits opened.1
  pub state : world.state ≡ empty_state opened.0 opened.1 0
  pub begun : world.begun ≡ 0
  pub jobs : world.jobs ≡ []
  pub faults : world.faults ≡ 0

-- the number of contents that the first store of a script can hold
abbrev pub first_capacity : ℕ
first_capacity = 1048576

module _ {S K : Type 0} (tickets : Tickets S K) where
  -- the store of a table has this capacity
  abbrev pub HasStore : ℕ → World K → Type 0
  HasStore capacity world = (store : S) × (tickets.capacity_of store ≡ capacity)
      × (world.store ≡ tickets.store_id store)
