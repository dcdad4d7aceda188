-- The numbers that the store of a table gives out.
use Rattle.std.specs.Prelude.{◌≡◌, ℕ}
use Rattle.far_host.specs.HostTickets.{HostState, TicketState, id_of}
use Rattle.far_frame.specs.Renewing.{IsMigratedTo}
use Rattle.far_frame.specs.Worlds.{World}
use Rattle.far_c.specs.Contents.{content}

-- the store of a world gives out exactly the numbers below this capacity
abbrev pub HasStore : ℕ → World TicketState → Type 0
HasStore capacity world = (store : HostState) × (store.capacity ≡ capacity)
    × (world.store ≡ id_of store)

-- a world continues with new numbers, below this capacity: its contents are in a new store
abbrev pub IsRenumbered : ℕ → World TicketState → World TicketState → Type 0
IsRenumbered capacity old new = IsMigratedTo content content new.store old new
    × HasStore capacity new
