-- Calls that change only the table and its jobs.
use Rattle.std.specs.Prelude.{◌≡◌, ℕ, [], ◌∷◌}
use Rattle.far_host.specs.HostTickets.{TicketState}
use Rattle.far_frame.specs.Lending.{AreObserved}
use Rattle.far_frame.specs.Worlds.{World}
use Rattle.far_c.specs.TableState.{TableState}

-- only the world changes, and in this way
abbrev pub OnWorld : (World TicketState → World TicketState → Type 0) → TableState → TableState
    → Type 0
OnWorld relates old new = relates old.world new.world × (new ≡ record old { world = new.world })

-- an access to an object is recorded, and the object is marked as recently used
abbrev pub IsSeen : ℕ → ℕ → World TicketState → World TicketState → Type 0
IsSeen column group old new = AreObserved column (group ∷ []) old.state new.state
    × (new ≡ record old { state = new.state })
