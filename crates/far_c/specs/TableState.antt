-- The state that an open handle points to.
use Rattle.std.specs.Prelude.{◌≡◌, ℕ, List, [], Option, None}
use Rattle.far_types.specs.declared.answer.Answer.{Answer}
use Rattle.far_types.specs.declared.cell.Kind.{Kind}
use Rattle.far_types.specs.declared.limits.Limits.{Limits}
use Rattle.far_types.specs.declared.refusal.Refusal.{Refusal}
use Rattle.far_types.specs.Table.{Place}
use Rattle.far_host.specs.HostTickets.{TicketState}
use Rattle.far_frame.specs.State.{empty_state}
use Rattle.far_frame.specs.Worlds.{World}
use Rattle.far_c.specs.Numbering.{HasStore}

-- the table with its jobs, the answer that the handle holds, and the last refusal
pub record TableState : Type 0 where
  pub world : World TicketState
  pub answer : Option Answer
  pub refusal : Option Refusal

-- the places of its table
abbrev pub places_of : TableState → List Place
places_of t = t.world.state.table.places

-- an empty table with these columns and limits, whose store gives out the numbers below a capacity.
-- No job was begun, and no fault occurred
pub record IsNew (schema : List Kind) (limits : Limits) (capacity : ℕ) (new : TableState)
    : Type 0 where
  pub state : new.world.state ≡ empty_state schema limits 0
  pub store : HasStore capacity new.world
  pub begun : new.world.begun ≡ 0
  pub jobs : new.world.jobs ≡ []
  pub faults : new.world.faults ≡ 0
  pub answer : new.answer ≡ None
  pub refusal : new.refusal ≡ None
