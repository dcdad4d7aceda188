-- What a script does to its table with objects, space, jobs and store.
use Rattle.std.specs.Prelude.{◌≡◌}
use Rattle.far_store.specs.declared.store.FarTickets.{Ghosts as Tickets}
use Rattle.far_frame.specs.State.{live}
use Rattle.far_frame.specs.Steps.{IsStep}
use Rattle.far_frame.specs.TableRefusals.{TableState}
use Rattle.far_frame.specs.TableViews.{table_of}
use Rattle.far_frame.specs.Worlds.{World, HasOwnTickets}
use Rattle.far_commands.specs.Listings.{listing_of}
use Rattle.far_commands.specs.Progress.{At}
use Rattle.far_commands.specs.Renewals.{Renews}
use Rattle.far_commands.specs.Rules.{Rules, both}
use Rattle.far_commands.specs.TableRules.{table_rules}
use Rattle.far_commands.specs.Tables.{HasStore, IsEmpty, first_capacity}

-- a world's table, as its user sees it
abbrev pub table_seen : {K : Type 0} → World K → TableState
table_seen world = table_of world.state

-- a script's table as its user sees it, with the number of commands
abbrev pub at_seen : {K : Type 0} → At (World K) → At TableState
at_seen at = record { world = table_seen at.world; number = at.number }

module _ {S K : Type 0} (tickets : Tickets S K) where
  -- the rules of a script with objects, space, jobs and store. After each command every ticket is of the world's store, also
  -- one that a carry or a renewal got
  abbrev pub world_rules : Rules (World K)
  world_rules = record {
    table_in = λ world. world.state.table;
    IsOpened = λ opened world. IsEmpty opened world × HasStore tickets first_capacity world;
    Steps = IsStep tickets.content tickets.number_of;
    Lists = λ world text. text ≡ listing_of (live world.state);
    Moves = Renews tickets;
    Stays = HasOwnTickets tickets.is_of;
    MayFail = tickets.may_fail;
  }

  -- the rules of a world, and those of its table as its user sees it
  abbrev pub both_rules : Rules (World K)
  both_rules = both table_seen world_rules (table_rules tickets.may_fail)
