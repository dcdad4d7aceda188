-- The tables of a closed shared table.
use Rattle.std.specs.Prelude.{ℕ, List}
use Rattle.far_types.specs.Table.{Table}
use Rattle.far_sessions.specs.Histories.{Planned, IsLegal}
use Rattle.far_sessions.specs.declared.view.Entry.{Entry}
use Rattle.far_sessions.specs.Closing.{IsSettled}
use Rattle.far_sessions.specs.Known.{Known}
use Rattle.far_shared.specs.Stripes.{IsStripe}

-- the table of stripe k is the replay of a legal history, whose entries are exactly those that these sessions know as their own there
pub record IsClosed (p : Planned) (k : ℕ) (sessions : List Known) (table : Table) : Type 0 where
  pub log : List Entry
  pub legal : IsLegal p log
  pub stripe : IsStripe p log table
  pub settled : IsSettled p.sessions k log sessions
