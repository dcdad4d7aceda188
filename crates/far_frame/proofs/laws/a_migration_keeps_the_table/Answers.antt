use Rattle.std.proofs.Common.{ap}
use Rattle.far_frame.specs.State.{State}
use Rattle.far_frame.proofs.laws.a_migration_keeps_the_table.Goals as goal

pub returns : goal.returns
returns g c = record {
  world = λ id old new h. ap (λ (s : State g.row.N-Ticket.Denot). s.table) h.migrated.state;
  frame = λ old new h. ap (λ (s : State g.row.N-Ticket.Denot). s.table) h.state;
}
