use Rattle.std.proofs.Common.{ap}
use Rattle.far_table.specs.State.{LiveState}
use Rattle.far_frame.specs.State.{State}
use Rattle.far_frame_tests.proofs.JobsUnchanged.{by-value, unchanged-at}
use Rattle.far_frame_tests.proofs.two_tables.watch.Goals as goal

pub returns : goal.returns
returns g c =
    unchanged-at g.S.FarTickets.is_of c.args.frame.now.rows c.watch.new.self.rows
    (by-value c.watch.result c.watch.ensures.ok c.watch.ensures.err (λ a watched. ap (λ (s : LiveState g.row.S-Ticket.Denot). s.rows) watched.2.changed.state) (λ e refused. ap (λ (s : State g.row.S-Ticket.Denot). s.rows) refused.0))
