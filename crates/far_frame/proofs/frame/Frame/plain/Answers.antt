use Rattle.std.proofs.Common.{ap, ◌∙◌}
use Rattle.far_aggregates.specs.Readings.{plain_in}
use Rattle.far_table.specs.Watching.{aggregate_at}
use Rattle.far_frame.specs.State.{State}
use Rattle.far_frame.proofs.frame.Frame.plain.Goals as goal

pub returns : goal.returns
returns g c =
    let rows = c.self.inside.rows in
    c.plain.ensures rows.limits.group rows.places c.self.invariant.kept
    ∙ ap (λ (s : State g.row.S-Ticket.Denot). plain_in s.table.places (aggregate_at s.table c.args.a)) c.self.view_is
