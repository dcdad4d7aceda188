use Rattle.std.proofs.Common.{◌∙◌, ap}
use Rattle.far_host.specs.HostTickets.{TicketState}
use Rattle.far_frame.specs.Worlds.{World}
use Rattle.far_c.proofs.RowRefusals.{row-refused}
use Rattle.far_c.proofs.reading.lent_row.Goals as goal

pub returns-clause-refused : goal.returns-clause-refused
returns-clause-refused c =
    let same = c.frame.ensures ∙ ap (λ (w : World TicketState). w.state) c.world.ensures in
    row-refused c.scope.result c.frame.result.now c.args.table.now.world c.scope.ensures same c.args.place c.row.result c.row.ensures.past c.row.ensures.refused
