use Rattle.std.proofs.Common.{◌∙◌, ap}
use Rattle.far_host.specs.HostTickets.{TicketState}
use Rattle.far_frame.specs.Worlds.{World}
use Rattle.far_c.proofs.Lending.{texts-may-be-lent}
use Rattle.far_c.proofs.texts.lent_texts.Goals as goal

pub returns-clause-free : goal.returns-clause-free
returns-clause-free c =
    let same = c.frame.ensures ∙ ap (λ (w : World TicketState). w.state) c.world.ensures in
    texts-may-be-lent c.scope.result c.frame.result.now c.args.table.now.world c.scope.ensures same c.args.column c.args.from c.args.to c.texts.result c.texts.ensures.refused
