use Rattle.std.proofs.Common.{◌∙◌, ◌<◌, ap, arith}
use Rattle.far_host.specs.HostTickets.{TicketState}
use Rattle.far_frame.specs.Worlds.{World}
use Rattle.far_c.proofs.Joined.{lent-cells, lent-flags}
use Rattle.far_c.proofs.Lending.{numbers-may-be-lent}
use Rattle.far_c.proofs.numbers.lent_numbers.Goals as goal

pub returns-clause-cells : goal.returns-clause-cells
returns-clause-cells c =
    let same = c.frame-frame.ensures ∙ ap (λ (w : World TicketState). w.state) c.world.ensures in
    let some : 0 < c.frame-frame.result.now.table.limits.group = omega (arith, c.limits-limits.ensures.bounds.group_low) in
    lent-cells c.scope.result c.frame-frame.result.now c.args.table.now.world c.scope.ensures same some c.args.column c.args.from c.args.to c.ints.result c.ints.ensures.lent c.ints.ensures.refused

pub returns-clause-flags : goal.returns-clause-flags
returns-clause-flags c =
    let same = c.frame-frame.ensures ∙ ap (λ (w : World TicketState). w.state) c.world.ensures in
    let some : 0 < c.frame-frame.result.now.table.limits.group = omega (arith, c.limits-limits.ensures.bounds.group_low) in
    lent-flags c.scope.result c.frame-frame.result.now c.args.table.now.world c.scope.ensures same some c.args.column c.args.from c.args.to c.ints.result c.ints.ensures.lent c.ints.ensures.refused

pub returns-clause-free : goal.returns-clause-free
returns-clause-free c =
    let same = c.frame-frame.ensures ∙ ap (λ (w : World TicketState). w.state) c.world.ensures in
    numbers-may-be-lent c.scope.result c.frame-frame.result.now c.args.table.now.world c.scope.ensures same c.args.column c.args.from c.args.to c.ints.result c.ints.ensures.refused
