use Rattle.std.proofs.Common.{sym}
use Rattle.far_commands.proofs.PiecesLending.{lends}
use Rattle.far_commands.proofs.serve.take_lending.Goals as goal

pub returns-in-Ok-clause-lent : goal.returns-in-Ok-clause-lent
returns-in-Ok-clause-lent g c =
    let printed = rw c.frame.ensures at c.in_ok-lent.ensures.ok c.if-not-branch.false in
    let limits = rw c.frame-2.ensures at c.limits-limits.ensures.bounds in
    λ _. lends g.S.FarTickets c.args.world.now c.record_lending.new.self c.args.column c.args.from c.args.to c.lent.new.reply c.in-Ok.ensures.ok limits (sym c.in-Ok.ensures.refused) (sym c.in-Ok.ensures.due) c.record_lending.ensures.table printed
