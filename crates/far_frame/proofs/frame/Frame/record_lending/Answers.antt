use Rattle.std.proofs.Common.{sym}
use Rattle.far_frame.proofs.frame.Frame.record_lending.Goals as goal

pub returns-clause-ok : goal.returns-clause-ok
returns-clause-ok g c =
    let it = c.in_ok-may_lend.ensures.given in
    (it.0, it.1, record { due = sym c.in_ok-may_lend.ensures.refused; says = it.1; used = c.record_accesses.ensures.accesses })
