use Rattle.std.proofs.Common.{inl, refl}
use Rattle.far_script.specs.declared.fault.ShellFault.TheVariants as fault
use Rattle.far_script.proofs.FlowStops.{handed-on, on-printed}
use Rattle.far_shell.proofs.SessionsLaws.{outcome-of}
use Rattle.far_shell.proofs.threads.print_sessions.Goals as goal

pub returns-in_ok-add_printed-in-Ok-clause-ok : goal.returns-in_ok-add_printed-in-Ok-clause-ok
returns-in_ok-add_printed-in-Ok-clause-ok g c =
    let printed = on-printed c.outcome-printed.result _ c.in_ok-add_printed-in-Ok.ensures.printed c.outcome-printed.ensures.ok in
    let said = rw c.truncate.ensures at printed in
    (c.outcome-printed.new.page, outcome-of c.args.sessions c.args.edits c.in-Ok.ended c.outcome-printed.new.page c.in-Ok.ensures.ok said, c.in_ok-add_printed-in-Ok.ensures.ok)

pub returns-in_err-add_printed-in-Ok-clause-fault : goal.returns-in_err-add_printed-in-Ok-clause-fault
returns-in_err-add_printed-in-Ok-clause-fault g c =
    handed-on c.from_residual.result fault.Memory _ (rw c.in_err-add_printed-in-Ok.ensures.memory at c.from_residual.ensures.1) (inl refl)
