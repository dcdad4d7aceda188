use Rattle.std.proofs.Common.{◌≡◌}
use Rattle.far_script.specs.declared.fault.ShellFault.TheVariants as fault
use Rattle.far_script.proofs.FlowStops.{handed-on}
use Rattle.far_commands.proofs.ListingsRows.{cut-at-once}
use Rattle.far_commands.proofs.listing.add_if_long.Goals as goal

pub returns-in_err-add-clause-err : goal.returns-in_err-add-clause-err
returns-in_err-add-clause-err g c =
    handed-on c.from_residual.result fault.Memory _ (rw c.in_err-add.ensures.memory at c.from_residual.ensures.1)
    (rw c.in_err-add.ensures.err (cut-at-once (λ said. said ≡ c.args.output.now.reply) (g.W.Write.contents c.args.writer.now) c.args.output.now.page))
