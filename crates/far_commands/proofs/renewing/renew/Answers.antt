use Rattle.far_commands.proofs.RenewingFaults.{no-fault, one-fault}
use Rattle.far_commands.proofs.renewing.renew.Goals as goal

pub returns-in-Ok-clause-faults : goal.returns-in-Ok-clause-faults
returns-in-Ok-clause-faults g c =
    let renewed = c.in-Ok.ensures.renewed in
    no-fault g.S.FarTickets.content (g.S.FarTickets.store_id renewed.0) c.args.world.now c.go_on.new.world renewed.2

pub returns-in-Err-clause-faults : goal.returns-in-Err-clause-faults
returns-in-Err-clause-faults g c = one-fault c.args.world.now c.go_on.new.world c.in-Err.refusal c.in-Err.ensures.back.2
