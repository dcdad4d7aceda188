use Rattle.std.proofs.Common.{refl}
use Rattle.far_commands.proofs.RulesLaws.{move-seen}
use Rattle.far_commands.proofs.ResultLaws.{printed-ok}
use Rattle.far_commands.proofs.serve.serve_renewal.Goals as goal

pub returns-clause-ok : goal.returns-clause-ok
returns-clause-ok g c =
    printed-ok c.add_printed.result c.renew-printed.result _ _ _ c.add_printed.ensures.printed c.add_printed.ensures.ok c.renew-printed.ensures.ok (λ added said.
    (c.renew-printed.new.reply, (refl, (said, move-seen g.S.FarTickets c.args.capacity c.args.world.now c.renew-printed.new.world c.renew-printed.new.reply c.renew-printed.ensures.table said)), added))
