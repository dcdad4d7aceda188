use Rattle.std.proofs.Common.{refl}
use Rattle.far_commands.proofs.ResultLaws.{printed-ok}
use Rattle.far_commands.proofs.serve.serve_recount.Goals as goal

pub returns-clause-ok : goal.returns-clause-ok
returns-clause-ok g c =
    printed-ok c.add_printed.result c.recount-printed.result _ _ _ c.add_printed.ensures.printed c.add_printed.ensures.ok c.recount-printed.ensures.ok (λ added said. (c.recount-printed.new.reply, (refl, said, refl), added))
