use Rattle.std.proofs.Common.{refl}
use Rattle.far_commands.proofs.ResultLaws.{printed-ok}
use Rattle.far_commands.proofs.serve.serve_step.Goals as goal

pub returns-clause-ok : goal.returns-clause-ok
returns-clause-ok g c =
    printed-ok c.add_printed.result c.take_step-printed.result _ _ _ c.add_printed.ensures.printed c.add_printed.ensures.ok c.take_step-printed.ensures.ok (λ added said. (c.take_step-printed.new.reply, (refl, said), added))
