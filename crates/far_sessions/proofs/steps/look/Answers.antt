use Rattle.std.proofs.Common.{rules}
use Rattle.far_sessions.proofs.RuleLaws.{looks}
use Rattle.far_sessions.proofs.steps.look.Goals as goal

pub load_as-requires : goal.load_as-requires
load_as-requires g c = (search rules, (search rules, (c.requires.cell, looks _ _ _ c.requires.has_session)))
