use Rattle.std.proofs.Common.{rules}
use Rattle.far_sessions.proofs.RuleLaws.{gives}
use Rattle.far_sessions.proofs.steps.give.Goals as goal

pub split_pass-requires : goal.split_pass-requires
split_pass-requires g c = (search rules, (search rules, (c.requires.cell, gives _ _ _ c.requires.keeps)))
