use Rattle.std.proofs.Common.{rules}
use Rattle.far_sessions.proofs.RuleLaws.{splits}
use Rattle.far_sessions.proofs.steps.split_session.Goals as goal

pub split_pass-requires : goal.split_pass-requires
split_pass-requires g c = (search rules, (search rules, (c.requires, splits _ _ _)))
