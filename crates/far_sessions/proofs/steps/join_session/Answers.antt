use Rattle.std.proofs.Common.{rules, sym, ◌∙◌}
use Rattle.far_sessions.proofs.RuleLaws.{joins}
use Rattle.far_sessions.proofs.steps.join_session.Goals as goal

pub join_pass-requires : goal.join_pass-requires
join_pass-requires g c = (search rules, (search rules, ((c.requires.cell, c.requires.other.0 ∙ sym c.requires.cell, c.requires.other.1), joins _ _ _ _ _)))
