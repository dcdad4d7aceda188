use Rattle.std.proofs.Common.{rules, [], ◌∷◌, refl}
use Rattle.far_sessions.proofs.RuleLaws.{begins}
use Rattle.far_sessions.proofs.steps.begin.Goals as goal

pub ruled-requires : goal.ruled-requires
ruled-requires g c = (search rules, (search rules, begins _ (0 ∷ 0 ∷ 0 ∷ 0 ∷ []) refl))
