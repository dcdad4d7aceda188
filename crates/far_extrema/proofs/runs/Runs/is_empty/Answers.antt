use Rattle.std.proofs.Common.{◌≡◌, [], subst}
use Rattle.far_extrema.specs.Spreads.{IsTopOf}
use Rattle.far_extrema.specs.Runs.{RunState, whole}
use Rattle.far_extrema.proofs.SpreadsLaws.{empty_of}
use Rattle.far_extrema.proofs.runs.Runs.is_empty.Goals as goal

pub returns-in-None : goal.returns-in-None
returns-in-None c t =
    subst (λ (s : RunState). s.min_maxes ≡ []) c.self.view_is
    (empty_of (whole c.self.inside.runs.items) (subst (IsTopOf (whole c.self.inside.runs.items)) c.in-None.is c.self.invariant.2))
