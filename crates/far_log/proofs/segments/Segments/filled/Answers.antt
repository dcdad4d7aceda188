use Rattle.std.proofs.Common.{ap, ◌∙◌}
use Rattle.std.specs.Prelude.{sum_by}
use Rattle.far_log.specs.RegionState.{fill_of}
use Rattle.far_log.proofs.StorageSegments.{filled-states}
use Rattle.far_log.proofs.segments.Segments.filled.Goals as goal

pub returns : goal.returns
returns g c = c.filled.ensures ∙ filled-states _ _ _ c.self.invariant ∙ ap (sum_by fill_of) c.self.view_is
