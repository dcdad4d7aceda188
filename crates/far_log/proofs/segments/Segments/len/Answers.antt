use Rattle.std.proofs.Common.{sym, ap, ◌∙◌, length}
use Rattle.far_log.proofs.StorageSegments.{count-states}
use Rattle.far_log.proofs.segments.Segments.len.Goals as goal

pub returns : goal.returns
returns g c = c.len.ensures ∙ c.self.inside.tables.ok.0 ∙ sym (count-states _ _ _ c.self.invariant) ∙ ap length c.self.view_is
