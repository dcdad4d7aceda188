use Rattle.std.proofs.Common.{ap, ◌∙◌, length, arith}
use Rattle.std.specs.Prelude.{sum_by}
use Rattle.far_log.specs.declared.table.Table.{Table}
use Rattle.far_log.specs.RegionState.{used_of}
use Rattle.far_log.proofs.StorageSegments.{count-states, used-states}
use Rattle.far_log.proofs.segments.Segments.used.Goals as goal

pub used_by-requires : goal.used_by-requires
used_by-requires g c = omega (arith, c.requires, ap length c.self.view_is, count-states _ _ _ c.self.invariant, ap length c.deref.ensures.value)

pub returns : goal.returns
returns g c = c.used_by.ensures ∙ ap (sum_by (λ (t : Table). t.used)) c.deref.ensures.value ∙ used-states _ _ _ c.self.invariant ∙ ap used_of c.self.view_is
