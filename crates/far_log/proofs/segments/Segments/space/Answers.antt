use Rattle.std.proofs.Common.{ap, arith, length}
use Rattle.far_log.proofs.StorageSegments.{segment-is, count-states, count-tables}
use Rattle.far_log.proofs.segments.Segments.space.Goals as goal

pub len-requires : goal.len-requires
len-requires g c = omega (arith, c.requires, ap length c.self.view_is, count-states _ _ _ c.self.invariant, count-tables _ _ _ c.self.invariant)

pub returns-clause-space : goal.returns-clause-space
returns-clause-space g c =
    let h = segment-is c.self.inside.stacks.size c.self.inside.stacks.stacks c.self.inside.tables.items c.args.self.now c.args.number c.self.invariant c.self.view_is c.requires in
    omega (arith, h.fill, ap (λ s. s.size) h.shows, c.len.ensures.len, c.size.ensures)
