use Rattle.std.proofs.Common.{ap, ◌∙◌, sym}
use Rattle.far_log.proofs.StorageSegments.{segment-is}
use Rattle.far_log.proofs.segments.Segments.size.Goals as goal

pub returns : goal.returns
returns g c = λ number lt.
    let h = segment-is c.self.inside.stacks.size c.self.inside.stacks.stacks c.self.inside.tables.items c.args.self.now number c.self.invariant c.self.view_is lt in
    ap (λ s. s.size) h.shows ∙ sym c.size.ensures
