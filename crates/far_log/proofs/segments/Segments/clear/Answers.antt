use Rattle.std.proofs.Common.{[], length, refl, ap, arith}
use Rattle.far_log.proofs.StorageSegments.{default_value, segment-with, kept-default_value, count-states, count-tables, states-set, kept-set}
use Rattle.far_log.proofs.segments.Segments.clear.Goals as goal

pub index_mut-table-requires : goal.index_mut-table-requires
index_mut-table-requires g c = omega (arith, c.requires, ap length c.self.view_is, count-states _ _ _ c.self.invariant, c.self.inside.tables.ok.0)

pub truncate-requires-clause-there : goal.truncate-requires-clause-there
truncate-requires-clause-there g c = omega (arith, c.requires, ap length c.self.view_is, count-states _ _ _ c.self.invariant, count-tables _ _ _ c.self.invariant)

pub invariant_of-self : goal.invariant_of-self
invariant_of-self g c =
    let t = c.index_mut-table.result.now in
    let h = segment-with c.self.inside.stacks.size c.self.inside.stacks.stacks c.self.inside.tables.items c.args.self.now c.args.number t c.self.invariant c.self.view_is c.requires c.index_mut-table.ensures.value in
    rw (c.truncate.ensures, c.clear.ensures) (kept-set c.self.inside.stacks.size c.self.inside.stacks.stacks c.self.inside.tables.items c.args.number [] default_value c.self.invariant (kept-default_value c.self.inside.stacks.size h.kept.stored.small))

pub returns : goal.returns
returns g c =
    let t = c.index_mut-table.result.now in
    let h = segment-with c.self.inside.stacks.size c.self.inside.stacks.stacks c.self.inside.tables.items c.args.self.now c.args.number t c.self.invariant c.self.view_is c.requires c.index_mut-table.ensures.value in
    rw (c.truncate.ensures, c.clear.ensures, states-set c.self.inside.stacks.size c.self.inside.stacks.stacks c.self.inside.tables.items c.args.number [] default_value, c.self.view_is, h.shows) refl
