use Rattle.std.proofs.Common.{IsSome, length, ap, subst, arith}
use Rattle.far_log.specs.RegionState.{list_at}
use Rattle.far_log.specs.Storage.{extents_of}
use Rattle.far_log.proofs.StorageExtents.{extent-found, none-found, extent-within}
use Rattle.far_log.proofs.RegionStateLaws.{part-there}
use Rattle.far_log.proofs.StorageSegments.{segment-with, some-element, count-states, count-tables}
use Rattle.far_log.proofs.segments.Segments.part.Goals as goal

pub index-table-requires : goal.index-table-requires
index-table-requires g c =
    let lt = part-there c.args.self.now c.args.at c.requires in
    omega (arith, lt, ap length c.self.view_is, count-states _ _ _ c.self.invariant, c.self.inside.tables.ok.0)

pub extent_at-requires : goal.extent_at-requires
extent_at-requires g c =
    let t = c.index-table.result.now in
    let h = segment-with c.self.inside.stacks.size c.self.inside.stacks.stacks c.self.inside.tables.items c.args.self.now c.args.at.segment t c.self.invariant c.self.view_is (part-there c.args.self.now c.args.at c.requires) c.index-table.ensures in
    h.kept.stored.adjacent

pub unreachable-requires : goal.unreachable-requires
unreachable-requires g c =
    let t = c.index-table.result.now in
    let h = segment-with c.self.inside.stacks.size c.self.inside.stacks.stacks c.self.inside.tables.items c.args.self.now c.args.at.segment t c.self.invariant c.self.view_is (part-there c.args.self.now c.args.at c.requires) c.index-table.ensures in
    let there = subst (λ r. IsSome (list_at r.parts c.args.at.offset)) h.shows c.requires in
    none-found _ (extents_of t.entries) c.args.at.offset c.extent_at.result c.in_default.is there c.extent_at.ensures.found

pub slice-requires-clause-there : goal.slice-requires-clause-there
slice-requires-clause-there g c =
    let lt = part-there c.args.self.now c.args.at c.requires in
    omega (arith, lt, ap length c.self.view_is, count-states _ _ _ c.self.invariant, count-tables _ _ _ c.self.invariant)

pub slice-requires-clause-some : goal.slice-requires-clause-some
slice-requires-clause-some g c =
    let t = c.index-table.result.now in
    let h = segment-with c.self.inside.stacks.size c.self.inside.stacks.stacks c.self.inside.tables.items c.args.self.now c.args.at.segment t c.self.invariant c.self.view_is (part-there c.args.self.now c.args.at c.requires) c.index-table.ensures in
    let there = subst (λ r. IsSome (list_at r.parts c.args.at.offset)) h.shows c.requires in
    some-element _ (extents_of t.entries) c.args.at.offset h.kept.stored.adjacent h.kept.stored.end there

pub slice-requires-clause-within : goal.slice-requires-clause-within
slice-requires-clause-within g c =
    let t = c.index-table.result.now in
    let h = segment-with c.self.inside.stacks.size c.self.inside.stacks.stacks c.self.inside.tables.items c.args.self.now c.args.at.segment t c.self.invariant c.self.view_is (part-there c.args.self.now c.args.at c.requires) c.index-table.ensures in
    let there = c.in-Some.ensures.there in
    omega (arith, extent-within 0 (extents_of t.entries) there.0 c.in-Some.extent h.kept.stored.adjacent there.1, h.kept.stored.end)

pub returns : goal.returns
returns g c =
    let t = c.index-table.result.now in
    let h = segment-with c.self.inside.stacks.size c.self.inside.stacks.stacks c.self.inside.tables.items c.args.self.now c.args.at.segment t c.self.invariant c.self.view_is (part-there c.args.self.now c.args.at c.requires) c.index-table.ensures in
    let there = subst (λ r. IsSome (list_at r.parts c.args.at.offset)) h.shows c.requires in
    let extent = extent-found _ (extents_of t.entries) c.args.at.offset c.extent_at.result c.in-Some.extent c.in-Some.is there c.extent_at.ensures.found in
    rw (h.shows, c.slice.ensures) extent.1.shows
