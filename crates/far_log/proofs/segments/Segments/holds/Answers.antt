use Rattle.std.proofs.Common.{IsSome, length, ap, subst, eq-eqb, arith}
use Rattle.std.proofs.lemmas.Bool.{eqb-true}
use Rattle.far_log.specs.RegionState.{list_at}
use Rattle.far_log.specs.Storage.{extents_of}
use Rattle.far_log.proofs.StorageExtents.{extent-found, none-found, live-shows}
use Rattle.far_log.proofs.StorageSegments.{segment-with, count-states}
use Rattle.far_log.proofs.segments.Segments.holds.Goals as goal

pub index-table-requires : goal.index-table-requires
index-table-requires g c = omega (arith, c.requires, ap length c.self.view_is, count-states _ _ _ c.self.invariant, c.self.inside.tables.ok.0)

pub extent_at-requires : goal.extent_at-requires
extent_at-requires g c =
    let t = c.index-table.result.now in
    let h = segment-with c.self.inside.stacks.size c.self.inside.stacks.stacks c.self.inside.tables.items c.args.self.now c.args.at.segment t c.self.invariant c.self.view_is c.requires c.index-table.ensures in
    h.kept.stored.adjacent

pub returns-then-extent : goal.returns-then-extent
returns-then-extent g c =
    let t = c.index-table.result.now in
    let h = segment-with c.self.inside.stacks.size c.self.inside.stacks.stacks c.self.inside.tables.items c.args.self.now c.args.at.segment t c.self.invariant c.self.view_is c.requires c.index-table.ensures in (
      λ same.
          let there = c.in-Some.ensures.there in
          rw h.shows (live-shows _ (extents_of t.entries) c.args.at.offset there.0 c.in-Some.extent there.1 c.if-extent.true (eqb-true _ _ same)),
      λ some.
          let there = subst (λ r. IsSome (list_at r.parts c.args.at.offset)) h.shows some in
          let extent = extent-found _ (extents_of t.entries) c.args.at.offset c.extent_at.result c.in-Some.extent c.in-Some.is there c.extent_at.ensures.found in
          eq-eqb _ _ extent.1.begins,
    )

pub returns-else-extent : goal.returns-else-extent
returns-else-extent g c =
    let t = c.index-table.result.now in
    let h = segment-with c.self.inside.stacks.size c.self.inside.stacks.stacks c.self.inside.tables.items c.args.self.now c.args.at.segment t c.self.invariant c.self.view_is c.requires c.index-table.ensures in (
      λ live. absurd (cc),
      λ some.
          let there = subst (λ r. IsSome (list_at r.parts c.args.at.offset)) h.shows some in
          let extent = extent-found _ (extents_of t.entries) c.args.at.offset c.extent_at.result c.in-Some.extent c.in-Some.is there c.extent_at.ensures.found in
          extent.1.live,
    )

pub returns-in-None : goal.returns-in-None
returns-in-None g c =
    let t = c.index-table.result.now in
    let h = segment-with c.self.inside.stacks.size c.self.inside.stacks.stacks c.self.inside.tables.items c.args.self.now c.args.at.segment t c.self.invariant c.self.view_is c.requires c.index-table.ensures in (
      λ never. absurd (cc),
      λ some.
          let there = subst (λ r. IsSome (list_at r.parts c.args.at.offset)) h.shows some in
          absurd (none-found _ (extents_of t.entries) c.args.at.offset c.extent_at.result c.in-None.is there c.extent_at.ensures.found),
    )
