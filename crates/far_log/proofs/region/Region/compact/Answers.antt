use Rattle.std.proofs.Common.{◌≡◌, ◌<◌, length, map, ap, subst, ◌∙◌, arith}
use Rattle.far_log.specs.RegionState.{RegionState, IsRegion, segment_of}
use Rattle.far_log.specs.Effects.{compacted, gathered, IsEmptyOther}
use Rattle.far_log.specs.Skipping.{IsSkip, IsSpaced}
use Rattle.far_log.proofs.EffectsCompaction.{compacted-region, compacted-skip, compacts}
use Rattle.far_log.proofs.region.Region.compact.Goals as goal

pub invariant_of-self-2 : goal.invariant_of-self-2
invariant_of-self-2 g c =
    let old : RegionState g.row.T.Denot = c.args.self.now in
    let there : c.args.from < length old = omega (arith, c.if-from-len.false, c.len.ensures, ap length c.self.view_is) in
    let region : IsRegion old = rw (← c.self.view_is) c.self.invariant.region in
    let target : IsEmptyOther old c.args.from c.in-Some.to = c.in-Some.ensures.found in
    let moved : c.compact.new.self ≡ compacted old c.args.from c.in-Some.to c.args.order.now = c.in_ok-offsets.ensures.moved ∙ ap (λ r. compacted r c.args.from c.in-Some.to c.args.order.now) c.self.view_is in
    let known : IsSkip old c.self.inside.skip = rw (← c.self.view_is) c.self.invariant.skipped in
    record {
      region = rw moved (compacted-region old c.args.from c.in-Some.to c.args.order.now region there target c.requires);
      skipped = rw moved (compacted-skip old c.args.from c.in-Some.to c.args.order.now region there target c.requires c.self.inside.skip c.with_space-self-inside.result known (subst (IsSpaced c.self.inside.skip c.with_space-self-inside.result c.args.from) c.size-size.ensures.size c.with_space-self-inside.ensures));
    }

pub returns-clause-compacted : goal.returns-clause-compacted
returns-clause-compacted g c =
    let old : RegionState g.row.T.Denot = c.args.self.now in
    let there : c.args.from < length old = omega (arith, c.if-from-len.false, c.len.ensures, ap length c.self.view_is) in
    let region : IsRegion old = rw (← c.self.view_is) c.self.invariant.region in
    let moved : c.compact.new.self ≡ compacted old c.args.from c.in-Some.to c.args.order.now = c.in_ok-offsets.ensures.moved ∙ ap (λ r. compacted r c.args.from c.in-Some.to c.args.order.now) c.self.view_is in
    compacts old c.args.from c.in-Some.to c.args.order.now region there c.in-Some.ensures.found c.requires _ c.in_ok-offsets.offsets.items moved
    (c.in_ok-offsets.ensures.offsets ∙ ap (λ r. map (λ p. p.offset) (gathered (segment_of r c.args.from).parts c.args.order.now)) c.self.view_is)

pub returns-clause-sound : goal.returns-clause-sound
returns-clause-sound g c =
    let old : RegionState g.row.T.Denot = c.args.self.now in
    let there : c.args.from < length old = omega (arith, c.if-from-len.false, c.len.ensures, ap length c.self.view_is) in
    let region : IsRegion old = rw (← c.self.view_is) c.self.invariant.region in
    let moved : c.compact.new.self ≡ compacted old c.args.from c.in-Some.to c.args.order.now = c.in_ok-offsets.ensures.moved ∙ ap (λ r. compacted r c.args.from c.in-Some.to c.args.order.now) c.self.view_is in
    rw moved (compacted-region old c.args.from c.in-Some.to c.args.order.now region there c.in-Some.ensures.found c.requires)
