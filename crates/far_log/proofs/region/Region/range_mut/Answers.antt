use Rattle.std.proofs.Common.{◌≡◌, ◌+◌, ◌≤◌, length, refl, sym, subst}
use Rattle.std.specs.Prelude.{IsSomeAnd, slice_range}
use Rattle.far_log.specs.RegionState.{RegionState, IsRegion, part_of}
use Rattle.far_log.proofs.RegionStateLayouts.{layout-after_write}
use Rattle.far_log.proofs.RegionStateLaws.{region-set, layout-segment, range-there, writes-range}
use Rattle.far_log.proofs.SkippingLaws.{skip-after_write}
use Rattle.far_log.proofs.region.Region.range_mut.Goals as goal

pub invariant_of-self-lent : goal.invariant_of-self-lent
invariant_of-self-lent g c w =
    let state : RegionState g.row.T.Denot = c.self.inside.segments in
    let lt = range-there state c.args.at c.args.to (subst (λ r. IsSomeAnd (part_of r c.args.at) (λ list. c.args.to ≤ length list)) (sym c.self.view_is) c.requires.within) in
    record {
      region = region-set state c.args.at.segment _ c.self.invariant.region lt refl (layout-after_write _ (c.args.at.offset + c.args.from) w (layout-segment state c.args.at.segment c.self.invariant.region lt));
      skipped = skip-after_write state c.self.inside.skip c.self.invariant.skipped c.args.at.segment (c.args.at.offset + c.args.from) w lt;
    }

pub returns : goal.returns
returns g c =
    let state : RegionState g.row.T.Denot = c.args.self.now in
    let region : IsRegion state = rw (← c.self.view_is) c.self.invariant.region in (
      (refl, λ w. rw c.self.view_is refl),
      record { writes_back = tt; lent = subst (λ r. IsSomeAnd (part_of r c.args.at) (λ list. c.range_mut.result.now ≡ slice_range list c.args.from c.args.to)) c.self.view_is c.range_mut.ensures.value; alone = writes-range state c.args.at c.args.from c.args.to region c.requires.ordered c.requires.within },
    )
