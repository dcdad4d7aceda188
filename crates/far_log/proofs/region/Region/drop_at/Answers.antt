use Rattle.std.proofs.Common.{◌≡◌, refl, sym, ap, subst, ◌∙◌, IsSome, arith, length, length-set, get_or-set_same}
use Rattle.far_log.specs.RegionState.{SegmentState, RegionState, part_of, segment_of, space_in}
use Rattle.far_log.specs.Effects.{without_part}
use Rattle.far_log.specs.Skipping.{IsSpaced}
use Rattle.far_log.proofs.RegionStateLayouts.{layout-without_part, changes-dropped}
use Rattle.far_log.proofs.RegionStateLaws.{changes-segment, region-set, layout-segment, part-there}
use Rattle.far_log.proofs.SkippingLaws.{skip-set}
use Rattle.far_log.proofs.region.Region.drop_at.Goals as goal

pub space-space-requires : goal.space-space-requires
space-space-requires g c =
    let state : RegionState g.row.T.Denot = c.self.inside.segments in
    let lt = part-there state c.args.at (subst (λ r. IsSome (part_of r c.args.at)) (sym c.self.view_is) c.requires) in
    omega (arith, lt, ap length c.drop_at.ensures, length-set state c.args.at.segment (without_part (segment_of state c.args.at.segment) c.args.at.offset))

pub invariant_of-self : goal.invariant_of-self
invariant_of-self g c =
    let state : RegionState g.row.T.Denot = c.self.inside.segments in
    let lt = part-there state c.args.at (subst (λ r. IsSome (part_of r c.args.at)) (sym c.self.view_is) c.requires) in
    let s : SegmentState g.row.T.Denot = without_part (segment_of state c.args.at.segment) c.args.at.offset in
    let space : c.space-space.result ≡ space_in s = c.space-space.ensures.space ∙ ap (λ r. space_in (segment_of r c.args.at.segment)) c.drop_at.ensures ∙ ap space_in (get_or-set_same state c.args.at.segment s _ lt) in
    record {
      region = rw c.drop_at.ensures (region-set state c.args.at.segment s c.self.invariant.region lt refl (layout-without_part _ c.args.at.offset (layout-segment state c.args.at.segment c.self.invariant.region lt)));
      skipped = rw c.drop_at.ensures (skip-set state c.self.inside.skip c.self.invariant.skipped c.args.at.segment s c.with_space-self-inside.result lt (subst (IsSpaced c.self.inside.skip c.with_space-self-inside.result c.args.at.segment) space c.with_space-self-inside.ensures));
    }

pub returns-clause-change : goal.returns-clause-change
returns-clause-change g c =
    let state : RegionState g.row.T.Denot = c.self.inside.segments in
    let lt = part-there state c.args.at (subst (λ r. IsSome (part_of r c.args.at)) (sym c.self.view_is) c.requires) in
    rw (← c.self.view_is, c.drop_at.ensures) (changes-segment state c.args.at _ _ lt (changes-dropped _ c.args.at.offset))

pub returns-clause-sound : goal.returns-clause-sound
returns-clause-sound g c =
    let state : RegionState g.row.T.Denot = c.self.inside.segments in
    let lt = part-there state c.args.at (subst (λ r. IsSome (part_of r c.args.at)) (sym c.self.view_is) c.requires) in
    rw c.drop_at.ensures (region-set state c.args.at.segment _ c.self.invariant.region lt refl (layout-without_part _ c.args.at.offset (layout-segment state c.args.at.segment c.self.invariant.region lt)))
