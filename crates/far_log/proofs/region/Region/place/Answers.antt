use Rattle.std.proofs.Common.{◌≡◌, sym, ap, subst, ◌∙◌, arith, length, length-set, get_or-set_same}
use Rattle.far_pointer.specs.declared.pointer.At.{At}
use Rattle.far_log.specs.RegionState.{SegmentState, RegionState, fill_of, segment_of, space_in}
use Rattle.far_log.specs.Effects.{with_segment, with_part}
use Rattle.far_log.specs.Skipping.{IsSkip, IsSpaced}
use Rattle.far_log.proofs.RegionStateLaws.{places, target-takes, spaces-placed}
use Rattle.far_log.proofs.SkippingLaws.{skip-either, skip-set}
use Rattle.far_log.proofs.region.Region.place.Goals as goal

pub place-requires-clause-there : goal.place-requires-clause-there
place-requires-clause-there g c = let takes = target-takes c.args.self.now _ c.in-Some.found.first (sym c.in-Some.ensures.lowest) in rw c.self.view_is takes.0

pub place-requires-clause-fits : goal.place-requires-clause-fits
place-requires-clause-fits g c = let takes = target-takes c.args.self.now _ c.in-Some.found.first (sym c.in-Some.ensures.lowest) in rw c.self.view_is takes.1

pub space-space-requires : goal.space-space-requires
space-space-requires g c =
    let state : RegionState g.row.T.Denot = c.args.self.now in
    let takes = target-takes state _ c.in-Some.found.first (sym c.in-Some.ensures.lowest) in
    omega (arith, takes.0, ap length c.in_ok-offset.ensures.placed, ap length c.self.view_is, length-set c.self.inside.segments c.in-Some.found.first (with_part (segment_of c.self.inside.segments c.in-Some.found.first) c.args.items.now))

pub with_space-self-inside-requires : goal.with_space-self-inside-requires
with_space-self-inside-requires g c =
    let known : IsSkip c.args.self.now c.self.inside.skip = rw (← c.self.view_is) c.self.invariant.skipped in
    (skip-either c.args.self.now c.self.inside.skip c.in-Some.found c.after_search-skip.result known c.in-Some.ensures.passed c.after_search-skip.ensures).ordered

pub invariant_of-self-2 : goal.invariant_of-self-2
invariant_of-self-2 g c =
    let state : RegionState g.row.T.Denot = c.args.self.now in
    let first = c.in-Some.found.first in
    let takes = target-takes state _ first (sym c.in-Some.ensures.lowest) in
    let at : At = record { segment = first; offset = c.in_ok-offset.offset } in
    let all = places state at c.args.items.now c.in-Some.ensures.sound c.requires.some (sym c.in-Some.ensures.lowest) (c.in_ok-offset.ensures.offset ∙ ap (λ r. fill_of (segment_of r first)) c.self.view_is) in
    let s : SegmentState g.row.T.Denot = with_part (segment_of state first) c.args.items.now in
    let placed : c.place.new.self ≡ with_segment state first s = c.in_ok-offset.ensures.placed ∙ ap (λ r. with_segment r first (with_part (segment_of r first) c.args.items.now)) c.self.view_is in
    let space : c.space-space.result ≡ space_in s = c.space-space.ensures.space ∙ ap (λ r. space_in (segment_of r first)) placed ∙ ap space_in (get_or-set_same state first s _ takes.0) in
    let known : IsSkip state c.self.inside.skip = rw (← c.self.view_is) c.self.invariant.skipped in
    let skip : IsSkip state c.after_search-skip.result = skip-either state c.self.inside.skip c.in-Some.found c.after_search-skip.result known c.in-Some.ensures.passed c.after_search-skip.ensures in
    record {
      region = rw placed all.region;
      skipped = rw placed (skip-set state c.after_search-skip.result skip first s c.with_space-self-inside.result takes.0 (subst (IsSpaced c.after_search-skip.result c.with_space-self-inside.result first) space c.with_space-self-inside.ensures));
    }

pub returns-clause-added : goal.returns-clause-added
returns-clause-added g c =
    let first = c.in-Some.found.first in
    let at : At = record { segment = first; offset = c.in_ok-offset.offset } in
    let all = places c.args.self.now at c.args.items.now c.in-Some.ensures.sound c.requires.some (sym c.in-Some.ensures.lowest) (c.in_ok-offset.ensures.offset ∙ ap (λ r. fill_of (segment_of r first)) c.self.view_is) in
    record { free = all.free; change = rw (c.in_ok-offset.ensures.placed, c.self.view_is) all.change }

pub returns-clause-space : goal.returns-clause-space
returns-clause-space g c =
    let takes = target-takes c.args.self.now _ c.in-Some.found.first (sym c.in-Some.ensures.lowest) in
    rw (c.in_ok-offset.ensures.placed, c.self.view_is) (spaces-placed c.args.self.now c.in-Some.found.first c.args.items.now takes.0)

pub returns-clause-sound : goal.returns-clause-sound
returns-clause-sound g c =
    let first = c.in-Some.found.first in
    let at : At = record { segment = first; offset = c.in_ok-offset.offset } in
    let all = places c.args.self.now at c.args.items.now c.in-Some.ensures.sound c.requires.some (sym c.in-Some.ensures.lowest) (c.in_ok-offset.ensures.offset ∙ ap (λ r. fill_of (segment_of r first)) c.self.view_is) in
    rw (c.in_ok-offset.ensures.placed, c.self.view_is) all.region
