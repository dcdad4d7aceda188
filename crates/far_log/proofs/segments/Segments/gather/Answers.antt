use Rattle.std.proofs.Common.{◌≡◌, length, get_or, take, IsSome, refl, sym, ap, ◌∙◌, arith, length-set, get_or-set_same, get_or-set_other}
use Rattle.std.proofs.lemmas.List.{map_push, set-set}
use Rattle.std.proofs.lemmas.List.Elements.{All-get_or}
use Rattle.far_log.specs.RegionState.{Part, SegmentState, RegionState, segment_of, list_at}
use Rattle.far_log.specs.Effects.{gathered, with_segment, with_part, list_or_none}
use Rattle.far_log.proofs.EffectsGathering.{next-fits, gathered-more}
use Rattle.far_log.proofs.EffectsCompaction.{emptied-unchanged, emptied-again}
use Rattle.far_log.proofs.segments.Segments.gather.Goals as goal

pub loop-offset-init : goal.loop-offset-init
loop-offset-init g c = record { state = sym (emptied-unchanged c.args.self.now c.args.to c.requires.empty); offsets = rw c.in_ok-offsets.ensures.items refl }

pub place_copy-requires-clause-there : goal.place_copy-requires-clause-there
place_copy-requires-clause-there g c =
    let old : RegionState g.row.T.Denot = c.args.self.now in
    let i = c.loop-offset.offset-index in
    let offset = get_or c.args.order.now i 0 in
    let source = segment_of old c.args.from in
    let filled : SegmentState g.row.T.Denot = record (segment_of old c.args.to) { parts = gathered source.parts (take i c.args.order.now) } in
    let from_is : segment_of c.loop-offset.self c.args.from ≡ source = ap (λ r. segment_of r c.args.from) c.loop-offset.invariant.state ∙ get_or-set_other old c.args.to c.args.from filled _ (λ e. c.requires.other (sym e)) in
    let to_is : segment_of c.loop-offset.self c.args.to ≡ filled = ap (λ r. segment_of r c.args.to) c.loop-offset.invariant.state ∙ get_or-set_same old c.args.to filled _ c.requires.to in
    omega (arith, c.requires.to, ap length c.loop-offset.invariant.state, length-set old c.args.to filled)

pub place_copy-requires-clause-part : goal.place_copy-requires-clause-part
place_copy-requires-clause-part g c =
    let old : RegionState g.row.T.Denot = c.args.self.now in
    let i = c.loop-offset.offset-index in
    let offset = get_or c.args.order.now i 0 in
    let source = segment_of old c.args.from in
    let filled : SegmentState g.row.T.Denot = record (segment_of old c.args.to) { parts = gathered source.parts (take i c.args.order.now) } in
    let from_is : segment_of c.loop-offset.self c.args.from ≡ source = ap (λ r. segment_of r c.args.from) c.loop-offset.invariant.state ∙ get_or-set_other old c.args.to c.args.from filled _ (λ e. c.requires.other (sym e)) in
    let to_is : segment_of c.loop-offset.self c.args.to ≡ filled = ap (λ r. segment_of r c.args.to) c.loop-offset.invariant.state ∙ get_or-set_same old c.args.to filled _ c.requires.to in
    rw from_is (All-get_or (λ o. IsSome (list_at source.parts o)) c.args.order.now i 0 c.loop-offset-test.true c.requires.order.listed)

pub place_copy-requires-clause-fits : goal.place_copy-requires-clause-fits
place_copy-requires-clause-fits g c =
    let old : RegionState g.row.T.Denot = c.args.self.now in
    let i = c.loop-offset.offset-index in
    let offset = get_or c.args.order.now i 0 in
    let source = segment_of old c.args.from in
    let filled : SegmentState g.row.T.Denot = record (segment_of old c.args.to) { parts = gathered source.parts (take i c.args.order.now) } in
    let from_is : segment_of c.loop-offset.self c.args.from ≡ source = ap (λ r. segment_of r c.args.from) c.loop-offset.invariant.state ∙ get_or-set_other old c.args.to c.args.from filled _ (λ e. c.requires.other (sym e)) in
    let to_is : segment_of c.loop-offset.self c.args.to ≡ filled = ap (λ r. segment_of r c.args.to) c.loop-offset.invariant.state ∙ get_or-set_same old c.args.to filled _ c.requires.to in
    rw (from_is, to_is) (next-fits source c.args.order.now i (segment_of old c.args.to).size c.requires.layout c.requires.order c.loop-offset-test.true c.requires.size)

pub loop-offset-preserved : goal.loop-offset-preserved
loop-offset-preserved g c =
    let old : RegionState g.row.T.Denot = c.args.self.now in
    let i = c.loop-offset.offset-index in
    let offset = get_or c.args.order.now i 0 in
    let source = segment_of old c.args.from in
    let filled : SegmentState g.row.T.Denot = record (segment_of old c.args.to) { parts = gathered source.parts (take i c.args.order.now) } in
    let from_is : segment_of c.loop-offset.self c.args.from ≡ source = ap (λ r. segment_of r c.args.from) c.loop-offset.invariant.state ∙ get_or-set_other old c.args.to c.args.from filled _ (λ e. c.requires.other (sym e)) in
    let to_is : segment_of c.loop-offset.self c.args.to ≡ filled = ap (λ r. segment_of r c.args.to) c.loop-offset.invariant.state ∙ get_or-set_same old c.args.to filled _ c.requires.to in
    let more = gathered-more source.parts c.args.order.now i c.loop-offset-test.true in
    record {
      state = rw (c.in_ok-place_copy.ensures.placed, from_is, to_is, c.loop-offset.invariant.state, more) (set-set old c.args.to filled _);
      offsets = rw (c.in_ok-push.ensures.items, c.loop-offset.invariant.offsets, c.in_ok-place_copy.ensures.offset, to_is, more) (sym (map_push (λ (p : Part _). p.offset) filled.parts _));
    }

pub returns-in_err-place_copy-clause-rest : goal.returns-in_err-place_copy-clause-rest
returns-in_err-place_copy-clause-rest g c =
    let old : RegionState g.row.T.Denot = c.args.self.now in
    let i = c.loop-offset.offset-index in
    let offset = get_or c.args.order.now i 0 in
    let source = segment_of old c.args.from in
    let filled : SegmentState g.row.T.Denot = record (segment_of old c.args.to) { parts = gathered source.parts (take i c.args.order.now) } in
    let from_is : segment_of c.loop-offset.self c.args.from ≡ source = ap (λ r. segment_of r c.args.from) c.loop-offset.invariant.state ∙ get_or-set_other old c.args.to c.args.from filled _ (λ e. c.requires.other (sym e)) in
    let to_is : segment_of c.loop-offset.self c.args.to ≡ filled = ap (λ r. segment_of r c.args.to) c.loop-offset.invariant.state ∙ get_or-set_same old c.args.to filled _ c.requires.to in
    rw (c.in_err-place_copy.ensures.err, c.loop-offset.invariant.state) (emptied-again old c.args.to filled c.requires.to c.requires.empty refl)

pub returns-in_err-push-clause-rest : goal.returns-in_err-push-clause-rest
returns-in_err-push-clause-rest g c =
    let old : RegionState g.row.T.Denot = c.args.self.now in
    let i = c.loop-offset.offset-index in
    let offset = get_or c.args.order.now i 0 in
    let source = segment_of old c.args.from in
    let filled : SegmentState g.row.T.Denot = record (segment_of old c.args.to) { parts = gathered source.parts (take i c.args.order.now) } in
    let from_is : segment_of c.loop-offset.self c.args.from ≡ source = ap (λ r. segment_of r c.args.from) c.loop-offset.invariant.state ∙ get_or-set_other old c.args.to c.args.from filled _ (λ e. c.requires.other (sym e)) in
    let to_is : segment_of c.loop-offset.self c.args.to ≡ filled = ap (λ r. segment_of r c.args.to) c.loop-offset.invariant.state ∙ get_or-set_same old c.args.to filled _ c.requires.to in
    let more : SegmentState g.row.T.Denot = with_part filled (list_or_none source.parts offset) in
    let state : c.place_copy.new.self ≡ with_segment old c.args.to more = rw (c.in_ok-place_copy.ensures.placed, from_is, to_is, c.loop-offset.invariant.state) (set-set old c.args.to filled more) in
    rw state (emptied-again old c.args.to more c.requires.to c.requires.empty refl)

pub returns-clause-rest : goal.returns-clause-rest
returns-clause-rest g c =
    let old : RegionState g.row.T.Denot = c.args.self.now in
    let filled : SegmentState g.row.T.Denot = record (segment_of old c.args.to) { parts = gathered (segment_of old c.args.from).parts (take c.loop-offset.offset-index c.args.order.now) } in
    rw c.loop-offset.invariant.state (emptied-again old c.args.to filled c.requires.to c.requires.empty refl)
