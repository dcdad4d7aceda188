use Rattle.std.proofs.Common.{◌≡◌, ◌-◌, ◌++◌, [], true, length, get_or, refl, sym, ap, ◌∙◌, arith}
use Rattle.far_log.specs.RegionState.{segment_of, space_in}
use Rattle.far_log.specs.declared.extents.Extent.{Extent}
use Rattle.far_log.specs.Storage.{extents_of}
use Rattle.far_log.proofs.StoragePartChanges.{stored-push, used-le-end, shown-push}
use Rattle.far_log.proofs.StorageSegments.{segment-with, count-states, count-tables, states-set, kept-set}
use Rattle.far_log.proofs.segments.Segments.place.Goals as goal

pub len-fill-requires : goal.len-fill-requires
len-fill-requires g c = omega (arith, c.requires.there, ap length c.self.view_is, count-states _ _ _ c.self.invariant, count-tables _ _ _ c.self.invariant)

pub index_mut-table-requires : goal.index_mut-table-requires
index_mut-table-requires g c = omega (arith, c.requires.there, ap length c.self.view_is, count-states _ _ _ c.self.invariant, c.self.inside.tables.ok.0)

pub push-requires-clause-linked : goal.push-requires-clause-linked
push-requires-clause-linked g c =
    let t = c.index_mut-table.result.now in
    let xs = get_or c.self.inside.stacks.stacks c.args.number [] in
    let h = segment-with c.self.inside.stacks.size c.self.inside.stacks.stacks c.self.inside.tables.items c.args.self.now c.args.number t c.self.invariant c.self.view_is c.requires.there c.index_mut-table.ensures.value in
    let left : space_in (segment_of c.args.self.now c.args.number) ≡ c.self.inside.stacks.size - length xs = omega (arith, h.fill, ap (λ s. s.size) h.shows) in
    h.kept.linked

pub push-requires-clause-ends : goal.push-requires-clause-ends
push-requires-clause-ends g c =
    let t = c.index_mut-table.result.now in
    let xs = get_or c.self.inside.stacks.stacks c.args.number [] in
    let h = segment-with c.self.inside.stacks.size c.self.inside.stacks.stacks c.self.inside.tables.items c.args.self.now c.args.number t c.self.invariant c.self.view_is c.requires.there c.index_mut-table.ensures.value in
    let left : space_in (segment_of c.args.self.now c.args.number) ≡ c.self.inside.stacks.size - length xs = omega (arith, h.fill, ap (λ s. s.size) h.shows) in
    h.kept.stored.live

pub push-requires-clause-few : goal.push-requires-clause-few
push-requires-clause-few g c =
    let t = c.index_mut-table.result.now in
    let xs = get_or c.self.inside.stacks.stacks c.args.number [] in
    let h = segment-with c.self.inside.stacks.size c.self.inside.stacks.stacks c.self.inside.tables.items c.args.self.now c.args.number t c.self.invariant c.self.view_is c.requires.there c.index_mut-table.ensures.value in
    let left : space_in (segment_of c.args.self.now c.args.number) ≡ c.self.inside.stacks.size - length xs = omega (arith, h.fill, ap (λ s. s.size) h.shows) in
    h.few

pub push-requires-clause-small : goal.push-requires-clause-small
push-requires-clause-small g c =
    let t = c.index_mut-table.result.now in
    let xs = get_or c.self.inside.stacks.stacks c.args.number [] in
    let h = segment-with c.self.inside.stacks.size c.self.inside.stacks.stacks c.self.inside.tables.items c.args.self.now c.args.number t c.self.invariant c.self.view_is c.requires.there c.index_mut-table.ensures.value in
    let left : space_in (segment_of c.args.self.now c.args.number) ≡ c.self.inside.stacks.size - length xs = omega (arith, h.fill, ap (λ s. s.size) h.shows) in
    omega (arith, c.len-fill.ensures.len, h.kept.stored.enough, h.kept.stored.small)

pub push-requires-clause-sum : goal.push-requires-clause-sum
push-requires-clause-sum g c =
    let t = c.index_mut-table.result.now in
    let xs = get_or c.self.inside.stacks.stacks c.args.number [] in
    let h = segment-with c.self.inside.stacks.size c.self.inside.stacks.stacks c.self.inside.tables.items c.args.self.now c.args.number t c.self.invariant c.self.view_is c.requires.there c.index_mut-table.ensures.value in
    let left : space_in (segment_of c.args.self.now c.args.number) ≡ c.self.inside.stacks.size - length xs = omega (arith, h.fill, ap (λ s. s.size) h.shows) in
    let used = used-le-end xs 0 (extents_of t.entries) h.kept.stored.adjacent (omega (arith, h.kept.stored.end)) in
    omega (arith, left, used, h.kept.stored.sum, h.kept.stored.end, h.kept.stored.enough, h.kept.stored.small, c.requires.fits)

pub push_slice-requires-clause-there : goal.push_slice-requires-clause-there
push_slice-requires-clause-there g c = omega (arith, c.requires.there, ap length c.self.view_is, count-states _ _ _ c.self.invariant, count-tables _ _ _ c.self.invariant)

pub push_slice-requires-clause-enough : goal.push_slice-requires-clause-enough
push_slice-requires-clause-enough g c =
    let t = c.index_mut-table.result.now in
    let xs = get_or c.self.inside.stacks.stacks c.args.number [] in
    let h = segment-with c.self.inside.stacks.size c.self.inside.stacks.stacks c.self.inside.tables.items c.args.self.now c.args.number t c.self.invariant c.self.view_is c.requires.there c.index_mut-table.ensures.value in
    let left : space_in (segment_of c.args.self.now c.args.number) ≡ c.self.inside.stacks.size - length xs = omega (arith, h.fill, ap (λ s. s.size) h.shows) in
    omega (arith, left, c.requires.fits, h.kept.stored.enough)

pub invariant_of-self-2 : goal.invariant_of-self-2
invariant_of-self-2 g c =
    let t = c.index_mut-table.result.now in
    let xs = get_or c.self.inside.stacks.stacks c.args.number [] in
    let h = segment-with c.self.inside.stacks.size c.self.inside.stacks.stacks c.self.inside.tables.items c.args.self.now c.args.number t c.self.invariant c.self.view_is c.requires.there c.index_mut-table.ensures.value in
    let left : space_in (segment_of c.args.self.now c.args.number) ≡ c.self.inside.stacks.size - length xs = omega (arith, h.fill, ap (λ s. s.size) h.shows) in
    rw c.push_slice.ensures (kept-set c.self.inside.stacks.size c.self.inside.stacks.stacks c.self.inside.tables.items c.args.number (xs ++ c.args.items.now) c.push.new.self c.self.invariant record {
      linked = c.in_ok-offset.ensures.linked;
      stored = rw (c.in_ok-offset.ensures.extents, c.in_ok-offset.ensures.used) (stored-push xs c.args.items.now (extents_of t.entries) _ _ _ h.kept.stored c.requires.some (omega (arith, left, c.requires.fits)) (rw c.len-fill.ensures.len refl));
    })

pub returns-clause-placed : goal.returns-clause-placed
returns-clause-placed g c =
    let t = c.index_mut-table.result.now in
    let xs = get_or c.self.inside.stacks.stacks c.args.number [] in
    let h = segment-with c.self.inside.stacks.size c.self.inside.stacks.stacks c.self.inside.tables.items c.args.self.now c.args.number t c.self.invariant c.self.view_is c.requires.there c.index_mut-table.ensures.value in
    let left : space_in (segment_of c.args.self.now c.args.number) ≡ c.self.inside.stacks.size - length xs = omega (arith, h.fill, ap (λ s. s.size) h.shows) in
    rw (c.push_slice.ensures, states-set c.self.inside.stacks.size c.self.inside.stacks.stacks c.self.inside.tables.items c.args.number (xs ++ c.args.items.now) c.push.new.self, c.in_ok-offset.ensures.extents, c.self.view_is, h.shows)
    (let extent : Extent = record { offset = c.len-fill.result; len = length c.args.items.now; live = true } in rw (shown-push xs c.args.items.now (extents_of t.entries) extent t.used c.self.inside.stacks.size h.kept.stored (rw c.len-fill.ensures.len refl)) refl)

pub returns-clause-offset : goal.returns-clause-offset
returns-clause-offset g c =
    let t = c.index_mut-table.result.now in
    let xs = get_or c.self.inside.stacks.stacks c.args.number [] in
    let h = segment-with c.self.inside.stacks.size c.self.inside.stacks.stacks c.self.inside.tables.items c.args.self.now c.args.number t c.self.invariant c.self.view_is c.requires.there c.index_mut-table.ensures.value in
    let left : space_in (segment_of c.args.self.now c.args.number) ≡ c.self.inside.stacks.size - length xs = omega (arith, h.fill, ap (λ s. s.size) h.shows) in
    c.in_ok-offset.ensures.offset ∙ c.len-fill.ensures.len ∙ sym h.fill
