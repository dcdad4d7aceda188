use Rattle.std.proofs.Common.{◌+◌, ◌≤◌, List, [], Option, Some, None, IsSome, length, get_or, refl, ap, subst, arith}
use Rattle.std.specs.Prelude.{IsSomeAnd}
use Rattle.far_log.specs.RegionState.{list_at}
use Rattle.far_log.specs.Storage.{extents_of}
use Rattle.far_log.proofs.RegionStateLaws.{range-there}
use Rattle.far_log.proofs.StorageWrites.{range-of, stored-after_write, shown-after_write}
use Rattle.far_log.proofs.StorageSegments.{default_value, segment-is, some-element, count-states, count-tables, states-set_stack, kept-set_stack}
use Rattle.far_log.proofs.segments.Segments.range_mut.Goals as goal

some-range : {A : Type 0} (P : A → Type 0) (o : Option A) → IsSomeAnd o P → IsSome o
some-range P (Some x) h = refl
some-range P None h = absurd h

pub overflow_add-begin : goal.overflow_add-begin
overflow_add-begin g c =
    let lt = range-there c.args.self.now c.args.at c.args.to c.requires.within in
    let h = segment-is c.self.inside.stacks.size c.self.inside.stacks.stacks c.self.inside.tables.items c.args.self.now c.args.at.segment c.self.invariant c.self.view_is lt in
    let xs = get_or c.self.inside.stacks.stacks c.args.at.segment [] in
    let t = get_or c.self.inside.tables.items c.args.at.segment default_value in
    let some = subst (λ r. IsSomeAnd (list_at r.parts c.args.at.offset) (λ list. c.args.to ≤ length list)) h.shows c.requires.within in
    let range = range-of xs (extents_of t.entries) c.args.at.offset c.args.from c.args.to h.kept.stored.adjacent (omega (arith, h.kept.stored.end)) c.requires.ordered some in
    omega (arith, range.within, c.requires.ordered, h.kept.stored.enough, h.kept.stored.small)

pub slice_mut-requires-clause-there : goal.slice_mut-requires-clause-there
slice_mut-requires-clause-there g c =
    let lt = range-there c.args.self.now c.args.at c.args.to c.requires.within in
    omega (arith, lt, ap length c.self.view_is, count-states _ _ _ c.self.invariant, count-tables _ _ _ c.self.invariant)

pub slice_mut-requires-clause-some : goal.slice_mut-requires-clause-some
slice_mut-requires-clause-some g c =
    let lt = range-there c.args.self.now c.args.at c.args.to c.requires.within in
    let h = segment-is c.self.inside.stacks.size c.self.inside.stacks.stacks c.self.inside.tables.items c.args.self.now c.args.at.segment c.self.invariant c.self.view_is lt in
    let xs = get_or c.self.inside.stacks.stacks c.args.at.segment [] in
    let t = get_or c.self.inside.tables.items c.args.at.segment default_value in
    let some = subst (λ r. IsSomeAnd (list_at r.parts c.args.at.offset) (λ list. c.args.to ≤ length list)) h.shows c.requires.within in
    let range = range-of xs (extents_of t.entries) c.args.at.offset c.args.from c.args.to h.kept.stored.adjacent (omega (arith, h.kept.stored.end)) c.requires.ordered some in
    some-element xs (extents_of t.entries) c.args.at.offset h.kept.stored.adjacent h.kept.stored.end (some-range _ _ some)

pub slice_mut-requires-clause-within : goal.slice_mut-requires-clause-within
slice_mut-requires-clause-within g c =
    let lt = range-there c.args.self.now c.args.at c.args.to c.requires.within in
    let h = segment-is c.self.inside.stacks.size c.self.inside.stacks.stacks c.self.inside.tables.items c.args.self.now c.args.at.segment c.self.invariant c.self.view_is lt in
    let xs = get_or c.self.inside.stacks.stacks c.args.at.segment [] in
    let t = get_or c.self.inside.tables.items c.args.at.segment default_value in
    let some = subst (λ r. IsSomeAnd (list_at r.parts c.args.at.offset) (λ list. c.args.to ≤ length list)) h.shows c.requires.within in
    let range = range-of xs (extents_of t.entries) c.args.at.offset c.args.from c.args.to h.kept.stored.adjacent (omega (arith, h.kept.stored.end)) c.requires.ordered some in
    omega (arith, range.within, c.requires.ordered)

pub invariant_of-self-lent : goal.invariant_of-self-lent
invariant_of-self-lent g c w =
    let lt = range-there c.args.self.now c.args.at c.args.to c.requires.within in
    let h = segment-is c.self.inside.stacks.size c.self.inside.stacks.stacks c.self.inside.tables.items c.args.self.now c.args.at.segment c.self.invariant c.self.view_is lt in
    let xs = get_or c.self.inside.stacks.stacks c.args.at.segment [] in
    let t = get_or c.self.inside.tables.items c.args.at.segment default_value in
    let some = subst (λ r. IsSomeAnd (list_at r.parts c.args.at.offset) (λ list. c.args.to ≤ length list)) h.shows c.requires.within in
    let range = range-of xs (extents_of t.entries) c.args.at.offset c.args.from c.args.to h.kept.stored.adjacent (omega (arith, h.kept.stored.end)) c.requires.ordered some in
    kept-set_stack c.self.inside.stacks.size c.self.inside.stacks.stacks c.self.inside.tables.items c.args.at.segment _ c.self.invariant
    record { stored = stored-after_write xs (extents_of t.entries) _ _ (c.args.at.offset + c.args.from) w h.kept.stored (omega (arith, range.within, c.requires.ordered)); linked = h.kept.linked }

pub returns : goal.returns
returns g c =
    let lt = range-there c.args.self.now c.args.at c.args.to c.requires.within in
    let h = segment-is c.self.inside.stacks.size c.self.inside.stacks.stacks c.self.inside.tables.items c.args.self.now c.args.at.segment c.self.invariant c.self.view_is lt in
    let xs = get_or c.self.inside.stacks.stacks c.args.at.segment [] in
    let t = get_or c.self.inside.tables.items c.args.at.segment default_value in
    let some = subst (λ r. IsSomeAnd (list_at r.parts c.args.at.offset) (λ list. c.args.to ≤ length list)) h.shows c.requires.within in
    let range = range-of xs (extents_of t.entries) c.args.at.offset c.args.from c.args.to h.kept.stored.adjacent (omega (arith, h.kept.stored.end)) c.requires.ordered some in
    let shown_is = λ (w : List g.row.T.Denot). shown-after_write xs (extents_of t.entries) _ _ (c.args.at.offset + c.args.from) w h.kept.stored (omega (arith, range.within, c.requires.ordered)) in (
      (refl, λ w. rw (states-set_stack c.self.inside.stacks.size c.self.inside.stacks.stacks c.self.inside.tables.items c.args.at.segment _, shown_is w, h.shows, c.self.view_is) refl),
      record { writes_back = tt; value = rw h.shows (rw c.slice_mut.ensures.value range.value) },
    )
