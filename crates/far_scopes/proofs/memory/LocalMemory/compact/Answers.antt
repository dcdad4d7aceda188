use Rattle.std.proofs.Common.{◌≡◌, ◌+◌, ◌++◌, length, map, take, drop, ap, subst, ◌∙◌, arith}
use Rattle.far_types.specs.declared.refusal.Refusal.TheVariants.{OutOfRange}
use Rattle.far_log.proofs.EffectsCompaction.{whole-back}
use Rattle.far_log.specs.Effects.{Compacts}
use Rattle.far_scopes.specs.declared.memory.compaction.SegmentObject.{SegmentObject}
use Rattle.far_scopes.specs.SegmentObjects.{AreHotFirst, Settles}
use Rattle.far_scopes.specs.Cool.{cool_in}
use Rattle.far_scopes.proofs.CoolLaws.{cool-le-length}
use Rattle.far_scopes.proofs.CompactionMemory.{not-missing, order-listed, within-words, once-each, long-enough, Done, compacted-done}
use Rattle.far_scopes.proofs.memory.LocalMemory.compact.Given as given
use Rattle.far_scopes.proofs.memory.LocalMemory.compact.Goals as goal

pub compact-requires : goal.compact-requires
compact-requires g c =
    let there = not-missing c.in_ok-may_compact.field-0 OutOfRange (length c.self.inside.region) c.args.segment c.in_ok-may_compact.ensures.missing in
    let are = subst (λ words. AreHotFirst words c.args.segment c.in_ok-moving.moving.items) c.deref.ensures.value c.in_ok-moving.ensures.found in
    rw (c.deref-3.ensures.value, c.in_ok-order.ensures.offsets, c.deref-2.ensures.value) (order-listed c.self.inside.words.items c.self.inside.region c.self.invariant.memory c.args.segment there c.in_ok-moving.moving.items are)

pub settle-requires-clause-within : goal.settle-requires-clause-within
settle-requires-clause-within g c =
    let there = not-missing c.in_ok-may_compact.field-0 OutOfRange (length c.self.inside.region) c.args.segment c.in_ok-may_compact.ensures.missing in
    let are = subst (λ words. AreHotFirst words c.args.segment c.in_ok-moving.moving.items) c.deref.ensures.value c.in_ok-moving.ensures.found in
    rw (c.deref-4.ensures.value, c.deref_mut.ensures.value) (within-words c.self.inside.words.items c.self.inside.region c.self.invariant.memory c.args.segment there c.in_ok-moving.moving.items are)

pub settle-requires-clause-once : goal.settle-requires-clause-once
settle-requires-clause-once g c =
    let there = not-missing c.in_ok-may_compact.field-0 OutOfRange (length c.self.inside.region) c.args.segment c.in_ok-may_compact.ensures.missing in
    let are = subst (λ words. AreHotFirst words c.args.segment c.in_ok-moving.moving.items) c.deref.ensures.value c.in_ok-moving.ensures.found in
    rw c.deref-4.ensures.value (once-each c.self.inside.words.items c.self.inside.region c.self.invariant.memory c.args.segment there c.in_ok-moving.moving.items are)

pub settle-requires-clause-long : goal.settle-requires-clause-long
settle-requires-clause-long g c =
    let there = not-missing c.in_ok-may_compact.field-0 OutOfRange (length c.self.inside.region) c.args.segment c.in_ok-may_compact.ensures.missing in
    let are = subst (λ words. AreHotFirst words c.args.segment c.in_ok-moving.moving.items) c.deref.ensures.value c.in_ok-moving.ensures.found in
    let order : c.deref-3.result.now ≡ map (λ (f : SegmentObject). f.offset) c.in_ok-moving.moving.items = c.deref-3.ensures.value ∙ c.in_ok-order.ensures.offsets ∙ ap (map (λ (f : SegmentObject). f.offset)) c.deref-2.ensures.value in
    let compacts = subst (λ order. Compacts c.self.inside.region c.compact.new.self c.args.segment c.in_ok-moved.moved.segment order c.in_ok-moved.moved.offsets.items) order c.in_ok-moved.ensures.compacted in
    rw c.deref-4.ensures.value (long-enough c.self.inside.words.items c.self.inside.region c.self.invariant.memory c.args.segment there c.in_ok-moving.moving.items are c.compact.new.self c.in_ok-moved.moved.segment c.in_ok-moved.moved.offsets.items compacts c.in_ok-moved.ensures.sound)

pub overflow_add-self : goal.overflow_add-self
overflow_add-self g c =
    let moving = c.in_ok-moving.moving.items in
    let settled : Settles c.self.inside.words.items c.settle.new.words moving c.in_ok-moved.moved.segment c.in_ok-moved.moved.offsets.items (length moving) = rw (← c.deref-4.ensures.value, ← c.deref_mut.ensures.value) c.settle.ensures.settled in
    let cooled : cool_in c.settle.new.words ≡ cool_in c.self.inside.words.items + c.settle.result = rw (← c.deref_mut.ensures.value) c.settle.ensures.cooled in
    omega (arith, cooled, settled.long, cool-le-length c.settle.new.words, c.self.invariant.count, c.self.inside.words.ok.0, c.self.inside.words.ok.1, c.self.inside.words.small)

-- the facts about the new words and the new region at the end
done : (g : given.Over) (c : goal.After-drop-moving-2 g) → (take c.self.inside.words.len (c.settle.new.words ++ drop (length c.settle.new.words) c.self.inside.words.items) ≡ c.settle.new.words) × Done c.self.inside.words.items c.settle.new.words c.self.inside.region c.compact.new.self c.args.segment
done g c =
    let there = not-missing c.in_ok-may_compact.field-0 OutOfRange (length c.self.inside.region) c.args.segment c.in_ok-may_compact.ensures.missing in
    let are = subst (λ words. AreHotFirst words c.args.segment c.in_ok-moving.moving.items) c.deref.ensures.value c.in_ok-moving.ensures.found in
    let order : c.deref-3.result.now ≡ map (λ (f : SegmentObject). f.offset) c.in_ok-moving.moving.items = c.deref-3.ensures.value ∙ c.in_ok-order.ensures.offsets ∙ ap (map (λ (f : SegmentObject). f.offset)) c.deref-2.ensures.value in
    let compacts = subst (λ order. Compacts c.self.inside.region c.compact.new.self c.args.segment c.in_ok-moved.moved.segment order c.in_ok-moved.moved.offsets.items) order c.in_ok-moved.ensures.compacted in
    let settled : Settles c.self.inside.words.items c.settle.new.words c.in_ok-moving.moving.items c.in_ok-moved.moved.segment c.in_ok-moved.moved.offsets.items (length c.in_ok-moving.moving.items) = rw (← c.deref-4.ensures.value, ← c.deref_mut.ensures.value) c.settle.ensures.settled in (
      whole-back c.self.inside.words.len c.self.inside.words.items c.settle.new.words (omega (arith, c.self.inside.words.ok.0, settled.long)),
      compacted-done c.self.inside.words.items c.self.inside.region c.self.invariant.memory c.args.segment there c.in_ok-moving.moving.items are c.compact.new.self c.in_ok-moved.moved.segment c.in_ok-moved.moved.offsets.items compacts c.in_ok-moved.ensures.sound c.settle.new.words settled,
    )

pub invariant_of-self-2 : goal.invariant_of-self-2
invariant_of-self-2 g c =
    let w = done g c in
    let cooled : cool_in c.settle.new.words ≡ cool_in c.self.inside.words.items + c.settle.result = rw (← c.deref_mut.ensures.value) c.settle.ensures.cooled in
    rw w.0 record { memory = w.1.memory; count = omega (arith, cooled, c.self.invariant.count) }

pub returns-clause-ok : goal.returns-clause-ok
returns-clause-ok g c = let w = done g c in rw (← c.self.view_is, w.0) w.1.compacted

pub returns-clause-lists : goal.returns-clause-lists
returns-clause-lists g c = let w = done g c in rw (← c.self.view_is, w.0) w.1.lists
