use Rattle.std.proofs.Common.{ap}
use Rattle.far_scopes.specs.Memory.{at_of}
use Rattle.far_scopes.specs.Cool.{cool_of}
use Rattle.far_scopes.proofs.MemoryLaws.{memory-with_object, list-with_object, spot-is, new-is}
use Rattle.far_scopes.proofs.CoolLaws.{count-pushed}
use Rattle.far_scopes.proofs.PlacingUndo.{after_remove_last-with_object}
use Rattle.far_scopes.proofs.memory.LocalMemory.add.Goals as goal

pub invariant_of-self-2 : goal.invariant_of-self-2
invariant_of-self-2 g c = rw (c.push_reserved.ensures.items, c.reserve.ensures.items) record {
  memory = memory-with_object c.self.inside.words.items c.self.inside.region c.place.new.self c.self.invariant.memory c.local_word.result c.in_ok-at.at c.args.items.now (ap at_of c.local_word.ensures) c.in_ok-at.ensures.added.free c.in_ok-at.ensures.added.change c.in_ok-at.ensures.sound;
  count = count-pushed c.self.inside.words.items c.local_word.result c.self.inside.cool c.self.invariant.count (ap cool_of c.local_word.ensures);
}

pub returns-clause-list : goal.returns-clause-list
returns-clause-list g c = rw (← c.self.view_is, c.push_reserved.ensures.items, c.reserve.ensures.items) (list-with_object c.self.inside.words.items c.self.inside.region c.place.new.self c.self.invariant.memory c.local_word.result c.in_ok-at.at c.args.items.now (ap at_of c.local_word.ensures) c.in_ok-at.ensures.added.free c.in_ok-at.ensures.added.change)

pub returns-clause-undone : goal.returns-clause-undone
returns-clause-undone g c =
    let at = spot-is c.self.inside.region c.place.new.self c.in_ok-at.at c.args.items.now c.in_ok-at.ensures.placed in
    let state = new-is c.self.inside.region c.place.new.self c.in_ok-at.at c.args.items.now c.in_ok-at.ensures.placed in
    rw (← c.self.view_is, c.push_reserved.ensures.items, c.reserve.ensures.items, c.local_word.ensures, ← at, ← state) (after_remove_last-with_object record { words = c.self.inside.words.items; state = c.self.inside.region } c.args.items.now c.self.invariant.memory.region)
