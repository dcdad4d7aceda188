use Rattle.std.proofs.Common.{refl, arith}
use Rattle.far_scopes.proofs.MemoryWordPlaces.{last-of, take-last}
use Rattle.far_scopes.proofs.MemoryLaws.{memory-after_remove_last, list-after_remove_last, place-last}
use Rattle.far_scopes.proofs.CoolLaws.{count-last, count-popped}
use Rattle.far_scopes.proofs.memory.LocalMemory.remove_last.Goals as goal

pub overflow_sub-self : goal.overflow_sub-self
overflow_sub-self g c = omega (arith, c.cool_of.ensures, count-last c.self.inside.words.items c.pop.new.self.items c.in-Some.word c.in-Some.ensures.items c.self.inside.cool c.self.invariant.count)

pub invariant_of-self : goal.invariant_of-self
invariant_of-self g c = rw c.cool_of.ensures record {
  memory = memory-after_remove_last c.self.inside.words.items c.self.inside.region c.drop_at.new.self c.self.invariant.memory c.pop.new.self.items c.in-Some.word c.at_of.result c.in-Some.ensures.items c.at_of.ensures c.drop_at.ensures.change c.drop_at.ensures.sound;
  count = count-popped c.self.inside.words.items c.pop.new.self.items c.in-Some.word c.in-Some.ensures.items c.self.inside.cool c.self.invariant.count;
}

pub returns-clause-removed : goal.returns-clause-removed
returns-clause-removed g c = rw (← c.self.view_is, take-last c.self.inside.words.items c.pop.new.self.items c.in-Some.word c.in-Some.ensures.items, last-of c.self.inside.words.items c.pop.new.self.items c.in-Some.word c.in-Some.ensures.items, place-last c.self.inside.words.items c.self.inside.region c.drop_at.new.self c.self.invariant.memory c.pop.new.self.items c.in-Some.word c.at_of.result c.in-Some.ensures.items c.at_of.ensures c.drop_at.ensures.change, c.drop_at.ensures.state) refl

pub returns-clause-list : goal.returns-clause-list
returns-clause-list g c = rw (← c.self.view_is, last-of c.self.inside.words.items c.pop.new.self.items c.in-Some.word c.in-Some.ensures.items) (list-after_remove_last c.self.inside.words.items c.self.inside.region c.drop_at.new.self c.self.invariant.memory c.pop.new.self.items c.in-Some.word c.at_of.result c.in-Some.ensures.items c.at_of.ensures c.drop_at.ensures.change)
