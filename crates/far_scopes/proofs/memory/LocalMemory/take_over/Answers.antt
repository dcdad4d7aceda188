use Rattle.std.proofs.Common.{◌<◌, ◌-◌, length, sym, subst, arith}
use Rattle.far_pointer.specs.Layout.{with_at}
use Rattle.far_scopes.specs.Cool.{cool_of}
use Rattle.far_scopes.proofs.MemoryWordPlaces.{word-read, last-of}
use Rattle.far_scopes.proofs.CoolLaws.{same-moved, count-same, count-last, count-popped}
use Rattle.far_scopes.proofs.MemoryWordTransfer.{memory-after_take_over, take_over-is, list-here, lists-others}
use Rattle.far_scopes.proofs.memory.LocalMemory.take_over.Goals as goal

pub overflow_sub-self : goal.overflow_sub-self
overflow_sub-self g c = omega (arith, c.cool_of.ensures, count-last c.self.inside.words.items c.pop.new.self.items c.in-Some.last c.in-Some.ensures.items c.self.inside.cool c.self.invariant.count)

pub invariant_of-self : goal.invariant_of-self
invariant_of-self g c =
    let lt = subst (λ m. c.args.o < length m.words - 1) (sym c.self.view_is) c.requires.other in
    let rest = c.pop.new.self.items in
    let within : c.args.o < length rest = omega (arith, lt, last-of c.self.inside.words.items rest c.in-Some.last c.in-Some.ensures.items) in
    let there = word-read rest c.args.o c.index-word.result.now within c.index-word.ensures in
    let count = count-popped c.self.inside.words.items rest c.in-Some.last c.in-Some.ensures.items c.self.inside.cool c.self.invariant.count in
    rw (c.with_at.ensures, c.cool_of.ensures) record {
      memory = memory-after_take_over rest c.self.inside.words.items c.in-Some.last c.index-word.result.now c.in-Some.ensures.items c.self.inside.region c.drop_at.new.self c.self.invariant.memory
          c.args.o lt c.at_of.result c.at_of-2.result c.at_of.ensures c.index-word.ensures c.at_of-2.ensures c.drop_at.ensures.change c.drop_at.ensures.sound;
      count = count-same rest c.args.o c.index-word.result.now there (c.self.inside.cool - cool_of c.in-Some.last) count (with_at c.index-word.result.now c.at_of.result) (same-moved c.index-word.result.now c.at_of.result);
    }

pub returns-clause-effect : goal.returns-clause-effect
returns-clause-effect g c =
    let lt = subst (λ m. c.args.o < length m.words - 1) (sym c.self.view_is) c.requires.other in
    rw (← c.self.view_is, c.with_at.ensures) (take_over-is c.pop.new.self.items c.self.inside.words.items c.in-Some.last c.index-word.result.now c.in-Some.ensures.items c.self.inside.region c.drop_at.new.self c.self.invariant.memory
    c.args.o lt c.at_of.result c.at_of-2.result c.at_of.ensures c.index-word.ensures c.at_of-2.ensures c.drop_at.ensures.state)

pub returns-clause-here : goal.returns-clause-here
returns-clause-here g c =
    let lt = subst (λ m. c.args.o < length m.words - 1) (sym c.self.view_is) c.requires.other in
    rw (← c.self.view_is, c.with_at.ensures) (list-here c.pop.new.self.items c.self.inside.words.items c.in-Some.last c.index-word.result.now c.in-Some.ensures.items c.self.inside.region c.drop_at.new.self c.self.invariant.memory
    c.args.o lt c.at_of.result c.at_of-2.result c.at_of.ensures c.index-word.ensures c.at_of-2.ensures c.drop_at.ensures.change)

pub returns-clause-others : goal.returns-clause-others
returns-clause-others g c =
    let lt = subst (λ m. c.args.o < length m.words - 1) (sym c.self.view_is) c.requires.other in
    rw (← c.self.view_is, c.with_at.ensures) (lists-others c.pop.new.self.items c.self.inside.words.items c.in-Some.last c.index-word.result.now c.in-Some.ensures.items c.self.inside.region c.drop_at.new.self c.self.invariant.memory
    c.args.o lt c.at_of.result c.at_of-2.result c.at_of.ensures c.index-word.ensures c.at_of-2.ensures c.drop_at.ensures.change)
