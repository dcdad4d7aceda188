use Rattle.std.proofs.Common.{◌<◌, length, refl, sym, subst, arith}
use Rattle.far_pointer.specs.declared.pointer.Pointer.TheVariants.{Remote}
use Rattle.far_scopes.proofs.MemoryWordPlaces.{word-read, place-read, place-within}
use Rattle.far_scopes.proofs.MemoryLaws.{memory-lost, list-lost}
use Rattle.far_scopes.proofs.CoolLaws.{count-there, count-less}
use Rattle.far_scopes.proofs.memory.LocalMemory.send_away.Goals as goal

pub overflow_sub-self : goal.overflow_sub-self
overflow_sub-self g c =
    let within = subst (λ m. c.args.o < length m.words) (sym c.self.view_is) (place-within c.args.self.now.words c.args.o c.requires) in
    let there = word-read c.self.inside.words.items c.args.o c.index-word.result.now within c.index-word.ensures in
    omega (arith, c.cool_of.ensures, count-there c.self.inside.words.items c.args.o c.index-word.result.now there c.self.inside.cool c.self.invariant.count)

pub invariant_of-self : goal.invariant_of-self
invariant_of-self g c =
    let within = subst (λ m. c.args.o < length m.words) (sym c.self.view_is) (place-within c.args.self.now.words c.args.o c.requires) in
    let was = place-read c.self.inside.words.items c.args.o c.index-word.result.now c.at_of-at.result within c.index-word.ensures c.at_of-at.ensures in
    let there = word-read c.self.inside.words.items c.args.o c.index-word.result.now within c.index-word.ensures in
    rw (c.remote.ensures, c.cool_of.ensures) record {
      memory = memory-lost c.self.inside.words.items c.self.inside.region c.drop_at.new.self c.self.invariant.memory c.args.o c.at_of-at.result within was c.drop_at.ensures.change c.drop_at.ensures.sound;
      count = count-less c.self.inside.words.items c.args.o c.index-word.result.now there c.self.inside.cool c.self.invariant.count Remote refl;
    }

pub returns-clause-away : goal.returns-clause-away
returns-clause-away g c =
    let within = subst (λ m. c.args.o < length m.words) (sym c.self.view_is) (place-within c.args.self.now.words c.args.o c.requires) in
    let was = place-read c.self.inside.words.items c.args.o c.index-word.result.now c.at_of-at.result within c.index-word.ensures c.at_of-at.ensures in
    rw (c.remote.ensures, c.drop_at.ensures.state, ← c.self.view_is, was) refl

pub returns-clause-list : goal.returns-clause-list
returns-clause-list g c =
    let within = subst (λ m. c.args.o < length m.words) (sym c.self.view_is) (place-within c.args.self.now.words c.args.o c.requires) in
    let was = place-read c.self.inside.words.items c.args.o c.index-word.result.now c.at_of-at.result within c.index-word.ensures c.at_of-at.ensures in
    rw (c.remote.ensures, ← c.self.view_is) (list-lost c.self.inside.words.items c.self.inside.region c.drop_at.new.self c.self.invariant.memory c.args.o c.at_of-at.result within was c.drop_at.ensures.change)
