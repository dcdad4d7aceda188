use Rattle.std.proofs.Common.{◌<◌, length, refl, sym, ap, subst, ◌∙◌}
use Rattle.far_scopes.specs.Memory.{at_of}
use Rattle.far_scopes.specs.Cool.{cool_of}
use Rattle.far_scopes.proofs.MemoryWordPlaces.{word-read, place-read, place-within}
use Rattle.far_scopes.proofs.MemoryLaws.{memory-replaced, list-replaced, at-moved, spot-is, new-is}
use Rattle.far_scopes.proofs.CoolLaws.{same-moved, count-same}
use Rattle.far_scopes.proofs.memory.LocalMemory.replace.Goals as goal

pub invariant_of-self-2 : goal.invariant_of-self-2
invariant_of-self-2 g c =
    let within = subst (λ m. c.args.o < length m.words) (sym c.self.view_is) (place-within c.args.self.now.words c.args.o c.requires.local) in
    let was = place-read c.self.inside.words.items c.args.o c.index-word.result.now c.at_of.result within c.index-word.ensures c.at_of.ensures in
    let there = word-read c.self.inside.words.items c.args.o c.index-word.result.now within c.index-word.ensures in
    record {
      memory = memory-replaced c.self.inside.words.items c.self.inside.region c.drop_at.new.self c.self.invariant.memory c.args.o c.with_at.result c.at_of.result c.in_ok-at.at c.args.items.now c.place.new.self within was
          (ap at_of c.with_at.ensures ∙ at-moved c.index-word.result.now c.at_of.result c.in_ok-at.at c.at_of.ensures) c.in_ok-at.ensures.added.free c.in_ok-at.ensures.added.change c.drop_at.ensures.change c.drop_at.ensures.sound;
      count = count-same c.self.inside.words.items c.args.o c.index-word.result.now there c.self.inside.cool c.self.invariant.count c.with_at.result (ap cool_of c.with_at.ensures ∙ same-moved c.index-word.result.now c.in_ok-at.at);
    }

pub returns-clause-ok : goal.returns-clause-ok
returns-clause-ok g c =
    let within = subst (λ m. c.args.o < length m.words) (sym c.self.view_is) (place-within c.args.self.now.words c.args.o c.requires.local) in
    let there = word-read c.self.inside.words.items c.args.o c.index-word.result.now within c.index-word.ensures in
    let was = place-read c.self.inside.words.items c.args.o c.index-word.result.now c.at_of.result within c.index-word.ensures c.at_of.ensures in
    rw (c.with_at.ensures, c.drop_at.ensures.state, ← c.self.view_is, there, c.at_of.ensures, spot-is c.self.inside.region c.place.new.self c.in_ok-at.at c.args.items.now c.in_ok-at.ensures.placed, new-is c.self.inside.region c.place.new.self c.in_ok-at.at c.args.items.now c.in_ok-at.ensures.placed) refl

pub returns-clause-list : goal.returns-clause-list
returns-clause-list g c =
    let within = subst (λ m. c.args.o < length m.words) (sym c.self.view_is) (place-within c.args.self.now.words c.args.o c.requires.local) in
    let was = place-read c.self.inside.words.items c.args.o c.index-word.result.now c.at_of.result within c.index-word.ensures c.at_of.ensures in
    rw (← c.self.view_is) (list-replaced c.self.inside.words.items c.self.inside.region c.drop_at.new.self c.self.invariant.memory c.args.o c.with_at.result c.at_of.result c.in_ok-at.at c.args.items.now c.place.new.self within was
    (ap at_of c.with_at.ensures ∙ at-moved c.index-word.result.now c.at_of.result c.in_ok-at.at c.at_of.ensures) c.in_ok-at.ensures.added.free c.in_ok-at.ensures.added.change c.drop_at.ensures.change)
