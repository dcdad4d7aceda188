use Rattle.std.proofs.Common.{◌<◌, length, true, refl, sym, subst, arith}
use Rattle.far_pointer.specs.Layout.{with_hot}
use Rattle.far_scopes.proofs.MemoryWordPlaces.{word-read}
use Rattle.far_scopes.proofs.MemoryLaws.{memory-after_mark, lists-after_mark, at-hot}
use Rattle.far_scopes.proofs.CoolLaws.{none-hot, count-there, count-less}
use Rattle.far_scopes.proofs.memory.LocalMemory.heat.Goals as goal

pub overflow_sub-self : goal.overflow_sub-self
overflow_sub-self g c =
    let within = subst (λ m. c.args.o < length m.words) (sym c.self.view_is) c.requires in
    let was = word-read c.self.inside.words.items c.args.o c.index-word.result.now within c.index-word.ensures in
    omega (arith, c.cool_of.ensures, count-there c.self.inside.words.items c.args.o c.index-word.result.now was c.self.inside.cool c.self.invariant.count)

pub invariant_of-self : goal.invariant_of-self
invariant_of-self g c =
    let within = subst (λ m. c.args.o < length m.words) (sym c.self.view_is) c.requires in
    let was = word-read c.self.inside.words.items c.args.o c.index-word.result.now within c.index-word.ensures in
    rw (c.with_hot.ensures, c.cool_of.ensures) record {
      memory = memory-after_mark c.self.inside.words.items c.self.inside.region c.self.invariant.memory c.args.o c.index-word.result.now _ was (at-hot c.index-word.result.now);
      count = count-less c.self.inside.words.items c.args.o c.index-word.result.now was c.self.inside.cool c.self.invariant.count (with_hot c.index-word.result.now true) (none-hot c.index-word.result.now);
    }

pub returns-clause-heated : goal.returns-clause-heated
returns-clause-heated g c =
    let within = subst (λ m. c.args.o < length m.words) (sym c.self.view_is) c.requires in
    let was = word-read c.self.inside.words.items c.args.o c.index-word.result.now within c.index-word.ensures in
    rw (c.with_hot.ensures, ← c.self.view_is, was) refl

pub returns-clause-lists : goal.returns-clause-lists
returns-clause-lists g c =
    let within = subst (λ m. c.args.o < length m.words) (sym c.self.view_is) c.requires in
    let was = word-read c.self.inside.words.items c.args.o c.index-word.result.now within c.index-word.ensures in
    rw (c.with_hot.ensures, ← c.self.view_is) (lists-after_mark c.self.inside.words.items c.self.inside.region c.self.invariant.memory c.args.o c.index-word.result.now _ was (at-hot c.index-word.result.now))
