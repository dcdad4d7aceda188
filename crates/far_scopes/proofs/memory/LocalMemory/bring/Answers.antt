use Rattle.std.proofs.Common.{◌≡◌, Some, sym, ap, subst}
use Rattle.std.specs.Prelude.{slice_get}
use Rattle.std.specs.Option.{option_and_then}
use Rattle.std.proofs.lemmas.Option.{slice_get_within}
use Rattle.far_pointer.specs.declared.pointer.Pointer.TheVariants.{Remote}
use Rattle.far_scopes.specs.Memory.{at_of}
use Rattle.far_scopes.specs.Cool.{cool_of}
use Rattle.far_scopes.proofs.MemoryLaws.{memory-after_bring, list-after_bring}
use Rattle.far_scopes.proofs.CoolLaws.{count-same}
use Rattle.far_scopes.proofs.memory.LocalMemory.bring.Goals as goal

pub invariant_of-self-2 : goal.invariant_of-self-2
invariant_of-self-2 g c =
    let away : slice_get c.self.inside.words.items c.args.o ≡ Some Remote = subst (λ m. slice_get m.words c.args.o ≡ Some Remote) (sym c.self.view_is) c.requires.away in
    record {
      memory = memory-after_bring c.self.inside.words.items c.self.inside.region c.place.new.self c.self.invariant.memory c.args.o c.local_word.result c.in_ok-at.at c.args.items.now
          (slice_get_within c.self.inside.words.items c.args.o Remote away) (ap (option_and_then at_of) away) (ap at_of c.local_word.ensures) c.in_ok-at.ensures.added.free c.in_ok-at.ensures.added.change c.in_ok-at.ensures.sound;
      count = count-same c.self.inside.words.items c.args.o Remote away c.self.inside.cool c.self.invariant.count c.local_word.result (ap cool_of c.local_word.ensures);
    }

pub returns-clause-list : goal.returns-clause-list
returns-clause-list g c =
    let away : slice_get c.self.inside.words.items c.args.o ≡ Some Remote = subst (λ m. slice_get m.words c.args.o ≡ Some Remote) (sym c.self.view_is) c.requires.away in
    rw (← c.self.view_is) (list-after_bring c.self.inside.words.items c.self.inside.region c.place.new.self c.self.invariant.memory c.args.o c.local_word.result c.in_ok-at.at c.args.items.now
    (slice_get_within c.self.inside.words.items c.args.o Remote away) (ap (option_and_then at_of) away) (ap at_of c.local_word.ensures) c.in_ok-at.ensures.added.free c.in_ok-at.ensures.added.change)
