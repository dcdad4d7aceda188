use Rattle.std.proofs.Common.{◌<◌, length, refl, sym, subst, ◌∙◌}
use Rattle.far_scopes.proofs.MemoryWordPlaces.{place-read, place-within}
use Rattle.far_scopes.proofs.MemoryWrites.{memory-after_write, after_overwrite-is, list-is, list-after_write}
use Rattle.far_scopes.proofs.memory.LocalMemory.lend_mut.Goals as goal

pub invariant_of-self-lent : goal.invariant_of-self-lent
invariant_of-self-lent g c w =
    let within = subst (λ m. c.args.o < length m.words) (sym c.self.view_is) (place-within c.args.self.now.words c.args.o c.requires.local) in
    let was = place-read c.self.inside.words.items c.args.o c.index.result.now c.at_of-at.result within c.index.ensures c.at_of-at.ensures in
    record { memory = memory-after_write c.self.inside.words.items c.self.inside.region c.self.invariant.memory c.args.o c.at_of-at.result was 0 w; count = c.self.invariant.count }

pub returns : goal.returns
returns g c =
    let within = subst (λ m. c.args.o < length m.words) (sym c.self.view_is) (place-within c.args.self.now.words c.args.o c.requires.local) in
    let was = place-read c.self.inside.words.items c.args.o c.index.result.now c.at_of-at.result within c.index.ensures c.at_of-at.ensures in
    let is = after_overwrite-is c.self.inside.words.items c.self.inside.region c.self.invariant.memory c.args.o c.at_of-at.result was in (
      (refl, λ w. rw (← c.self.view_is) (sym (is 0 w))),
      record {
        writes_back = tt;
        lent = rw (← c.self.view_is) (list-is c.self.inside.words.items c.self.inside.region c.self.invariant.memory c.args.o c.at_of-at.result was ∙ c.part_long_mut.ensures.lent);
        alone = λ list long. rw (← c.self.view_is) (list-after_write c.self.inside.words.items c.self.inside.region c.self.invariant.memory c.args.o c.at_of-at.result was 0 list list (c.part_long_mut.ensures.alone list long));
      },
    )
