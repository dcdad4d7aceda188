use Rattle.std.proofs.Common.{◌<◌, length, refl, sym, subst}
use Rattle.far_scopes.specs.Memory.{list_in}
use Rattle.far_scopes.proofs.MemoryWordPlaces.{place-read, list-within}
use Rattle.far_scopes.proofs.MemoryWrites.{memory-after_write, after_overwrite-is, list-is, range-after_write, some-within}
use Rattle.far_scopes.proofs.memory.LocalMemory.lend_range_mut.Goals as goal

pub invariant_of-self-lent : goal.invariant_of-self-lent
invariant_of-self-lent g c w =
    let within = subst (λ m. c.args.o < length m.words) (sym c.self.view_is) (list-within c.args.self.now c.args.o (some-within _ (list_in c.args.self.now c.args.o) c.requires.within)) in
    let was = place-read c.self.inside.words.items c.args.o c.index.result.now c.at_of-at.result within c.index.ensures c.at_of-at.ensures in
    record { memory = memory-after_write c.self.inside.words.items c.self.inside.region c.self.invariant.memory c.args.o c.at_of-at.result was c.args.from w; count = c.self.invariant.count }

pub returns : goal.returns
returns g c =
    let within = subst (λ m. c.args.o < length m.words) (sym c.self.view_is) (list-within c.args.self.now c.args.o (some-within _ (list_in c.args.self.now c.args.o) c.requires.within)) in
    let was = place-read c.self.inside.words.items c.args.o c.index.result.now c.at_of-at.result within c.index.ensures c.at_of-at.ensures in
    let is = after_overwrite-is c.self.inside.words.items c.self.inside.region c.self.invariant.memory c.args.o c.at_of-at.result was in
    let list = list-is c.self.inside.words.items c.self.inside.region c.self.invariant.memory c.args.o c.at_of-at.result was in (
      (refl, λ w. rw (← c.self.view_is) (sym (is c.args.from w))),
      record {
        writes_back = tt;
        lent = rw (← c.self.view_is, list) c.range_mut.ensures.lent;
        alone = rw (← c.self.view_is) (range-after_write c.self.inside.words.items c.self.inside.region c.self.invariant.memory c.args.o c.at_of-at.result was c.args.from c.args.to c.range_mut.ensures.alone);
      },
    )
