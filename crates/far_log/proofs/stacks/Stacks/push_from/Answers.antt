use Rattle.std.proofs.Common.{◌≡◌, ◌+◌, ◌-◌, ◌*◌, length, get_or, take, drop, refl, sym, ap, ◌∙◌, arith, length-set, length-take, length-drop}
use Rattle.std.proofs.lemmas.List.{get_or_read}
use Rattle.far_log.specs.Stacking.{stack_of}
use Rattle.far_log.proofs.StackingLaws.{stack-is, stacks-put, within-put}
use Rattle.far_log.proofs.StorageWrites.{range-at}
use Rattle.far_log.proofs.stacks.Stacks.push_from.Goals as goal

pub begin_of-requires : goal.begin_of-requires
begin_of-requires g c =
    let s = stack-is c.args.self.now c.self.inside.block.items.items c.self.inside.block.items.cap c.self.inside.size c.self.inside.lens.items c.args.number c.self.invariant c.self.view_is c.requires.there in
    let n = get_or c.self.inside.lens.items c.args.number 0 in
    let z = stack-is c.args.self.now c.self.inside.block.items.items c.self.inside.block.items.cap c.self.inside.size c.self.inside.lens.items c.args.source c.self.invariant c.self.view_is c.requires.source in
    omega (arith, z.there, c.self.invariant.few)

pub overflow_add-begin : goal.overflow_add-begin
overflow_add-begin g c =
    let s = stack-is c.args.self.now c.self.inside.block.items.items c.self.inside.block.items.cap c.self.inside.size c.self.inside.lens.items c.args.number c.self.invariant c.self.view_is c.requires.there in
    let n = get_or c.self.inside.lens.items c.args.number 0 in
    let z = stack-is c.args.self.now c.self.inside.block.items.items c.self.inside.block.items.cap c.self.inside.size c.self.inside.lens.items c.args.source c.self.invariant c.self.view_is c.requires.source in
    omega (arith, c.begin_of.ensures.small, c.requires.within, z.long, z.fits, c.self.invariant.small)

pub index-old-requires : goal.index-old-requires
index-old-requires g c =
    let s = stack-is c.args.self.now c.self.inside.block.items.items c.self.inside.block.items.cap c.self.inside.size c.self.inside.lens.items c.args.number c.self.invariant c.self.view_is c.requires.there in
    let n = get_or c.self.inside.lens.items c.args.number 0 in
    let z = stack-is c.args.self.now c.self.inside.block.items.items c.self.inside.block.items.cap c.self.inside.size c.self.inside.lens.items c.args.source c.self.invariant c.self.view_is c.requires.source in
    omega (arith, s.there, c.self.inside.lens.ok.0)

pub begin_of-requires-2 : goal.begin_of-requires-2
begin_of-requires-2 g c =
    let s = stack-is c.args.self.now c.self.inside.block.items.items c.self.inside.block.items.cap c.self.inside.size c.self.inside.lens.items c.args.number c.self.invariant c.self.view_is c.requires.there in
    let n = get_or c.self.inside.lens.items c.args.number 0 in
    let z = stack-is c.args.self.now c.self.inside.block.items.items c.self.inside.block.items.cap c.self.inside.size c.self.inside.lens.items c.args.source c.self.invariant c.self.view_is c.requires.source in
    omega (arith, s.there, c.self.invariant.few)

pub copy_to-requires-clause-within : goal.copy_to-requires-clause-within
copy_to-requires-clause-within g c =
    let s = stack-is c.args.self.now c.self.inside.block.items.items c.self.inside.block.items.cap c.self.inside.size c.self.inside.lens.items c.args.number c.self.invariant c.self.view_is c.requires.there in
    let n = get_or c.self.inside.lens.items c.args.number 0 in
    let z = stack-is c.args.self.now c.self.inside.block.items.items c.self.inside.block.items.cap c.self.inside.size c.self.inside.lens.items c.args.source c.self.invariant c.self.view_is c.requires.source in
    omega (arith, c.begin_of.ensures.begin, c.requires.some, c.requires.within, z.long, z.ends)

pub copy_to-requires-clause-enough : goal.copy_to-requires-clause-enough
copy_to-requires-clause-enough g c =
    let s = stack-is c.args.self.now c.self.inside.block.items.items c.self.inside.block.items.cap c.self.inside.size c.self.inside.lens.items c.args.number c.self.invariant c.self.view_is c.requires.there in
    let n = get_or c.self.inside.lens.items c.args.number 0 in
    let z = stack-is c.args.self.now c.self.inside.block.items.items c.self.inside.block.items.cap c.self.inside.size c.self.inside.lens.items c.args.source c.self.invariant c.self.view_is c.requires.source in
    let read : c.index-old.result.now ≡ n = get_or_read c.self.inside.lens.items c.args.number c.index-old.result.now s.there c.index-old.ensures 0 in
    let begin : 0 + c.args.number * c.self.inside.size + n ≡ c.begin_of-2.result + c.index-old.result.now = omega (arith, read, c.begin_of-2.ensures.begin) in
    omega (arith, read, c.begin_of-2.ensures.begin, c.requires.enough, s.long, s.size_is, s.reach)

pub index_mut-requires : goal.index_mut-requires
index_mut-requires g c =
    let s = stack-is c.args.self.now c.self.inside.block.items.items c.self.inside.block.items.cap c.self.inside.size c.self.inside.lens.items c.args.number c.self.invariant c.self.view_is c.requires.there in
    let n = get_or c.self.inside.lens.items c.args.number 0 in
    let z = stack-is c.args.self.now c.self.inside.block.items.items c.self.inside.block.items.cap c.self.inside.size c.self.inside.lens.items c.args.source c.self.invariant c.self.view_is c.requires.source in
    omega (arith, s.there, c.self.inside.lens.ok.0)

pub overflow_add-old : goal.overflow_add-old
overflow_add-old g c =
    let s = stack-is c.args.self.now c.self.inside.block.items.items c.self.inside.block.items.cap c.self.inside.size c.self.inside.lens.items c.args.number c.self.invariant c.self.view_is c.requires.there in
    let n = get_or c.self.inside.lens.items c.args.number 0 in
    let z = stack-is c.args.self.now c.self.inside.block.items.items c.self.inside.block.items.cap c.self.inside.size c.self.inside.lens.items c.args.source c.self.invariant c.self.view_is c.requires.source in
    let read : c.index-old.result.now ≡ n = get_or_read c.self.inside.lens.items c.args.number c.index-old.result.now s.there c.index-old.ensures 0 in
    let begin : 0 + c.args.number * c.self.inside.size + n ≡ c.begin_of-2.result + c.index-old.result.now = omega (arith, read, c.begin_of-2.ensures.begin) in
    omega (arith, read, c.requires.enough, s.long, s.size_is, c.self.invariant.small)

pub invariant_of-self : goal.invariant_of-self
invariant_of-self g c =
    let s = stack-is c.args.self.now c.self.inside.block.items.items c.self.inside.block.items.cap c.self.inside.size c.self.inside.lens.items c.args.number c.self.invariant c.self.view_is c.requires.there in
    let n = get_or c.self.inside.lens.items c.args.number 0 in
    let z = stack-is c.args.self.now c.self.inside.block.items.items c.self.inside.block.items.cap c.self.inside.size c.self.inside.lens.items c.args.source c.self.invariant c.self.view_is c.requires.source in
    let read : c.index-old.result.now ≡ n = get_or_read c.self.inside.lens.items c.args.number c.index-old.result.now s.there c.index-old.ensures 0 in
    let begin : 0 + c.args.number * c.self.inside.size + n ≡ c.begin_of-2.result + c.index-old.result.now = omega (arith, read, c.begin_of-2.ensures.begin) in
    let block = c.self.inside.block.items.items in
    let m = get_or c.self.inside.lens.items c.args.source 0 in
    let o = c.args.source * c.self.inside.size in
    let counts : c.args.from + c.args.len - c.args.from ≡ c.args.len = omega arith in
    let range = range-at block o m c.args.from (c.args.from + c.args.len) (omega arith) (omega (arith, c.requires.within, z.long, z.ends, length-take m (drop o block), length-drop o block)) in
    let list : take c.args.len (drop (c.begin_of.result + c.args.from) block) ≡ take c.args.len (drop c.args.from (stack_of c.args.self.now c.args.source)) =
    sym (ap (λ l. take c.args.len (drop c.args.from l)) z.list ∙ (rw counts at range) ∙ ap (λ j. take c.args.len (drop (j + c.args.from) block)) (sym c.begin_of.ensures.begin)) in
    let long : length (take c.args.len (drop (c.begin_of.result + c.args.from) block)) ≡ c.args.len = omega (arith, c.begin_of.ensures.begin, c.requires.some, c.requires.within, z.long, z.ends, length-take c.args.len (drop (c.begin_of.result + c.args.from) block), length-drop (c.begin_of.result + c.args.from) block) in
    let more = n + c.args.len in
    rw read record {
      within = within-put c.self.inside.size (length block) (length c.copy_to.new.self.items.items) 0 c.self.inside.lens.items c.args.number more s.there c.self.invariant.within c.copy_to.ensures.put.long (omega (arith, c.requires.enough, s.long, s.size_is)) (omega (arith, begin, long, c.copy_to.ensures.put.reach));
      reserved = rw (length-set c.self.inside.lens.items c.args.number more) (omega (arith, c.self.invariant.reserved, c.copy_to.ensures.capacity));
      few = omega (arith, c.self.invariant.few, length-set c.self.inside.lens.items c.args.number more);
      small = c.self.invariant.small;
    }

pub returns : goal.returns
returns g c =
    let s = stack-is c.args.self.now c.self.inside.block.items.items c.self.inside.block.items.cap c.self.inside.size c.self.inside.lens.items c.args.number c.self.invariant c.self.view_is c.requires.there in
    let n = get_or c.self.inside.lens.items c.args.number 0 in
    let z = stack-is c.args.self.now c.self.inside.block.items.items c.self.inside.block.items.cap c.self.inside.size c.self.inside.lens.items c.args.source c.self.invariant c.self.view_is c.requires.source in
    let read : c.index-old.result.now ≡ n = get_or_read c.self.inside.lens.items c.args.number c.index-old.result.now s.there c.index-old.ensures 0 in
    let begin : 0 + c.args.number * c.self.inside.size + n ≡ c.begin_of-2.result + c.index-old.result.now = omega (arith, read, c.begin_of-2.ensures.begin) in
    let block = c.self.inside.block.items.items in
    let m = get_or c.self.inside.lens.items c.args.source 0 in
    let o = c.args.source * c.self.inside.size in
    let counts : c.args.from + c.args.len - c.args.from ≡ c.args.len = omega arith in
    let range = range-at block o m c.args.from (c.args.from + c.args.len) (omega arith) (omega (arith, c.requires.within, z.long, z.ends, length-take m (drop o block), length-drop o block)) in
    let list : take c.args.len (drop (c.begin_of.result + c.args.from) block) ≡ take c.args.len (drop c.args.from (stack_of c.args.self.now c.args.source)) =
    sym (ap (λ l. take c.args.len (drop c.args.from l)) z.list ∙ (rw counts at range) ∙ ap (λ j. take c.args.len (drop (j + c.args.from) block)) (sym c.begin_of.ensures.begin)) in
    let long : length (take c.args.len (drop (c.begin_of.result + c.args.from) block)) ≡ c.args.len = omega (arith, c.begin_of.ensures.begin, c.requires.some, c.requires.within, z.long, z.ends, length-take c.args.len (drop (c.begin_of.result + c.args.from) block), length-drop (c.begin_of.result + c.args.from) block) in
    let put = stacks-put c.self.inside.size block c.copy_to.new.self.items.items _ _ c.copy_to.ensures.put 0 c.self.inside.lens.items c.args.number n s.there c.self.invariant.within refl begin (omega (arith, c.requires.enough, s.long, s.size_is, long)) in
    rw (read, ← list, ← c.self.view_is) (rw (rw long at put) refl)
