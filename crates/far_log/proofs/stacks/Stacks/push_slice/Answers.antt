use Rattle.std.proofs.Common.{◌≡◌, ◌+◌, ◌*◌, length, get_or, refl, arith, length-set}
use Rattle.std.proofs.lemmas.List.{get_or_read}
use Rattle.far_log.proofs.StackingLaws.{stack-is, stacks-put, within-put}
use Rattle.far_log.proofs.stacks.Stacks.push_slice.Goals as goal

pub index-len-requires : goal.index-len-requires
index-len-requires g c =
    let s = stack-is c.args.self.now c.self.inside.block.items.items c.self.inside.block.items.cap c.self.inside.size c.self.inside.lens.items c.args.number c.self.invariant c.self.view_is c.requires.there in
    let n = get_or c.self.inside.lens.items c.args.number 0 in
    omega (arith, s.there, c.self.inside.lens.ok.0)

pub begin_of-requires : goal.begin_of-requires
begin_of-requires g c =
    let s = stack-is c.args.self.now c.self.inside.block.items.items c.self.inside.block.items.cap c.self.inside.size c.self.inside.lens.items c.args.number c.self.invariant c.self.view_is c.requires.there in
    let n = get_or c.self.inside.lens.items c.args.number 0 in
    omega (arith, s.there, c.self.invariant.few)

pub write_at-requires-clause-enough : goal.write_at-requires-clause-enough
write_at-requires-clause-enough g c =
    let s = stack-is c.args.self.now c.self.inside.block.items.items c.self.inside.block.items.cap c.self.inside.size c.self.inside.lens.items c.args.number c.self.invariant c.self.view_is c.requires.there in
    let n = get_or c.self.inside.lens.items c.args.number 0 in
    let read : c.index-len.result.now ≡ n = get_or_read c.self.inside.lens.items c.args.number c.index-len.result.now s.there c.index-len.ensures 0 in
    let begin : 0 + c.args.number * c.self.inside.size + n ≡ c.begin_of.result + c.index-len.result.now = omega (arith, read, c.begin_of.ensures.begin) in
    omega (arith, read, c.begin_of.ensures.begin, c.requires.enough, s.long, s.size_is, s.reach)

pub index_mut-requires : goal.index_mut-requires
index_mut-requires g c =
    let s = stack-is c.args.self.now c.self.inside.block.items.items c.self.inside.block.items.cap c.self.inside.size c.self.inside.lens.items c.args.number c.self.invariant c.self.view_is c.requires.there in
    let n = get_or c.self.inside.lens.items c.args.number 0 in
    omega (arith, s.there, c.self.inside.lens.ok.0)

pub overflow_add-len : goal.overflow_add-len
overflow_add-len g c =
    let s = stack-is c.args.self.now c.self.inside.block.items.items c.self.inside.block.items.cap c.self.inside.size c.self.inside.lens.items c.args.number c.self.invariant c.self.view_is c.requires.there in
    let n = get_or c.self.inside.lens.items c.args.number 0 in
    let read : c.index-len.result.now ≡ n = get_or_read c.self.inside.lens.items c.args.number c.index-len.result.now s.there c.index-len.ensures 0 in
    let begin : 0 + c.args.number * c.self.inside.size + n ≡ c.begin_of.result + c.index-len.result.now = omega (arith, read, c.begin_of.ensures.begin) in
    omega (arith, read, c.requires.enough, s.long, s.size_is, c.self.invariant.small)

pub invariant_of-self : goal.invariant_of-self
invariant_of-self g c =
    let s = stack-is c.args.self.now c.self.inside.block.items.items c.self.inside.block.items.cap c.self.inside.size c.self.inside.lens.items c.args.number c.self.invariant c.self.view_is c.requires.there in
    let n = get_or c.self.inside.lens.items c.args.number 0 in
    let read : c.index-len.result.now ≡ n = get_or_read c.self.inside.lens.items c.args.number c.index-len.result.now s.there c.index-len.ensures 0 in
    let begin : 0 + c.args.number * c.self.inside.size + n ≡ c.begin_of.result + c.index-len.result.now = omega (arith, read, c.begin_of.ensures.begin) in
    let more = n + length c.args.list.now in
    rw read record {
      within = within-put c.self.inside.size (length c.self.inside.block.items.items) (length c.write_at.new.self.items.items) 0 c.self.inside.lens.items c.args.number more s.there c.self.invariant.within c.write_at.ensures.put.long (omega (arith, c.requires.enough, s.long, s.size_is)) (omega (arith, begin, c.write_at.ensures.put.reach));
      reserved = rw (length-set c.self.inside.lens.items c.args.number more) (omega (arith, c.self.invariant.reserved, c.write_at.ensures.capacity));
      few = omega (arith, c.self.invariant.few, length-set c.self.inside.lens.items c.args.number more);
      small = c.self.invariant.small;
    }

pub returns : goal.returns
returns g c =
    let s = stack-is c.args.self.now c.self.inside.block.items.items c.self.inside.block.items.cap c.self.inside.size c.self.inside.lens.items c.args.number c.self.invariant c.self.view_is c.requires.there in
    let n = get_or c.self.inside.lens.items c.args.number 0 in
    let read : c.index-len.result.now ≡ n = get_or_read c.self.inside.lens.items c.args.number c.index-len.result.now s.there c.index-len.ensures 0 in
    let begin : 0 + c.args.number * c.self.inside.size + n ≡ c.begin_of.result + c.index-len.result.now = omega (arith, read, c.begin_of.ensures.begin) in
    rw (read, ← c.self.view_is, stacks-put c.self.inside.size c.self.inside.block.items.items c.write_at.new.self.items.items c.args.list.now _ c.write_at.ensures.put 0 c.self.inside.lens.items c.args.number n s.there c.self.invariant.within refl begin (omega (arith, c.requires.enough, s.long, s.size_is))) refl
