use Rattle.std.proofs.Common.{length, get_or, refl, arith, length-set}
use Rattle.far_log.proofs.StackingLaws.{stack-is, stacks-cut, within-cut}
use Rattle.far_log.proofs.stacks.Stacks.truncate.Goals as goal

pub index_mut-requires : goal.index_mut-requires
index_mut-requires g c =
    let s = stack-is c.args.self.now c.self.inside.block.items.items c.self.inside.block.items.cap c.self.inside.size c.self.inside.lens.items c.args.number c.self.invariant c.self.view_is c.requires.there in
    let n = get_or c.self.inside.lens.items c.args.number 0 in
    omega (arith, s.there, c.self.inside.lens.ok.0)

pub overflow_cast-len : goal.overflow_cast-len
overflow_cast-len g c =
    let s = stack-is c.args.self.now c.self.inside.block.items.items c.self.inside.block.items.cap c.self.inside.size c.self.inside.lens.items c.args.number c.self.invariant c.self.view_is c.requires.there in
    let n = get_or c.self.inside.lens.items c.args.number 0 in
    omega (arith, c.requires.shorter, s.long, s.fits, c.self.invariant.small)

pub invariant_of-self : goal.invariant_of-self
invariant_of-self g c =
    let s = stack-is c.args.self.now c.self.inside.block.items.items c.self.inside.block.items.cap c.self.inside.size c.self.inside.lens.items c.args.number c.self.invariant c.self.view_is c.requires.there in
    let n = get_or c.self.inside.lens.items c.args.number 0 in
    record {
      within = within-cut c.self.inside.size (length c.self.inside.block.items.items) 0 c.self.inside.lens.items c.args.number c.args.len c.self.invariant.within (omega (arith, c.requires.shorter, s.long));
      reserved = rw (length-set c.self.inside.lens.items c.args.number c.args.len) c.self.invariant.reserved;
      few = omega (arith, c.self.invariant.few, length-set c.self.inside.lens.items c.args.number c.args.len);
      small = c.self.invariant.small;
    }

pub returns : goal.returns
returns g c =
    let s = stack-is c.args.self.now c.self.inside.block.items.items c.self.inside.block.items.cap c.self.inside.size c.self.inside.lens.items c.args.number c.self.invariant c.self.view_is c.requires.there in
    let n = get_or c.self.inside.lens.items c.args.number 0 in
    rw (← c.self.view_is, stacks-cut c.self.inside.size c.self.inside.block.items.items 0 c.self.inside.lens.items c.args.number c.args.len (omega (arith, c.requires.shorter, s.long))) refl
