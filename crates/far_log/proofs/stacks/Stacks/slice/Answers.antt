use Rattle.std.proofs.Common.{◌≡◌, ◌+◌, ◌-◌, ◌*◌, get_or, take, drop, sym, ap, ◌∙◌, arith, length-take, length-drop}
use Rattle.far_log.proofs.StackingLaws.{stack-is}
use Rattle.far_log.proofs.StorageWrites.{range-at}
use Rattle.far_log.proofs.stacks.Stacks.slice.Goals as goal

pub begin_of-requires : goal.begin_of-requires
begin_of-requires g c =
    let s = stack-is c.args.self.now c.self.inside.block.items.items c.self.inside.block.items.cap c.self.inside.size c.self.inside.lens.items c.args.number c.self.invariant c.self.view_is c.requires.there in
    omega (arith, s.there, c.self.invariant.few)

pub overflow_add-begin : goal.overflow_add-begin
overflow_add-begin g c =
    let s = stack-is c.args.self.now c.self.inside.block.items.items c.self.inside.block.items.cap c.self.inside.size c.self.inside.lens.items c.args.number c.self.invariant c.self.view_is c.requires.there in
    omega (arith, c.begin_of.ensures.small, c.requires.within, s.long, s.fits, c.self.invariant.small)

pub overflow_add-begin-2 : goal.overflow_add-begin-2
overflow_add-begin-2 g c =
    let s = stack-is c.args.self.now c.self.inside.block.items.items c.self.inside.block.items.cap c.self.inside.size c.self.inside.lens.items c.args.number c.self.invariant c.self.view_is c.requires.there in
    omega (arith, c.begin_of.ensures.small, c.requires.within, s.long, s.fits, c.self.invariant.small)

pub slice-requires-clause-within : goal.slice-requires-clause-within
slice-requires-clause-within g c =
    let s = stack-is c.args.self.now c.self.inside.block.items.items c.self.inside.block.items.cap c.self.inside.size c.self.inside.lens.items c.args.number c.self.invariant c.self.view_is c.requires.there in
    omega (arith, c.begin_of.ensures.begin, c.requires.within, c.requires.some, s.long, s.ends)

pub returns : goal.returns
returns g c =
    let s = stack-is c.args.self.now c.self.inside.block.items.items c.self.inside.block.items.cap c.self.inside.size c.self.inside.lens.items c.args.number c.self.invariant c.self.view_is c.requires.there in
    let block = c.self.inside.block.items.items in
    let n = get_or c.self.inside.lens.items c.args.number 0 in
    let o = c.args.number * c.self.inside.size in
    let begin : c.begin_of.result + c.args.from ≡ o + c.args.from = omega (arith, c.begin_of.ensures.begin) in
    let count : c.begin_of.result + c.args.from + c.args.len - (c.begin_of.result + c.args.from) ≡ c.args.len = omega arith in
    let counts : c.args.from + c.args.len - c.args.from ≡ c.args.len = omega arith in
    let range = range-at block o n c.args.from (c.args.from + c.args.len) (omega arith) (omega (arith, c.requires.within, s.long, s.ends, length-take n (drop o block), length-drop o block)) in
    rw (c.slice.ensures, count, begin) (sym (ap (λ l. take c.args.len (drop c.args.from l)) s.list ∙ (rw counts at range)))
