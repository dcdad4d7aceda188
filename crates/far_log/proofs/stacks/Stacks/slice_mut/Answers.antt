use Rattle.std.proofs.Common.{◌≡◌, ◌+◌, ◌-◌, ◌*◌, List, [], get_or, take, drop, refl, sym, ap, ◌∙◌, arith, length-take, length-drop}
use Rattle.far_log.specs.Stacking.{stacks_from}
use Rattle.far_log.proofs.StackingLaws.{stack-is, length-stack, stacks-over, over-cut}
use Rattle.far_log.proofs.StorageWrites.{range-at, length-block_over}
use Rattle.far_log.proofs.stacks.Stacks.slice_mut.Goals as goal

pub begin_of-requires : goal.begin_of-requires
begin_of-requires g c =
    let s = stack-is c.args.self.now c.self.inside.block.items.items c.self.inside.block.items.cap c.self.inside.size c.self.inside.lens.items c.args.number c.self.invariant c.self.view_is c.requires.there in
    let block = c.self.inside.block.items.items in
    let n = get_or c.self.inside.lens.items c.args.number 0 in
    let o = c.args.number * c.self.inside.size in
    omega (arith, s.there, c.self.invariant.few)

pub overflow_add-begin : goal.overflow_add-begin
overflow_add-begin g c =
    let s = stack-is c.args.self.now c.self.inside.block.items.items c.self.inside.block.items.cap c.self.inside.size c.self.inside.lens.items c.args.number c.self.invariant c.self.view_is c.requires.there in
    let block = c.self.inside.block.items.items in
    let n = get_or c.self.inside.lens.items c.args.number 0 in
    let o = c.args.number * c.self.inside.size in
    omega (arith, c.begin_of.ensures.small, c.requires.within, s.long, s.fits, c.self.invariant.small)

pub overflow_sub-most : goal.overflow_sub-most
overflow_sub-most g c =
    let s = stack-is c.args.self.now c.self.inside.block.items.items c.self.inside.block.items.cap c.self.inside.size c.self.inside.lens.items c.args.number c.self.invariant c.self.view_is c.requires.there in
    let block = c.self.inside.block.items.items in
    let n = get_or c.self.inside.lens.items c.args.number 0 in
    let o = c.args.number * c.self.inside.size in
    omega (arith, c.requires.within, s.long, s.fits)

pub overflow_add-begin-2 : goal.overflow_add-begin-2
overflow_add-begin-2 g c =
    let s = stack-is c.args.self.now c.self.inside.block.items.items c.self.inside.block.items.cap c.self.inside.size c.self.inside.lens.items c.args.number c.self.invariant c.self.view_is c.requires.there in
    let block = c.self.inside.block.items.items in
    let n = get_or c.self.inside.lens.items c.args.number 0 in
    let o = c.args.number * c.self.inside.size in
    omega (arith, c.begin_of.ensures.small, c.requires.within, s.long, s.fits, c.self.invariant.small)

pub lend-requires-clause-within : goal.lend-requires-clause-within
lend-requires-clause-within g c =
    let s = stack-is c.args.self.now c.self.inside.block.items.items c.self.inside.block.items.cap c.self.inside.size c.self.inside.lens.items c.args.number c.self.invariant c.self.view_is c.requires.there in
    let block = c.self.inside.block.items.items in
    let n = get_or c.self.inside.lens.items c.args.number 0 in
    let o = c.args.number * c.self.inside.size in
    omega (arith, c.begin_of.ensures.begin, c.requires.within, c.requires.some, s.long, s.ends, c.self.inside.block.items.ok.0)

pub lend-requires-clause-enough : goal.lend-requires-clause-enough
lend-requires-clause-enough g c =
    let s = stack-is c.args.self.now c.self.inside.block.items.items c.self.inside.block.items.cap c.self.inside.size c.self.inside.lens.items c.args.number c.self.invariant c.self.view_is c.requires.there in
    let block = c.self.inside.block.items.items in
    let n = get_or c.self.inside.lens.items c.args.number 0 in
    let o = c.args.number * c.self.inside.size in
    omega (arith, c.requires.within, s.long, s.fits)

pub invariant_of-self-lent : goal.invariant_of-self-lent
invariant_of-self-lent g c w =
    let s = stack-is c.args.self.now c.self.inside.block.items.items c.self.inside.block.items.cap c.self.inside.size c.self.inside.lens.items c.args.number c.self.invariant c.self.view_is c.requires.there in
    let block = c.self.inside.block.items.items in
    let n = get_or c.self.inside.lens.items c.args.number 0 in
    let o = c.args.number * c.self.inside.size in
    let at = c.begin_of.result + c.args.from in
    let ws = take (c.self.inside.size - c.args.from) w in
    let long = length-block_over block at ws (omega (arith, c.begin_of.ensures.begin, c.requires.within, c.requires.some, s.long, s.ends)) in
    rw (c.self.inside.block.items.ok.0, long) record { within = c.self.invariant.within; reserved = c.self.invariant.reserved; few = c.self.invariant.few; small = c.self.invariant.small }

pub returns : goal.returns
returns g c =
    let s = stack-is c.args.self.now c.self.inside.block.items.items c.self.inside.block.items.cap c.self.inside.size c.self.inside.lens.items c.args.number c.self.invariant c.self.view_is c.requires.there in
    let block = c.self.inside.block.items.items in
    let n = get_or c.self.inside.lens.items c.args.number 0 in
    let o = c.args.number * c.self.inside.size in
    let at = c.begin_of.result + c.args.from in
    let most = c.self.inside.size - c.args.from in
    let begin : 0 + c.args.number * c.self.inside.size + c.args.from ≡ at = omega (arith, c.begin_of.ensures.begin) in
    let begins : at ≡ o + c.args.from = omega (arith, c.begin_of.ensures.begin) in
    let count : at + c.args.len - at ≡ c.args.len = omega arith in
    let counts : c.args.from + c.args.len - c.args.from ≡ c.args.len = omega arith in
    let over = λ (w : List g.row.T.Denot). stacks-over block at (take most w) (omega (arith, c.begin_of.ensures.begin, c.requires.within, c.requires.some, s.long, s.ends)) c.self.inside.size 0 c.self.inside.lens.items c.args.number c.args.from s.there c.self.invariant.within begin
    (omega (arith, length-take most w, c.requires.within, s.long, s.fits)) in
    let cut = λ (w : List g.row.T.Denot). over-cut (get_or (stacks_from c.self.inside.size block 0 c.self.inside.lens.items) c.args.number []) c.args.from most w (omega (arith, length-stack c.self.inside.size block 0 c.self.inside.lens.items c.args.number c.self.invariant.within s.there, s.fits, c.requires.within, s.long)) in
    let range = range-at block o n c.args.from (c.args.from + c.args.len) (omega arith) (omega (arith, c.requires.within, s.long, s.ends, length-take n (drop o block), length-drop o block)) in (
      (refl, λ w. rw (c.self.inside.block.items.ok.0, over w, cut w, ← c.self.view_is) refl),
      record { writes_back = tt; value = rw (c.lend.ensures.value, count, begins) (sym (ap (λ l. take c.args.len (drop c.args.from l)) s.list ∙ (rw counts at range))) },
    )
