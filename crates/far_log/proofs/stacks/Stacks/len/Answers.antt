use Rattle.std.proofs.Common.{sym, ◌∙◌, arith}
use Rattle.std.proofs.lemmas.List.{get_or_read}
use Rattle.far_log.proofs.StackingLaws.{stack-is}
use Rattle.far_log.proofs.stacks.Stacks.len.Goals as goal

pub index-requires : goal.index-requires
index-requires g c =
    let s = stack-is c.args.self.now c.self.inside.block.items.items c.self.inside.block.items.cap c.self.inside.size c.self.inside.lens.items c.args.number c.self.invariant c.self.view_is c.requires in
    omega (arith, s.there, c.self.inside.lens.ok.0)

pub returns : goal.returns
returns g c =
    let s = stack-is c.args.self.now c.self.inside.block.items.items c.self.inside.block.items.cap c.self.inside.size c.self.inside.lens.items c.args.number c.self.invariant c.self.view_is c.requires in
    let read = get_or_read c.self.inside.lens.items c.args.number c.index.result.now s.there c.index.ensures 0 in
    record { len = read ∙ sym s.long; within = omega (arith, read, s.fits, s.size_is) }
