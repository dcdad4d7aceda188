use Rattle.std.proofs.Common.{arith}
use Rattle.far_log.proofs.StackingPuts.{put-within, put-behind}
use Rattle.far_log.proofs.block.Block.write_at.Goals as goal

pub unreachable-requires : goal.unreachable-requires
unreachable-requires g c = omega (arith, c.requires.enough, c.in_default.ensures.full)

pub returns-then-end-len-clause-put : goal.returns-then-end-len-clause-put
returns-then-end-len-clause-put g c =
    rw (c.args.self.now.items.ok.0, c.copy_from_slice.ensures.after) (put-within c.args.self.now.items.items c.args.list.now c.args.at (omega (arith, c.if-end-len.true, c.len.ensures, c.args.self.now.items.ok.0)))

pub returns-clause-put : goal.returns-clause-put
returns-clause-put g c =
    rw (c.in-Ok-extend_from_slice.ensures.items, c.in-Ok.ensures.items, c.args.self.now.items.ok.0) (put-behind c.args.self.now.items.items c.args.list.now c.args.at _ (omega (arith, c.if-end-len.false, c.len.ensures, c.args.self.now.items.ok.0)))
