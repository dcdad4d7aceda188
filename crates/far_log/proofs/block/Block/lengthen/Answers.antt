use Rattle.std.proofs.Common.{◌-◌, ◌++◌, replicate, ap, ◌∙◌, arith}
use Rattle.std.proofs.lemmas.List.{take_all}
use Rattle.far_log.proofs.block.Block.lengthen.Goals as goal

pub unreachable-requires : goal.unreachable-requires
unreachable-requires g c = omega (arith, c.requires, c.in_default.ensures.full)

pub returns-clause-grown : goal.returns-clause-grown
returns-clause-grown g c =
    c.in-Ok.ensures.items ∙ ap (λ xs. xs ++ replicate (c.args.len - c.args.self.now.items.len) c.args.filler) (take_all c.args.len c.args.self.now.items.items (omega (arith, c.if-len.false, c.len.ensures, c.args.self.now.items.ok.0)))
