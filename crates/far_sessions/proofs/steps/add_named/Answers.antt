use Rattle.std.proofs.Common.{rules}
use Rattle.far_sessions.proofs.RuleLaws.{adds}
use Rattle.far_sessions.proofs.steps.add_named.Goals as goal

pub swap_as-requires : goal.swap_as-requires
swap_as-requires g c =
    let moves = adds _ _ _ c.args.edit.value _ c.requires.both.0 c.requires.both.1 c.requires.reads c.requires.may in
    (search rules, (search rules, (c.requires.cell, rw (← c.requires.named) moves)))
