use Rattle.std.proofs.Common.{◌++◌, ap, ◌∙◌}
use Rattle.far_commands.specs.Pieces.{flag_text}
use Rattle.far_commands.proofs.PiecesLaws.{texts-more}
use Rattle.far_commands.proofs.pieces.marks.Goals as goal

pub loop-alive-preserved : goal.loop-alive-preserved
loop-alive-preserved c = texts-more flag_text c.args.flags.now c.loop-alive.alive-index _ c.loop-alive.page c.byte.new.self _
    c.loop-alive-test.true (c.in_ok-byte.ensures.ok ∙ ap (λ text. c.loop-alive.page ++ text) c.mark.ensures) c.loop-alive.invariant
