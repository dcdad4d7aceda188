use Rattle.std.proofs.Common.{◌≡◌, ◌++◌, length, map}
use Rattle.far_frame.specs.Lending.{ints_lent, lent_part}
use Rattle.far_commands.specs.Pieces.{piece_text}
use Rattle.far_script.specs.Printing.{texts_of}
use Rattle.far_commands.proofs.lending.lent_ints.Given as goal

abbrev pub invariant-loop-lent : goal.invariant-loop-lent
invariant-loop-lent g l = l.page ++ texts_of piece_text (map ints_lent l.lents) ≡ l.fn.page ++ texts_of piece_text (lent_part l.view.table l.column l.from l.to)

abbrev pub decreases-loop-lent : goal.decreases-loop-lent
decreases-loop-lent g l = length l.lents
