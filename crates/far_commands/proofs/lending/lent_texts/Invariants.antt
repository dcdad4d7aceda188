use Rattle.std.proofs.Common.{◌≡◌, ◌++◌, ◌-◌, map}
use Rattle.far_columns.specs.Pieces.{pieces_of}
use Rattle.far_frame.specs.Lending.{lent_part, piece_of}
use Rattle.far_commands.specs.Pieces.{piece_text}
use Rattle.far_script.specs.Printing.{texts_of}
use Rattle.far_commands.proofs.lending.lent_texts.Given as goal

abbrev pub invariant-loop-start : goal.invariant-loop-start
invariant-loop-start g l = l.page ++ texts_of piece_text (map (piece_of l.column) (pieces_of l.view.table.places l.size l.start l.to)) ≡ l.fn.page ++ texts_of piece_text (lent_part l.view.table l.column l.from l.to)

abbrev pub decreases-loop-start : goal.decreases-loop-start
decreases-loop-start g l = l.to - l.start
