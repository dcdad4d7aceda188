use Rattle.std.proofs.Common.{◌≡◌, ◌++◌, drop}
use Rattle.far_frame.specs.Lending.{int_piece}
use Rattle.far_commands.specs.Pieces.{piece_text}
use Rattle.far_script.specs.Printing.{texts_of}
use Rattle.far_commands.proofs.pieces.ints.Given as goal

abbrev pub invariant-loop-lent : goal.invariant-loop-lent
invariant-loop-lent l = l.page ++ texts_of (λ copy. piece_text (int_piece copy)) (drop l.lent-index l.pieces) ≡ l.initial.page ++ texts_of (λ copy. piece_text (int_piece copy)) l.pieces
