use Rattle.std.proofs.Common.{◌≡◌, ◌≤◌, ◌++◌, ◌-◌, map, None}
use Rattle.far_columns.specs.Pieces.{pieces_of}
use Rattle.far_rows.specs.Refusing.{texts_refusal}
use Rattle.far_frame.specs.Lending.{piece_of, text_piece, lent_part}
use Rattle.far_frame.proofs.world.lending.copied_texts.Given as goal

abbrev pub invariant-loop-start : goal.invariant-loop-start
invariant-loop-start g l = record {
  copies : map text_piece l.copies.items ++ map (piece_of l.column) (pieces_of l.frame.table.places l.size l.start l.to) ≡ lent_part l.frame.table l.column l.from l.to;
  due : texts_refusal l.frame.rows l.column l.from l.to ≡ None;
  low : l.from ≤ l.start;
  high : l.start ≤ l.to;
}

abbrev pub decreases-loop-start : goal.decreases-loop-start
decreases-loop-start g l = l.to - l.start
