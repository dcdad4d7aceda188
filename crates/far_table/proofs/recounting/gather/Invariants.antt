use Rattle.std.proofs.Common.{◌≡◌, ◌+◌, ◌<◌, ◌≤◌, true, length}
use Rattle.std.specs.Vec.Iter.{into_iter_items, into_iter_len}
use Rattle.far_table.specs.Pieces.{HaveFewFaults}
use Rattle.far_table.proofs.PiecesLaws.{AreGathered}
use Rattle.far_table.proofs.recounting.gather.Given as goal

abbrev pub invariant-loop-piece : goal.invariant-loop-piece
invariant-loop-piece g l = record {
  len : into_iter_len l.piece-iterator ≡ length (into_iter_items l.piece-iterator);
  faults : HaveFewFaults g.S.FarTickets.may_fail (into_iter_items l.piece-iterator);
  cause : l.initial.meter < l.meter → g.S.FarTickets.may_fail;
  low : l.initial.meter ≤ l.meter;
  few : l.meter + length (into_iter_items l.piece-iterator) ≤ l.initial.meter + length l.fn.pieces.items;
  all : l.whole ≡ true → AreGathered l.fn.pieces.items l.partials.items (into_iter_items l.piece-iterator);
}
