use Rattle.std.proofs.Common.{◌≡◌, ℕ, ◌*◌, ◌<◌, length}
use Rattle.std.specs.Prelude.{slice_index_or}
use Rattle.far_rows.specs.Places.{places_in}
use Rattle.far_table.specs.declared.piece.Piece.{Piece}
use Rattle.far_table.specs.Pieces.{IsPiece}
use Rattle.far_table.proofs.recounting.fold_in_turn.Given as goal

abbrev pub invariant-loop-i : goal.invariant-loop-i
invariant-loop-i g l = record {
  len : length l.found.items ≡ l.i;
  each : (k : ℕ) (d : Piece) → k < l.i → IsPiece g.S.FarTickets.may_fail l.spec (l.cut.long * l.rows.size) (places_in g.S.FarTickets.content l.rows) k (slice_index_or l.found.items k d);
}
