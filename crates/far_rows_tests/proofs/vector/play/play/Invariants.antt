use Rattle.far_codec.specs.PlainNumbers.{plain_meaning}
use Rattle.far_scopes.specs.Movement.{list_of}
use Rattle.far_columns.specs.Vector.{IsVector}
use Rattle.far_rows_tests.proofs.vector.play.play.Given as goal

abbrev pub invariant-loop-index : goal.invariant-loop-index
invariant-loop-index g l = IsVector (list_of plain_meaning g.S.FarTickets.content l.objects) l.vector
