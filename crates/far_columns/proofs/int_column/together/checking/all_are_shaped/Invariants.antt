use Rattle.std.proofs.Common.{take}
use Rattle.std.specs.Prelude.{All}
use Rattle.far_columns.specs.Vector.{IsShaped}
use Rattle.far_columns.proofs.int_column.together.checking.all_are_shaped.Given as goal

abbrev pub invariant-loop-column : goal.invariant-loop-column
invariant-loop-column l = All IsShaped (take l.column-index l.columns)
