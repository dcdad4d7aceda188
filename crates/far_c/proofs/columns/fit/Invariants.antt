use Rattle.far_c.proofs.ColumnsFit.{FitUpTo}
use Rattle.far_c.proofs.columns.fit.Given as goal

abbrev pub invariant-loop-column : goal.invariant-loop-column
invariant-loop-column l = FitUpTo l.kinds l.rows l.columns l.column
