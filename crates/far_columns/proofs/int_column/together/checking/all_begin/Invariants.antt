use Rattle.std.proofs.Common.{◌≡◌}
use Rattle.std.specs.Prelude.{drop}
use Rattle.far_columns.specs.NumbersTogether.{all_begin}
use Rattle.far_columns.proofs.int_column.together.checking.all_begin.Given as goal

abbrev pub invariant-loop-column : goal.invariant-loop-column
invariant-loop-column l = all_begin l.columns ≡ all_begin (drop l.column-index l.columns)
