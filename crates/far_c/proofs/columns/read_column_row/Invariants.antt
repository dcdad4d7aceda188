use Rattle.std.proofs.Common.{◌≡◌, ◌≤◌, take, vec_len}
use Rattle.far_c.specs.ColumnFaults.{IsRowRead}
use Rattle.far_c.specs.Columns.{column_row}
use Rattle.far_c.proofs.columns.read_column_row.Given as goal

abbrev pub invariant-loop-column : goal.invariant-loop-column
invariant-loop-column l = record {
  there : l.column ≤ vec_len l.made;
  cells : take l.column l.made.items ≡ column_row (take l.column l.columns) l.row;
  read : IsRowRead (take l.column l.columns) l.row;
}
