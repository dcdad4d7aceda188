use Rattle.std.proofs.Common.{◌≡◌}
use Rattle.far_c.specs.ColumnFaults.{AreFirstRead, IsRowRead}
use Rattle.far_c.specs.Columns.{AreAppended}
use Rattle.far_c.proofs.columns.insert_rows.Given as goal

abbrev pub invariant-loop-row : goal.invariant-loop-row
invariant-loop-row l = record {
  rows : AreAppended l.columns l.row l.fn.table l.table;
  kept : l.table.refusal ≡ l.fn.table.refusal;
  read : AreFirstRead (IsRowRead l.columns) l.row;
}
