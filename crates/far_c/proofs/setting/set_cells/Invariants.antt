use Rattle.std.proofs.Common.{◌≡◌}
use Rattle.far_c.specs.ColumnFaults.{AreFirstRead, IsReadIn}
use Rattle.far_c.specs.Columns.{AreSet}
use Rattle.far_c.proofs.setting.set_cells.Given as goal

abbrev pub invariant-loop-index : goal.invariant-loop-index
invariant-loop-index l = record {
  cells : AreSet l.column l.places l.values l.index l.fn.table l.table;
  kept : l.table.refusal ≡ l.fn.table.refusal;
  read : AreFirstRead (λ index. IsReadIn index l.values) l.index;
}
