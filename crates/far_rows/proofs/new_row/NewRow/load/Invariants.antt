use Rattle.std.proofs.Common.{◌≡◌, length, take, drop}
use Rattle.far_rows.specs.ColumnIndexes.{row_of}
use Rattle.far_rows.proofs.new_row.NewRow.load.Given as goal

abbrev pub invariant-loop-column : goal.invariant-loop-column
invariant-loop-column l = record {
  row : row_of (take l.column l.column_indexes) l.self ≡ take l.column l.initial.cells.items;
  rest : drop l.column l.cells.items ≡ drop l.column l.initial.cells.items;
  long : length l.cells.items ≡ length l.initial.cells.items;
  numbers : length l.self.numbers ≡ length l.initial.self.numbers;
  texts : length l.self.texts ≡ length l.initial.self.texts;
}
