use Rattle.std.proofs.Common.{◌≡◌, map, take}
use Rattle.far_rows.specs.ColumnIndexes.{cell_in}
use Rattle.far_rows.proofs.new_row.NewRow.lend.Given as goal

abbrev pub invariant-loop-column_index : goal.invariant-loop-column_index
invariant-loop-column_index l = l.row ≡ map (cell_in l.self) (take l.column_index-index l.column_indexes)
