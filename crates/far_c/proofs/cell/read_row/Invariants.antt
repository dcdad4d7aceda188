use Rattle.std.proofs.Common.{◌≡◌, ◌≤◌, take, vec_len}
use Rattle.std.specs.List.{All}
use Rattle.far_c.specs.Cells.{row_of}
use Rattle.far_c.specs.Unreadable.{IsReadable}
use Rattle.far_c.proofs.cell.read_row.Given as goal

abbrev pub invariant-loop-column : goal.invariant-loop-column
invariant-loop-column l = record {
  there : l.column ≤ vec_len l.made;
  cells : take l.column l.made.items ≡ row_of (take l.column l.cells);
  readable : All IsReadable (take l.column l.cells);
}
