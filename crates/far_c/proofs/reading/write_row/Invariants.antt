use Rattle.std.proofs.Common.{◌≡◌, take}
use Rattle.far_c.specs.Cells.{row_of}
use Rattle.far_c.proofs.reading.write_row.Given as goal

abbrev pub invariant-loop-column : goal.invariant-loop-column
invariant-loop-column l = row_of (take l.column l.cells) ≡ take l.column l.row
