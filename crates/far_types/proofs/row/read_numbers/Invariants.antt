use Rattle.std.proofs.Common.{take}
use Rattle.far_types.specs.Cells.{RowFits}
use Rattle.far_types.proofs.row.read_numbers.Given as goal

abbrev pub invariant-loop-cell : goal.invariant-loop-cell
invariant-loop-cell l = RowFits (take l.cell-index l.cells)
