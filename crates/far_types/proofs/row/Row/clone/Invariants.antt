use Rattle.std.proofs.Common.{◌≡◌, take}
use Rattle.far_types.proofs.row.Row.clone.Given as goal

abbrev pub invariant-loop-cell : goal.invariant-loop-cell
invariant-loop-cell l = l.cells.items ≡ take l.cell-index l.self
