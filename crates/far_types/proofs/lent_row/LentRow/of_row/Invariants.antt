use Rattle.std.proofs.Common.{◌≡◌, take}
use Rattle.far_types.proofs.lent_row.LentRow.of_row.Given as goal

abbrev pub invariant-loop-cell : goal.invariant-loop-cell
invariant-loop-cell l = l.lent ≡ take l.cell-index l.row
