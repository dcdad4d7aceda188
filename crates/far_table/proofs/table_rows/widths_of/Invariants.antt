use Rattle.far_table.proofs.OpeningWidths.{AreCounted}
use Rattle.far_table.proofs.table_rows.widths_of.Given as goal

abbrev pub invariant-loop-kind : goal.invariant-loop-kind
invariant-loop-kind l = AreCounted l.widths.numbers l.widths.texts l.kind-items l.kind-index
