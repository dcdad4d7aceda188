use Rattle.far_table.proofs.GroupsColumns.{AreBelow}
use Rattle.far_table.proofs.row_group.columns_of.Given as goal

abbrev pub invariant-loop-column : goal.invariant-loop-column
invariant-loop-column g l = AreBelow g.S.FarTickets.content record { rows = l.rows; group = l.group } l.column l.columns
