use Rattle.std.proofs.Common.{◌≡◌}
use Rattle.far_types.specs.FirstOf.{first_of}
use Rattle.far_table.specs.Watching.{needed_from}
use Rattle.far_table.proofs.WatchingColumns.{left}
use Rattle.far_table.proofs.table_rows.TableRows.may_scan.Given as goal

abbrev pub invariant-loop-column : goal.invariant-loop-column
invariant-loop-column g l = first_of (needed_from l.self.held l.spec l.group 0 l.self.held.column_indexes) ≡ left l.self.held l.spec l.group l.column
