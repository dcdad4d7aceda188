use Rattle.std.proofs.Common.{◌≡◌}
use Rattle.far_types.specs.FirstOf.{first_of}
use Rattle.far_table.specs.Offloading.{dirty_from}
use Rattle.far_table.proofs.OffloadingTickets.{left}
use Rattle.far_table.proofs.copies.are_copied.Given as goal

abbrev pub invariant-loop-column : goal.invariant-loop-column
invariant-loop-column g l = first_of (dirty_from l.rows l.spec l.group 0 l.rows.column_indexes) ≡ left l.rows l.spec l.group l.column
