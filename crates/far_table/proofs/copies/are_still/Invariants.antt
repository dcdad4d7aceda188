use Rattle.std.specs.Prelude.{IsSomeAnd}
use Rattle.far_rows.specs.Copies.{copy_of}
use Rattle.far_table.specs.Offloading.{HaveOneNumber, ticket_for}
use Rattle.far_table.specs.FarGroups.{AllNeeded, IsCopy}
use Rattle.far_table.proofs.copies.are_still.Given as goal

abbrev pub invariant-loop-column : goal.invariant-loop-column
invariant-loop-column g l = record {
  exact : AllNeeded l.column l.spec (λ column. HaveOneNumber g.S.FarTickets.number_of (copy_of l.rows column l.group) (ticket_for l.tickets column));
  copies : AllNeeded l.column l.spec (λ column. IsSomeAnd (ticket_for l.tickets column) (IsCopy g.S.FarTickets.content l.rows l.group column));
}
