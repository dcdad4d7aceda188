use Rattle.std.specs.Prelude.{cond, None}
use Rattle.far_types.specs.Bounds.{needs}
use Rattle.far_offload.specs.Jobs.{AreForms}
use Rattle.far_rows.specs.Copies.{copy_of}
use Rattle.far_table.specs.Offloading.{AreTicketsOf}
use Rattle.far_table.proofs.OffloadingTickets.{AreTicketsBelow}
use Rattle.far_table.proofs.copies.copies_of.Given as goal

abbrev pub invariant-loop-column : goal.invariant-loop-column
invariant-loop-column g l = record {
  tickets : AreTicketsBelow (λ k. cond (needs l.spec k) (copy_of l.rows k l.group) None) l.column l.tickets.items;
  forms : AreForms g.S.FarTickets.content l.tickets.items;
  here : AreTicketsOf g.S.FarTickets.is_of (g.S.FarTickets.store_id l.store) l.tickets.items;
}
