use Rattle.std.proofs.Common.{ℕ}
use Rattle.std.specs.Prelude.{IsSomeAnd}
use Rattle.far_rows.specs.Copies.{copy_of}
use Rattle.far_table.specs.Offloading.{HaveOneNumber, ticket_for}
use Rattle.far_table.specs.FarGroups.{IsCopy}
use Rattle.far_table.proofs.OffloadingTickets.{one-needed, not-needed}
use Rattle.far_table.proofs.copies.are_still.Goals.{else-needs-via-then-needs+else-not-is_still, else-needs-via-else-needs}
use Rattle.far_table.proofs.copies.are_still.Goals as goal

pub loop-column-preserved : goal.loop-column-preserved
loop-column-preserved g c =
    let r = c.args.rows.now in
    let spec = c.args.spec.now in
    let tickets = c.args.tickets.now in
    let k = c.loop-column.column in
    let one : ℕ → Type 0 = λ column. HaveOneNumber g.S.FarTickets.number_of (copy_of r column c.args.group) (ticket_for tickets column) in
    let copy : ℕ → Type 0 = λ column. IsSomeAnd (ticket_for tickets column) (IsCopy g.S.FarTickets.content r c.args.group column) in
    elim c.else-needs.branch [
      | else-needs-via-then-needs+else-not-is_still w ↦ record {
        exact = one-needed one spec k c.loop-column.invariant.exact (λ wanted. w.is_still.ensures.exact.0 w.if-not-is_still.false);
        copies = one-needed copy spec k c.loop-column.invariant.copies (λ wanted. w.is_still.ensures.copy w.if-not-is_still.false);
      }
      | else-needs-via-else-needs w ↦ record {
        exact = one-needed one spec k c.loop-column.invariant.exact (not-needed spec k c.needs.result c.needs.ensures w.if-needs.false);
        copies = one-needed copy spec k c.loop-column.invariant.copies (not-needed spec k c.needs.result c.needs.ensures w.if-needs.false);
      }
    ]
