use Rattle.std.proofs.Common.{sym, subst}
use Rattle.far_rows.specs.Rows.{Rows}
use Rattle.far_table.specs.TableRows.{AreTableRows}
use Rattle.far_table.proofs.TableRowsOpening.{opened-invariant}
use Rattle.far_table.proofs.table_rows.TableRows.new.Goals as goal

pub invariant_of-result : goal.invariant_of-result
invariant_of-result g c =
    let content = g.S.FarTickets.content in
    let schema = c.args.schema in
    let limits = c.args.limits in
    let widths = c.widths_of-widths.ensures in
    let row = c.in_ok-new.ensures in
    subst (λ (rows : Rows g.row.S-Ticket.Denot). AreTableRows content schema limits rows c.in_ok-new.field-0 0) (sym c.in_ok-rows.ensures.empty)
    (opened-invariant content schema limits c.args.number c.requires c.widths_of-widths.result.numbers c.widths_of-widths.result.texts c.in_ok-new.field-0 row.missing (widths.numbers limits.group) (widths.texts limits.group limits.text_size))
