use Rattle.std.proofs.Common.{subst, sym}
use Rattle.far_rows.specs.Renewal.{RenewsRows}
use Rattle.far_table.specs.TableRows.{TableRows}
use Rattle.far_table.proofs.RenewingLaws.{renewed-invariant, renewed-rows}
use Rattle.far_table.proofs.table_rows.TableRows.renew.Goals as goal

pub invariant_of-result : goal.invariant_of-result
invariant_of-result g c =
    let inside = c.self.inside in
    let renews = subst (λ (t : TableRows g.row.S-Ticket.Denot). RenewsRows g.S.FarTickets.content g.N.FarTickets.content t.held c.args.renewal) (sym c.self.view_is) c.requires in
    renewed-invariant g.S.FarTickets.content g.N.FarTickets.content inside.rows c.args.renewal renews inside.schema inside.limits inside.new_row inside.edits c.renew.result c.renew.ensures.renewed c.renew.ensures.cells c.self.invariant

pub returns-clause-renewed : goal.returns-clause-renewed
returns-clause-renewed g c =
    let inside = c.self.inside in
    let renews = subst (λ (t : TableRows g.row.S-Ticket.Denot). RenewsRows g.S.FarTickets.content g.N.FarTickets.content t.held c.args.renewal) (sym c.self.view_is) c.requires in
    renewed-rows g.S.FarTickets.content g.N.FarTickets.content inside.rows c.args.renewal renews inside.schema inside.limits inside.new_row inside.edits c.renew.result c.renew.ensures.renewed c.renew.ensures.cells c.args.self c.self.view_is
