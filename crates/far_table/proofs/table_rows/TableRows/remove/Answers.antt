use Rattle.std.proofs.Common.{◌≡◌, ◌+◌, None, sym, ap, ◌∙◌, subst}
use Rattle.far_types.specs.declared.edit.Edit.TheVariants as edit
use Rattle.far_rows.specs.Places.{places_in}
use Rattle.far_rows.specs.Rows.{Rows, all_cells}
use Rattle.far_table.specs.Edits.{edit_due}
use Rattle.far_table.specs.TableRows.{TableRows, AreTableRows, asked, rows_in}
use Rattle.far_table.proofs.EditsAcceptance.{faultless, edits-left, remove-right, place-below}
use Rattle.far_table.proofs.TableRowsEdits.{cleared-invariant}
use Rattle.far_table.proofs.table_rows.TableRows.remove.Goals as goal

pub clear-requires-after_bounds : goal.clear-requires-after_bounds
clear-requires-after_bounds g c κs within =
    let content = g.S.FarTickets.content in
    let inside = c.self.inside in
    let e = edit.Remove c.args.place in
    let table = rows_in content inside.schema inside.limits inside.rows inside.new_row inside.edits in
    let due : edit_due (asked table) e ≡ None = subst (λ (t : TableRows g.row.S-Ticket.Denot). edit_due (asked t) e ≡ None) (sym c.self.view_is) c.requires in
    place-below (all_cells content inside.rows) inside.rows.alive c.args.place (remove-right inside.schema inside.limits table.places c.args.place (faultless (asked table) e due))

pub invariant_of-self : goal.invariant_of-self
invariant_of-self g c =
    let content = g.S.FarTickets.content in
    let inside = c.self.inside in
    let e = edit.Remove c.args.place in
    let table = rows_in content inside.schema inside.limits inside.rows inside.new_row inside.edits in
    let due : edit_due (asked table) e ≡ None = subst (λ (t : TableRows g.row.S-Ticket.Denot). edit_due (asked t) e ≡ None) (sym c.self.view_is) c.requires in
    let is = c.clear.ensures.cleared in
    subst (λ (rows : Rows g.row.S-Ticket.Denot). AreTableRows content inside.schema inside.limits rows inside.new_row (inside.edits + 1)) (sym is)
    (cleared-invariant content g.S.FarTickets.is_of inside.schema inside.limits inside.rows inside.new_row inside.edits c.self.invariant (edits-left (asked table) e due) c.args.place (ap (places_in content) (sym is) ∙ c.clear.ensures.places))
