use Rattle.std.proofs.Common.{◌≡◌, None, sym, ap, ◌∙◌, subst, arith}
use Rattle.std.proofs.lemmas.Result.{err_from_is_err_and}
use Rattle.far_types.specs.declared.edit.Edit.TheVariants as edit
use Rattle.far_rows.specs.Refusing.{push_refusal}
use Rattle.far_rows.specs.Rows.{Rows, all_cells}
use Rattle.far_rows.specs.ColumnIndexes.{row_of}
use Rattle.far_table.specs.Edits.{MayPush}
use Rattle.far_table.specs.TableRows.{TableRows, asked, rows_in}
use Rattle.far_table.proofs.EditsAcceptance.{faultless, edits-left, row-right}
use Rattle.far_table.proofs.Places.{length-places}
use Rattle.far_table.proofs.TableRowsEdits.{pushed-invariant}
use Rattle.far_table.proofs.table_rows.TableRows.push.Goals as goal

pub push-requires-clause-free : goal.push-requires-clause-free
push-requires-clause-free g c κs within =
    subst (λ (t : TableRows g.row.S-Ticket.Denot). push_refusal g.S.FarTickets.content t.held t.new_row ≡ None) (sym c.self.view_is) c.requires.objects

pub push-requires-clause-few : goal.push-requires-clause-few
push-requires-clause-few g c κs within =
    let content = g.S.FarTickets.content in
    let rows = c.self.inside.rows in
    let inside = c.self.inside in
    let table = rows_in content inside.schema inside.limits rows inside.new_row inside.edits in
    let row = row_of rows.column_indexes inside.new_row in
    let may : MayPush content table = subst (MayPush content) (sym c.self.view_is) c.requires in
    let right = row-right inside.schema inside.limits table.places row (faultless (asked table) (edit.Insert row) may.due) in
    let count = length-places (all_cells content rows) rows.alive in
    let bounds = c.self.invariant.bounds in
    omega (arith, right.few, count, c.self.invariant.few, bounds.places_high)

pub returns-in_err-push-clause-err : goal.returns-in_err-push-clause-err
returns-in_err-push-clause-err g c =
    let p = err_from_is_err_and c.from_residual.result c.from_residual.ensures.1 in
    let inside = c.self.inside in
    rw p.1 (ap (λ (rows : Rows g.row.S-Ticket.Denot). rows_in g.S.FarTickets.content inside.schema inside.limits rows inside.new_row inside.edits) c.in_err-push.ensures.err ∙ c.self.view_is)

pub invariant_of-self-2 : goal.invariant_of-self-2
invariant_of-self-2 g c =
    let content = g.S.FarTickets.content in
    let inside = c.self.inside in
    let old = inside.rows in
    let table = rows_in content inside.schema inside.limits old inside.new_row inside.edits in
    let row = row_of old.column_indexes inside.new_row in
    let may : MayPush content table = subst (MayPush content) (sym c.self.view_is) c.requires in
    let right = row-right inside.schema inside.limits table.places row (faultless (asked table) (edit.Insert row) may.due) in
    let count = length-places (all_cells content old) old.alive in
    let done = c.in_ok-push.ensures in
    pushed-invariant content g.S.FarTickets.is_of inside.schema inside.limits old inside.new_row inside.edits c.self.invariant (edits-left (asked table) (edit.Insert row) may.due) c.push.new.self done.pushed done.kept (λ full. right.few (count ∙ full)) done.places
