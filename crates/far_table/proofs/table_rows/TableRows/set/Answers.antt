use Rattle.std.proofs.Common.{◌≡◌, ◌+◌, refl, sym, ap, ◌∙◌, subst}
use Rattle.std.specs.Prelude.{IfSome, slice_get}
use Rattle.std.proofs.lemmas.Result.{err_from_is_err_and}
use Rattle.far_types.specs.declared.edit.Edit.TheVariants as edit
use Rattle.far_rows.specs.Rows.{Rows}
use Rattle.far_rows.specs.Setting.{cell_of, kind_in, set_in}
use Rattle.far_table.specs.Edits.{MayPut, IsPut}
use Rattle.far_table.specs.TableRows.{TableRows, asked, rows_in}
use Rattle.far_table.proofs.EditsAcceptance.{edits-left, column_index-of}
use Rattle.far_table.proofs.TableRowsEdits.{set-invariant}
use Rattle.far_table.proofs.table_rows.TableRows.set.Goals as goal

pub returns-in_err-set-clause-err : goal.returns-in_err-set-clause-err
returns-in_err-set-clause-err g c =
    let p = err_from_is_err_and c.from_residual.result c.from_residual.ensures.1 in
    let inside = c.self.inside in
    rw p.1 (ap (λ (rows : Rows g.row.S-Ticket.Denot). rows_in g.S.FarTickets.content inside.schema inside.limits rows inside.new_row inside.edits) c.in_err-set.ensures.err ∙ c.self.view_is)

pub invariant_of-self-2 : goal.invariant_of-self-2
invariant_of-self-2 g c =
    let content = g.S.FarTickets.content in
    let inside = c.self.inside in
    let old = inside.rows in
    let value = c.args.value.now in
    let table = rows_in content inside.schema inside.limits old inside.new_row inside.edits in
    let may : MayPut content table c.args.column c.args.place value = subst (λ (t : TableRows g.row.S-Ticket.Denot). MayPut content t c.args.column c.args.place value) (sym c.self.view_is) c.requires in
    let s = column_index-of (slice_get old.column_indexes c.args.column) (kind_in value) may.of_kind in
    let done = c.in_ok-set.ensures in
    let moved = subst (λ found. IfSome found (λ object_record. c.set.new.self ≡ set_in content old object_record c.args.place value)) s.1 done.set.moved in
    set-invariant content g.S.FarTickets.is_of inside.schema inside.limits old inside.new_row inside.edits c.self.invariant (edits-left (asked table) (edit.Set c.args.place c.args.column (cell_of value)) may.due) c.set.new.self s.0 c.args.column c.args.place value moved done.kept c.fitting-cell.ensures.fits done.places

pub returns-clause-put : goal.returns-clause-put
returns-clause-put g c =
    let content = g.S.FarTickets.content in
    let inside = c.self.inside in
    let done = c.in_ok-set.ensures in
    subst (λ (old : TableRows g.row.S-Ticket.Denot). IsPut content old (rows_in content inside.schema inside.limits c.set.new.self inside.new_row (inside.edits + 1)) c.args.column c.args.place c.args.value.now) c.self.view_is
    record {
      made = record { schema = refl; limits = refl; places = done.places; edits = refl; new_row = refl };
      held = done.set;
      here = done.here;
    }
