use Rattle.std.proofs.Common.{◌≡◌, List, [], ◌∷◌, length, map, sym, ap, subst, ◌∙◌, arith}
use Rattle.std.specs.Prelude.{◌==◌}
use Rattle.std.specs.Option.{option_or}
use Rattle.std.proofs.lemmas.List.{length-map}
use Rattle.std.proofs.lemmas.Result.{err_from_is_err_and}
use Rattle.far_types.specs.declared.edit.Edit.TheVariants as edit
use Rattle.far_types.specs.declared.cell.Kind.{Kind}
use Rattle.far_types.specs.declared.refusal.Refusal.TheVariants as refusal
use Rattle.far_types.specs.Cells.{RowFits}
use Rattle.far_types.specs.Edits.{edit_faults, kinds_fit}
use Rattle.far_types.specs.FirstOf.{first_of}
use Rattle.far_rows.specs.declared.column_index.ColumnIndex.{ColumnIndex}
use Rattle.far_rows.specs.Places.{places_in}
use Rattle.far_rows.specs.Rows.{all_cells}
use Rattle.far_rows.specs.ColumnIndexes.{kind_of, row_of}
use Rattle.far_table.specs.Edits.{edit_due, obstacles}
use Rattle.far_table.specs.TableRows.{TableRows, asked, rows_in}
use Rattle.far_table.proofs.EditsRefusals.{insert-due}
use Rattle.far_table.proofs.EditsAcceptance.{row-right}
use Rattle.far_table.proofs.FirstOfLaws.{refused-first}
use Rattle.far_table.proofs.Places.{length-places}
use Rattle.far_table.proofs.TableRowsEdits.{loaded-invariant}
use Rattle.far_table.proofs.RefusingOutcome.{on-ok}
use Rattle.far_table.proofs.table_rows.TableRows.may_insert.Goals as goal

pub returns-in_err-row_faults-clause-refused : goal.returns-in_err-row_faults-clause-refused
returns-in_err-row_faults-clause-refused g c =
    let p = err_from_is_err_and c.from_residual.result c.from_residual.ensures.1 in
    let content = g.S.FarTickets.content in
    let inside = c.self.inside in
    let places = places_in content inside.rows in
    let count = length-places (all_cells content inside.rows) inside.rows.alive ∙ sym c.len-len.ensures.len in
    let e = edit.Insert c.args.row in
    let table = rows_in content inside.schema inside.limits inside.rows inside.new_row inside.edits in
    let answered = refused-first (edit_faults inside.schema inside.limits places e) (obstacles (asked table) e) c.in_err-row_faults.field-0.0 (sym (c.in_err-row_faults.ensures places count)) in
    rw (p.1, p.2) (sym answered ∙ ap (λ (t : TableRows g.row.S-Ticket.Denot). edit_due (asked t) e) c.self.view_is)

pub load-requires-clause-width : goal.load-requires-clause-width
load-requires-clause-width g c =
    let content = g.S.FarTickets.content in
    let inside = c.self.inside in
    let places = places_in content inside.rows in
    let count = length-places (all_cells content inside.rows) inside.rows.alive ∙ sym c.len-len.ensures.len in
    let free = sym (c.in_ok-row_faults.ensures places count) in
    let right = row-right inside.schema inside.limits places c.args.row free in
    let kinds = ap length c.self.invariant.kinds in
    let column_indexes = ap length c.column_indexes.ensures in
    let mapped = length-map inside.rows.column_indexes kind_of in
    omega (arith, right.width, kinds, column_indexes, mapped)

pub load-requires-clause-of_kinds : goal.load-requires-clause-of_kinds
load-requires-clause-of_kinds g c =
    let content = g.S.FarTickets.content in
    let inside = c.self.inside in
    let places = places_in content inside.rows in
    let count = length-places (all_cells content inside.rows) inside.rows.alive ∙ sym c.len-len.ensures.len in
    let free = sym (c.in_ok-row_faults.ensures places count) in
    let right = row-right inside.schema inside.limits places c.args.row free in
    ap (λ (column_indexes : List ColumnIndex). kinds_fit (map kind_of column_indexes) c.args.row) c.column_indexes.ensures
    ∙ ap (λ (kinds : List Kind). kinds_fit kinds c.args.row) c.self.invariant.kinds
    ∙ right.of_kinds

pub load-requires-clause-short : goal.load-requires-clause-short
load-requires-clause-short g c =
    let content = g.S.FarTickets.content in
    let inside = c.self.inside in
    let places = places_in content inside.rows in
    let count = length-places (all_cells content inside.rows) inside.rows.alive ∙ sym c.len-len.ensures.len in
    let free = sym (c.in_ok-row_faults.ensures places count) in
    let right = row-right inside.schema inside.limits places c.args.row free in
    right.short

pub returns-in_err-may_push-clause-refused : goal.returns-in_err-may_push-clause-refused
returns-in_err-may_push-clause-refused g c =
    let p = err_from_is_err_and c.from_residual-in_err-may_push.result c.from_residual-in_err-may_push.ensures.1 in
    let content = g.S.FarTickets.content in
    let inside = c.self.inside in
    let places = places_in content inside.rows in
    let count = length-places (all_cells content inside.rows) inside.rows.alive ∙ sym c.len-len.ensures.len in
    let free = sym (c.in_ok-row_faults.ensures places count) in
    let new_row = c.load.new.self in
    let row : row_of inside.rows.column_indexes new_row ≡ c.args.row = ap (λ (column_indexes : List ColumnIndex). row_of column_indexes new_row) (sym c.column_indexes.ensures) ∙ c.load.ensures.row in
    let kept = loaded-invariant content g.S.FarTickets.is_of inside.schema inside.limits inside.rows inside.new_row inside.edits c.self.invariant new_row c.load.ensures.numbers c.load.ensures.texts (subst RowFits (sym row) c.as_slice-cells.ensures.fit) in
    let due = insert-due content inside.schema inside.limits inside.rows new_row inside.edits kept c.args.row row free in
    let last = first_of ((inside.edits == inside.limits.edits, refusal.EditsUsedUp) ∷ []) in
    let observed = ap (λ (t : TableRows g.row.S-Ticket.Denot). edit_due (asked t) (edit.Insert c.args.row)) c.self.view_is in
    rw (p.1, p.2) (ap (λ o. option_or o last) (c.in_err-may_push.ensures.plain inside.limits c.self.invariant.layout) ∙ due ∙ observed)

pub returns-clause-refused : goal.returns-clause-refused
returns-clause-refused g c =
    let content = g.S.FarTickets.content in
    let inside = c.self.inside in
    let places = places_in content inside.rows in
    let count = length-places (all_cells content inside.rows) inside.rows.alive ∙ sym c.len-len.ensures.len in
    let free = sym (c.in_ok-row_faults.ensures places count) in
    let new_row = c.load.new.self in
    let row : row_of inside.rows.column_indexes new_row ≡ c.args.row = ap (λ (column_indexes : List ColumnIndex). row_of column_indexes new_row) (sym c.column_indexes.ensures) ∙ c.load.ensures.row in
    let kept = loaded-invariant content g.S.FarTickets.is_of inside.schema inside.limits inside.rows inside.new_row inside.edits c.self.invariant new_row c.load.ensures.numbers c.load.ensures.texts (subst RowFits (sym row) c.as_slice-cells.ensures.fit) in
    let due = insert-due content inside.schema inside.limits inside.rows new_row inside.edits kept c.args.row row free in
    let last = first_of ((inside.edits == inside.limits.edits, refusal.EditsUsedUp) ∷ []) in
    let observed = ap (λ (t : TableRows g.row.S-Ticket.Denot). edit_due (asked t) (edit.Insert c.args.row)) c.self.view_is in
    c.may_count.ensures ∙ ap (λ o. option_or o last) (c.in_ok-may_push.ensures.plain inside.limits c.self.invariant.layout) ∙ due ∙ observed

pub returns-clause-free : goal.returns-clause-free
returns-clause-free g c =
    let content = g.S.FarTickets.content in
    let inside = c.self.inside in
    let places = places_in content inside.rows in
    let count = length-places (all_cells content inside.rows) inside.rows.alive ∙ sym c.len-len.ensures.len in
    let free = sym (c.in_ok-row_faults.ensures places count) in
    let new_row = c.load.new.self in
    let row : row_of inside.rows.column_indexes new_row ≡ c.args.row = ap (λ (column_indexes : List ColumnIndex). row_of column_indexes new_row) (sym c.column_indexes.ensures) ∙ c.load.ensures.row in
    let kept = loaded-invariant content g.S.FarTickets.is_of inside.schema inside.limits inside.rows inside.new_row inside.edits c.self.invariant new_row c.load.ensures.numbers c.load.ensures.texts (subst RowFits (sym row) c.as_slice-cells.ensures.fit) in
    let due = insert-due content inside.schema inside.limits inside.rows new_row inside.edits kept c.args.row row free in
    let last = first_of ((inside.edits == inside.limits.edits, refusal.EditsUsedUp) ∷ []) in
    let table = rows_in content inside.schema inside.limits inside.rows new_row inside.edits in
    on-ok c.may_count.result (edit_due (asked table) (edit.Insert c.args.row))
    (c.may_count.ensures ∙ ap (λ o. option_or o last) (c.in_ok-may_push.ensures.plain inside.limits c.self.invariant.layout) ∙ due)
    (λ none. record {
      due = ap (λ cells. edit_due (asked table) (edit.Insert cells)) row ∙ sym none;
      objects = sym c.in_ok-may_push.ensures.refused;
    })
