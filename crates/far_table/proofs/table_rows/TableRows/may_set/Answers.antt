use Rattle.std.proofs.Common.{◌≡◌, List, [], ◌∷◌, Some, true, false, sym, ap, subst, ◌∙◌}
use Rattle.std.specs.Prelude.{◌==◌, is_none, option_map, slice_get}
use Rattle.std.specs.Option.{option_or}
use Rattle.std.proofs.lemmas.Option.{slice_get-map}
use Rattle.std.proofs.lemmas.Result.{err_from_is_err_and}
use Rattle.far_types.specs.declared.cell.Cell.{Cell}
use Rattle.far_types.specs.declared.cell.Kind.{Kind}
use Rattle.far_types.specs.declared.edit.Edit.TheVariants as edit
use Rattle.far_types.specs.declared.refusal.Refusal.TheVariants as refusal
use Rattle.far_types.specs.Cells.{is_too_long}
use Rattle.far_types.specs.Edits.{edit_faults}
use Rattle.far_types.specs.FirstOf.{first_of}
use Rattle.far_types.specs.Table.{Place}
use Rattle.far_rows.specs.Places.{places_in}
use Rattle.far_rows.specs.Rows.{all_cells}
use Rattle.far_rows.specs.ColumnIndexes.{kind_of}
use Rattle.far_table.specs.Edits.{MayPut, edit_due, obstacles}
use Rattle.far_table.specs.TableRows.{TableRows, asked, rows_in}
use Rattle.far_table.proofs.EditsSetRefusals.{set-due}
use Rattle.far_table.proofs.EditsAcceptance.{cell-right, kind-right, place-below, column_index-of}
use Rattle.far_table.proofs.FirstOfLaws.{refused-first}
use Rattle.far_table.proofs.table_rows.TableRows.may_set.Goals as goal

pub returns-in_err-cell_faults-clause-refused : goal.returns-in_err-cell_faults-clause-refused
returns-in_err-cell_faults-clause-refused g c =
    let p = err_from_is_err_and c.from_residual.result c.from_residual.ensures.1 in
    let content = g.S.FarTickets.content in
    let inside = c.self.inside in
    let places = places_in content inside.rows in
    let alive = ap (λ (t : TableRows g.row.S-Ticket.Denot). option_map (λ (p : Place). p.alive) (slice_get t.places c.args.place)) c.self.view_is ∙ sym c.is_alive.ensures in
    let e = edit.Set c.args.place c.args.column c.args.cell in
    let table = rows_in content inside.schema inside.limits inside.rows inside.new_row inside.edits in
    let answered = refused-first (edit_faults inside.schema inside.limits places e) (obstacles (asked table) e) c.in_err-cell_faults.field-0.0 (sym (c.in_err-cell_faults.ensures inside.limits places c.args.place alive)) in
    rw (p.1, p.2) (sym answered ∙ ap (λ (t : TableRows g.row.S-Ticket.Denot). edit_due (asked t) e) c.self.view_is)

pub unreachable-requires : goal.unreachable-requires
unreachable-requires g c =
    let content = g.S.FarTickets.content in
    let inside = c.self.inside in
    let places = places_in content inside.rows in
    let alive = ap (λ (t : TableRows g.row.S-Ticket.Denot). option_map (λ (p : Place). p.alive) (slice_get t.places c.args.place)) c.self.view_is ∙ sym c.is_alive.ensures in
    let free = sym (c.in_ok-cell_faults.ensures inside.limits places c.args.place alive) in
    let right = cell-right inside.schema inside.limits places c.args.place c.args.column c.args.cell free in
    let none : true ≡ false = ap is_none c.in_default.ensures ∙ right.column in
    cc

pub new-value-requires : goal.new-value-requires
new-value-requires g c =
    let content = g.S.FarTickets.content in
    let inside = c.self.inside in
    let places = places_in content inside.rows in
    let alive = ap (λ (t : TableRows g.row.S-Ticket.Denot). option_map (λ (p : Place). p.alive) (slice_get t.places c.args.place)) c.self.view_is ∙ sym c.is_alive.ensures in
    let free = sym (c.in_ok-cell_faults.ensures inside.limits places c.args.place alive) in
    let right = cell-right inside.schema inside.limits places c.args.place c.args.column c.args.cell free in
    kind-right inside.schema c.args.column c.args.cell c.in-Some.kind right.of_kind (sym c.in-Some.ensures)

pub may_set-requires-clause-place : goal.may_set-requires-clause-place
may_set-requires-clause-place g c κs within =
    let content = g.S.FarTickets.content in
    let inside = c.self.inside in
    let places = places_in content inside.rows in
    let alive = ap (λ (t : TableRows g.row.S-Ticket.Denot). option_map (λ (p : Place). p.alive) (slice_get t.places c.args.place)) c.self.view_is ∙ sym c.is_alive.ensures in
    let free = sym (c.in_ok-cell_faults.ensures inside.limits places c.args.place alive) in
    let right = cell-right inside.schema inside.limits places c.args.place c.args.column c.args.cell free in
    place-below (all_cells content inside.rows) inside.rows.alive c.args.place right.place

pub may_set-requires-clause-of_kind : goal.may_set-requires-clause-of_kind
may_set-requires-clause-of_kind g c κs within =
    let inside = c.self.inside in
    let kind : option_map kind_of (slice_get inside.rows.column_indexes c.args.column) ≡ Some c.in-Some.kind = sym (slice_get-map kind_of inside.rows.column_indexes c.args.column) ∙ ap (λ (kinds : List Kind). slice_get kinds c.args.column) c.self.invariant.kinds ∙ sym c.in-Some.ensures in
    kind ∙ ap Some (sym c.new-value.ensures.kind)

pub may_set-requires-clause-short : goal.may_set-requires-clause-short
may_set-requires-clause-short g c κs within =
    let content = g.S.FarTickets.content in
    let inside = c.self.inside in
    let places = places_in content inside.rows in
    let alive = ap (λ (t : TableRows g.row.S-Ticket.Denot). option_map (λ (p : Place). p.alive) (slice_get t.places c.args.place)) c.self.view_is ∙ sym c.is_alive.ensures in
    let free = sym (c.in_ok-cell_faults.ensures inside.limits places c.args.place alive) in
    let right = cell-right inside.schema inside.limits places c.args.place c.args.column c.args.cell free in
    ap is_too_long c.new-value.ensures.cell ∙ right.short

pub returns-in_err-may_set-clause-refused : goal.returns-in_err-may_set-clause-refused
returns-in_err-may_set-clause-refused g c =
    let p = err_from_is_err_and c.from_residual-in_err-may_set.result c.from_residual-in_err-may_set.ensures.1 in
    let content = g.S.FarTickets.content in
    let inside = c.self.inside in
    let places = places_in content inside.rows in
    let alive = ap (λ (t : TableRows g.row.S-Ticket.Denot). option_map (λ (p : Place). p.alive) (slice_get t.places c.args.place)) c.self.view_is ∙ sym c.is_alive.ensures in
    let free = sym (c.in_ok-cell_faults.ensures inside.limits places c.args.place alive) in
    let right = cell-right inside.schema inside.limits places c.args.place c.args.column c.args.cell free in
    let kind : option_map kind_of (slice_get inside.rows.column_indexes c.args.column) ≡ Some c.in-Some.kind = sym (slice_get-map kind_of inside.rows.column_indexes c.args.column) ∙ ap (λ (kinds : List Kind). slice_get kinds c.args.column) c.self.invariant.kinds ∙ sym c.in-Some.ensures in
    let s = column_index-of (slice_get inside.rows.column_indexes c.args.column) c.in-Some.kind kind in
    let below = place-below (all_cells content inside.rows) inside.rows.alive c.args.place right.place in
    let due = set-due content inside.schema inside.limits inside.rows inside.new_row inside.edits c.self.invariant c.len-len.ensures.rows c.args.column c.args.place c.new-value.result s.0 s.1 below c.args.cell c.new-value.ensures.cell free in
    let last = first_of ((inside.edits == inside.limits.edits, refusal.EditsUsedUp) ∷ []) in
    let observed = ap (λ (t : TableRows g.row.S-Ticket.Denot). edit_due (asked t) (edit.Set c.args.place c.args.column c.args.cell)) c.self.view_is in
    rw (p.1, p.2) (ap (λ o. option_or o last) (c.in_err-may_set.ensures.plain inside.limits c.self.invariant.layout) ∙ due ∙ observed)

pub returns-in_err-may_count-clause-refused : goal.returns-in_err-may_count-clause-refused
returns-in_err-may_count-clause-refused g c =
    let p = err_from_is_err_and c.from_residual-in_err-may_count.result c.from_residual-in_err-may_count.ensures.1 in
    let content = g.S.FarTickets.content in
    let inside = c.self.inside in
    let places = places_in content inside.rows in
    let alive = ap (λ (t : TableRows g.row.S-Ticket.Denot). option_map (λ (p : Place). p.alive) (slice_get t.places c.args.place)) c.self.view_is ∙ sym c.is_alive.ensures in
    let free = sym (c.in_ok-cell_faults.ensures inside.limits places c.args.place alive) in
    let right = cell-right inside.schema inside.limits places c.args.place c.args.column c.args.cell free in
    let kind : option_map kind_of (slice_get inside.rows.column_indexes c.args.column) ≡ Some c.in-Some.kind = sym (slice_get-map kind_of inside.rows.column_indexes c.args.column) ∙ ap (λ (kinds : List Kind). slice_get kinds c.args.column) c.self.invariant.kinds ∙ sym c.in-Some.ensures in
    let s = column_index-of (slice_get inside.rows.column_indexes c.args.column) c.in-Some.kind kind in
    let below = place-below (all_cells content inside.rows) inside.rows.alive c.args.place right.place in
    let due = set-due content inside.schema inside.limits inside.rows inside.new_row inside.edits c.self.invariant c.len-len.ensures.rows c.args.column c.args.place c.new-value.result s.0 s.1 below c.args.cell c.new-value.ensures.cell free in
    let last = first_of ((inside.edits == inside.limits.edits, refusal.EditsUsedUp) ∷ []) in
    let observed = ap (λ (t : TableRows g.row.S-Ticket.Denot). edit_due (asked t) (edit.Set c.args.place c.args.column c.args.cell)) c.self.view_is in
    let used = sym (ap (λ (t : TableRows g.row.S-Ticket.Denot). first_of ((t.edits == t.limits.edits, refusal.EditsUsedUp) ∷ [])) c.self.view_is) in
    rw (p.1, p.2) (c.in_err-may_count.ensures ∙ used ∙ ap (λ o. option_or o last) (c.in_ok-may_set.ensures.plain inside.limits c.self.invariant.layout) ∙ due ∙ observed)

pub returns-clause-refused : goal.returns-clause-refused
returns-clause-refused g c =
    let content = g.S.FarTickets.content in
    let inside = c.self.inside in
    let places = places_in content inside.rows in
    let alive = ap (λ (t : TableRows g.row.S-Ticket.Denot). option_map (λ (p : Place). p.alive) (slice_get t.places c.args.place)) c.self.view_is ∙ sym c.is_alive.ensures in
    let free = sym (c.in_ok-cell_faults.ensures inside.limits places c.args.place alive) in
    let right = cell-right inside.schema inside.limits places c.args.place c.args.column c.args.cell free in
    let kind : option_map kind_of (slice_get inside.rows.column_indexes c.args.column) ≡ Some c.in-Some.kind = sym (slice_get-map kind_of inside.rows.column_indexes c.args.column) ∙ ap (λ (kinds : List Kind). slice_get kinds c.args.column) c.self.invariant.kinds ∙ sym c.in-Some.ensures in
    let s = column_index-of (slice_get inside.rows.column_indexes c.args.column) c.in-Some.kind kind in
    let below = place-below (all_cells content inside.rows) inside.rows.alive c.args.place right.place in
    let due = set-due content inside.schema inside.limits inside.rows inside.new_row inside.edits c.self.invariant c.len-len.ensures.rows c.args.column c.args.place c.new-value.result s.0 s.1 below c.args.cell c.new-value.ensures.cell free in
    let last = first_of ((inside.edits == inside.limits.edits, refusal.EditsUsedUp) ∷ []) in
    let observed = ap (λ (t : TableRows g.row.S-Ticket.Denot). edit_due (asked t) (edit.Set c.args.place c.args.column c.args.cell)) c.self.view_is in
    let used = sym (ap (λ (t : TableRows g.row.S-Ticket.Denot). first_of ((t.edits == t.limits.edits, refusal.EditsUsedUp) ∷ [])) c.self.view_is) in
    c.in_ok-may_count.ensures ∙ used ∙ ap (λ o. option_or o last) (c.in_ok-may_set.ensures.plain inside.limits c.self.invariant.layout) ∙ due ∙ observed

pub returns-clause-free : goal.returns-clause-free
returns-clause-free g c =
    let content = g.S.FarTickets.content in
    let inside = c.self.inside in
    let places = places_in content inside.rows in
    let alive = ap (λ (t : TableRows g.row.S-Ticket.Denot). option_map (λ (p : Place). p.alive) (slice_get t.places c.args.place)) c.self.view_is ∙ sym c.is_alive.ensures in
    let free = sym (c.in_ok-cell_faults.ensures inside.limits places c.args.place alive) in
    let right = cell-right inside.schema inside.limits places c.args.place c.args.column c.args.cell free in
    let kind : option_map kind_of (slice_get inside.rows.column_indexes c.args.column) ≡ Some c.in-Some.kind = sym (slice_get-map kind_of inside.rows.column_indexes c.args.column) ∙ ap (λ (kinds : List Kind). slice_get kinds c.args.column) c.self.invariant.kinds ∙ sym c.in-Some.ensures in
    let s = column_index-of (slice_get inside.rows.column_indexes c.args.column) c.in-Some.kind kind in
    let below = place-below (all_cells content inside.rows) inside.rows.alive c.args.place right.place in
    let due = set-due content inside.schema inside.limits inside.rows inside.new_row inside.edits c.self.invariant c.len-len.ensures.rows c.args.column c.args.place c.new-value.result s.0 s.1 below c.args.cell c.new-value.ensures.cell free in
    let last = first_of ((inside.edits == inside.limits.edits, refusal.EditsUsedUp) ∷ []) in
    let used = sym (ap (λ (t : TableRows g.row.S-Ticket.Denot). first_of ((t.edits == t.limits.edits, refusal.EditsUsedUp) ∷ [])) c.self.view_is) in
    let table = rows_in content inside.schema inside.limits inside.rows inside.new_row inside.edits in
    let none = c.in_ok-may_count.ensures ∙ used ∙ ap (λ o. option_or o last) (c.in_ok-may_set.ensures.plain inside.limits c.self.invariant.layout) ∙ due in
    subst (λ (t : TableRows g.row.S-Ticket.Denot). MayPut content t c.args.column c.args.place c.new-value.result) c.self.view_is
    record {
      of_kind = kind ∙ ap Some (sym c.new-value.ensures.kind);
      due = ap (λ (cell : Cell). edit_due (asked table) (edit.Set c.args.place c.args.column cell)) c.new-value.ensures.cell ∙ sym none;
      objects = sym c.in_ok-may_set.ensures.refused;
    }
