use Rattle.std.proofs.Common.{◌≡◌, ◌*◌, ◌<◌, ◌≤◌, length, refl, sym, ap, subst, ◌∙◌, arith}
use Rattle.std.proofs.lemmas.List.{length-map}
use Rattle.std.proofs.lemmas.Result.{err_from_is_err_and}
use Rattle.far_rows.specs.Jobs.{evac_refusal}
use Rattle.far_rows.specs.Rows.{Rows, AreRows, all_cells}
use Rattle.far_rows.specs.ColumnIndexes.{kind_of}
use Rattle.far_table.specs.TableRows.{TableRows}
use Rattle.far_table.proofs.WatchingColumns.{begun-at, none-left, step-past, step-here, step-away}
use Rattle.far_table.proofs.Places.{length-places}
use Rattle.far_table.proofs.table_rows.TableRows.may_scan.Goals.{then-needs+in_ok-group_column, else-needs}
use Rattle.far_table.proofs.table_rows.TableRows.may_scan.Goals as goal

pub loop-column-init : goal.loop-column-init
loop-column-init g c = refl

pub returns-in_err-group_column : goal.returns-in_err-group_column
returns-in_err-group_column g c =
    let p = err_from_is_err_and c.from_residual.result c.from_residual.ensures.1 in
    let content = g.S.FarTickets.content in
    let inside = c.self.inside in
    let held = c.args.self.now.held in
    let same : inside.rows ≡ held = ap (λ (t : TableRows g.row.S-Ticket.Denot). t.held) c.self.view_is in
    let are : AreRows content held = subst (AreRows content) same c.len-len.ensures.rows in
    let count = ap (λ (r : Rows g.row.S-Ticket.Denot). length r.column_indexes) same in
    let schema = ap length c.self.invariant.kinds in
    let kinds = length-map inside.rows.column_indexes kind_of in
    let size = c.self.invariant.layout.group ∙ ap (λ (t : TableRows g.row.S-Ticket.Denot). t.limits.group) c.self.view_is in
    let places = sym (length-places (all_cells content inside.rows) inside.rows.alive) ∙ ap (λ (t : TableRows g.row.S-Ticket.Denot). length t.places) c.self.view_is in
    let begun : c.args.group * held.size < length held.alive = begun-at c.args.group inside.rows held same c.args.self.now.limits.group (length c.args.self.now.places) size places c.requires in
    let below : c.loop-column.column < length held.column_indexes = omega (arith, c.loop-column-test.true, c.len-column-end.ensures.len, schema, kinds, count) in
    let away = c.in_err-group_column.ensures.refused ∙ ap (λ (r : Rows g.row.S-Ticket.Denot). evac_refusal r c.loop-column.column c.args.group) same in
    rw (p.1, p.2) (sym (c.loop-column.invariant ∙ step-away content held are c.args.spec.now c.args.group begun c.loop-column.column c.in_err-group_column.field-0.0 below (sym c.needs.ensures ∙ c.if-needs.true) away))

pub loop-column-preserved : goal.loop-column-preserved
loop-column-preserved g c =
    let content = g.S.FarTickets.content in
    let inside = c.self.inside in
    let held = c.args.self.now.held in
    let same : inside.rows ≡ held = ap (λ (t : TableRows g.row.S-Ticket.Denot). t.held) c.self.view_is in
    let are : AreRows content held = subst (AreRows content) same c.len-len.ensures.rows in
    let count = ap (λ (r : Rows g.row.S-Ticket.Denot). length r.column_indexes) same in
    let schema = ap length c.self.invariant.kinds in
    let kinds = length-map inside.rows.column_indexes kind_of in
    let size = c.self.invariant.layout.group ∙ ap (λ (t : TableRows g.row.S-Ticket.Denot). t.limits.group) c.self.view_is in
    let places = sym (length-places (all_cells content inside.rows) inside.rows.alive) ∙ ap (λ (t : TableRows g.row.S-Ticket.Denot). length t.places) c.self.view_is in
    let begun : c.args.group * held.size < length held.alive = begun-at c.args.group inside.rows held same c.args.self.now.limits.group (length c.args.self.now.places) size places c.requires in
    let below : c.loop-column.column < length held.column_indexes = omega (arith, c.loop-column-test.true, c.len-column-end.ensures.len, schema, kinds, count) in
    c.loop-column.invariant ∙ (elim c.if-needs.branch [
      | then-needs+in_ok-group_column w ↦ step-here content held are c.args.spec.now c.args.group begun c.loop-column.column below (w.in_ok-group_column.ensures.refused ∙ ap (λ (r : Rows g.row.S-Ticket.Denot). evac_refusal r c.loop-column.column c.args.group) same)
      | else-needs w ↦ step-past content held are c.args.spec.now c.args.group begun c.loop-column.column below (sym c.needs.ensures ∙ w.if-needs.false)
    ])

pub returns : goal.returns
returns g c =
    let inside = c.self.inside in
    let held = c.args.self.now.held in
    let same : inside.rows ≡ held = ap (λ (t : TableRows g.row.S-Ticket.Denot). t.held) c.self.view_is in
    let count = ap (λ (r : Rows g.row.S-Ticket.Denot). length r.column_indexes) same in
    let schema = ap length c.self.invariant.kinds in
    let kinds = length-map inside.rows.column_indexes kind_of in
    let past : length held.column_indexes ≤ c.loop-column.column = omega (arith, c.loop-column-test.false, c.len-column-end.ensures.len, schema, kinds, count) in
    sym (c.loop-column.invariant ∙ none-left held c.args.spec.now c.args.group c.loop-column.column past)
