use Rattle.std.proofs.Common.{rules, ◌≡◌, ℕ, List, map, None, Some, sym, ap, subst, ◌∙◌}
use Rattle.std.specs.Prelude.{slice_get, slice_index_or}
use Rattle.far_types.specs.declared.cell.Cell.{Cell}
use Rattle.far_types.specs.Cells.{cells_of as row_cells}
use Rattle.far_types.specs.Lent.{int_cell, text_cell}
use Rattle.far_codec.specs.TextForm.{texts_meaning}
use Rattle.far_offload.specs.Columns.{cell_of}
use Rattle.far_rows.specs.declared.lent_column.LentColumn.TheVariants as lent
use Rattle.far_rows.specs.Rows.{all_cells}
use Rattle.far_table.specs.Groups.{GroupRows, IsLentOf, places_here}
use Rattle.far_table.proofs.Groups.{lent-cells, form-lent}
use Rattle.far_table.proofs.row_group.RowGroupLendGroup.column.Goals as goal

pub returns-in-Some-Numbers-clause-cells : goal.returns-in-Some-Numbers-clause-cells
returns-in-Some-Numbers-clause-cells g c i place at =
    let content = g.S.FarTickets.content in
    let rows = c.self.inside.rows.now in
    let group : GroupRows g.row.S-Ticket.Denot = record { rows = rows; group = c.self.inside.group } in
    let numbers = c.in-Some-Numbers.numbers in
    let found : slice_index_or c.self.inside.columns c.args.number None ≡ Some (lent.Numbers numbers) = search rules in
    let is = subst (IsLentOf content group c.args.number) found (c.self.invariant.lent c.args.number) in
    let here = ap (λ (lent : GroupRows g.row.S-Ticket.Denot). slice_get (places_here content lent) i) c.self.view_is ∙ at in
    let cells = lent-cells (all_cells content rows) rows.alive rows.size c.self.inside.group c.args.number (map int_cell numbers.now) is.cells i place here in
    subst (λ (column : ℕ × List Cell). Some (cell_of i column) ≡ row_cells place.cells column.0) (sym (c.of_numbers.ensures)) cells

pub returns-in-Some-Form-clause-cells : goal.returns-in-Some-Form-clause-cells
returns-in-Some-Form-clause-cells g c i place at =
    let content = g.S.FarTickets.content in
    let rows = c.self.inside.rows.now in
    let group : GroupRows g.row.S-Ticket.Denot = record { rows = rows; group = c.self.inside.group } in
    let form = c.in-Some-Form.form in
    let found : slice_index_or c.self.inside.columns c.args.number None ≡ Some (lent.Form form) = search rules in
    let is = subst (IsLentOf content group c.args.number) found (c.self.invariant.lent c.args.number) in
    let here = ap (λ (lent : GroupRows g.row.S-Ticket.Denot). slice_get (places_here content lent) i) c.self.view_is ∙ at in
    let cells = lent-cells (all_cells content rows) rows.alive rows.size c.self.inside.group c.args.number (map text_cell (texts_meaning form.now)) is.cells i place here in
    subst (λ (column : ℕ × List Cell). Some (cell_of i column) ≡ row_cells place.cells column.0) (sym (c.of_form.ensures ∙ form-lent c.args.number form.now is.form)) cells
