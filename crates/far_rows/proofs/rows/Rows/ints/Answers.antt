use Rattle.std.proofs.Common.{◌≡◌, Bool, List, length, map, Some, refl, sym, ap, subst, ◌∙◌}
use Rattle.std.specs.Prelude.{option_map, slice_get, slice_range}
use Rattle.std.specs.List.{flat_map}
use Rattle.std.proofs.lemmas.Bool.{ltb-true}
use Rattle.std.proofs.lemmas.Option.{slice_get_read}
use Rattle.std.proofs.lemmas.Result.{IfOk-weaker}
use Rattle.far_types.specs.declared.cell.Cell.{Cell}
use Rattle.far_columns.specs.Numbers.{Numbers}
use Rattle.far_rows.specs.declared.column_index.ColumnIndex.{ColumnIndex}
use Rattle.far_rows.specs.declared.column_index.ColumnIndex.TheVariants as column_index
use Rattle.far_types.specs.Lent.{int_cell}
use Rattle.far_rows.specs.Rows.{Rows, AreRows, all_cells}
use Rattle.far_rows.specs.Lending.{numbers_of}
use Rattle.far_rows.proofs.LendingNumbers.{part-cells, part-due}
use Rattle.far_rows.proofs.rows.Rows.ints.Goals as goal

pub returns-clause-cells : goal.returns-clause-cells
returns-clause-cells g c =
    let column_indexes = c.deref.ensures.value ∙ ap (λ (r : Rows g.row.S-Ticket.Denot). r.column_indexes) c.self.view_is in
    let read = slice_get_read c.deref.result.now (length c.deref.result.now) c.args.column c.in-Some.column_index.now refl (ltb-true _ _ (sym c.in-Some.ensures.lookup.0)) c.in-Some.ensures.lookup.1 in
    let lies = sym (ap (λ (ss : List ColumnIndex). slice_get ss c.args.column) column_indexes) ∙ read ∙ ap Some c.in-Number.is in
    let numbers = numbers_of g.S.FarTickets.content c.args.self.now (column_index.Number c.in-Number.number) in
    IfOk-weaker c.ints_at.result
    (λ (lents : List (Numbers × List Bool)). flat_map (λ lent. lent.0) lents ≡ slice_range numbers c.args.from c.args.to)
    (λ lents. option_map (λ (cells : List Cell). slice_range cells c.args.from c.args.to) (slice_get (all_cells g.S.FarTickets.content c.args.self.now) c.args.column) ≡ Some (map int_cell (flat_map (λ lent. lent.0) lents)))
    (λ lents is. part-cells g.S.FarTickets.content c.args.self.now c.args.column c.in-Number.number c.args.from c.args.to lies (flat_map (λ lent. lent.0) lents) is)
    c.ints_at.ensures.joined

pub returns-clause-refused : goal.returns-clause-refused
returns-clause-refused g c =
    let column_indexes = c.deref.ensures.value ∙ ap (λ (r : Rows g.row.S-Ticket.Denot). r.column_indexes) c.self.view_is in
    let read = slice_get_read c.deref.result.now (length c.deref.result.now) c.args.column c.in-Some.column_index.now refl (ltb-true _ _ (sym c.in-Some.ensures.lookup.0)) c.in-Some.ensures.lookup.1 in
    let lies = sym (ap (λ (ss : List ColumnIndex). slice_get ss c.args.column) column_indexes) ∙ read ∙ ap Some c.in-Number.is in
    c.ints_at.ensures.refused ∙ sym (part-due g.S.FarTickets.content c.args.self.now c.args.column c.in-Number.number c.args.from c.args.to lies (subst (AreRows g.S.FarTickets.content) c.self.view_is c.self.invariant))
