use Rattle.std.proofs.Common.{ℕ, List, sym, subst}
use Rattle.far_types.specs.declared.cell.Cell.{Cell}
use Rattle.far_aggregates.specs.Lending.{IsOfPlaces}
use Rattle.far_table.specs.MixedGroups.{MixedRows, IsRead, places_mixed}
use Rattle.far_table.proofs.MixedGroupsReads.{found-read}
use Rattle.far_table.proofs.mixed_group.MixedGroupLendGroup.column.Goals as goal

pub returns-in-Some-clause-cells : goal.returns-in-Some-clause-cells
returns-in-Some-clause-cells g c =
    let content = g.S.FarTickets.content in
    subst (λ (m : MixedRows g.row.S-Ticket.Denot). IsOfPlaces (places_mixed content m) c.in-Some.column) c.self.view_is c.in-Some.ensures.cells

pub returns-in-Some-content_for-clause-cells : goal.returns-in-Some-content_for-clause-cells
returns-in-Some-content_for-clause-cells g c =
    let content = g.S.FarTickets.content in
    let i = c.self.inside in
    let read = found-read (IsRead content i.local) c.args.number i.contents.now c.self.invariant.each c.in-Some-content_for.bytes.now c.in-Some-content_for.ensures in
    subst (λ (m : MixedRows g.row.S-Ticket.Denot). IsOfPlaces (places_mixed content m) c.of_content.result) c.self.view_is
    (subst (λ (column : ℕ × List Cell). IsOfPlaces (places_mixed content record { group = i.local; spec = i.spec.now }) column) (sym (c.of_content.ensures.form read.form)) read.cells)
