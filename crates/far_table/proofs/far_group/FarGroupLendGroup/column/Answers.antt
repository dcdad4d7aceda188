use Rattle.std.proofs.Common.{◌≡◌, true, sym, ap, subst, ◌∙◌}
use Rattle.far_types.specs.declared.spec.Spec.{Spec}
use Rattle.far_types.specs.Bounds.{needs}
use Rattle.far_offload.specs.Columns.{cells_meant}
use Rattle.far_aggregates.specs.Lending.{IsOfPlaces}
use Rattle.far_table.specs.FarGroups.{FarRows, places_there, needs_column}
use Rattle.far_table.proofs.OffloadingTickets.{read-copy, one-read}
use Rattle.far_table.proofs.far_group.FarGroupLendGroup.column.Goals as goal

pub returns-in-Some-clause-cells : goal.returns-in-Some-clause-cells
returns-in-Some-clause-cells g c =
    let content = g.S.FarTickets.content in
    let i = c.self.inside in
    let v = c.self.invariant in
    let wanted : needs i.build.now.job.spec c.args.number ≡ true = ap (λ (s : Spec). needs s c.args.number) (sym v.same_spec) ∙ sym c.needs.ensures ∙ c.if-not-needs.false in
    let read = read-copy content i.rows.now i.build.now.group c.args.number i.build.now.job.tickets i.contents.now v.same_contents (v.copies.tickets c.args.number wanted) c.in-Some.bytes.now c.in-Some.ensures in
    subst (IsOfPlaces (places_there content c.args.self.now)) (sym (c.of_content.ensures.form read.is_form))
    (subst (λ (lent : FarRows g.row.S-Ticket.Denot). IsOfPlaces (places_there content lent) (c.args.number, cells_meant c.in-Some.bytes.now)) c.self.view_is read.cells)

pub returns-in-None-clause-there : goal.returns-in-None-clause-there
returns-in-None-clause-there g c = λ has.
    let content = g.S.FarTickets.content in
    let i = c.self.inside in
    let v = c.self.invariant in
    let wanted : needs i.build.now.job.spec c.args.number ≡ true = ap (λ (lent : FarRows g.row.S-Ticket.Denot). needs_column lent c.args.number) c.self.view_is ∙ has in
    one-read content i.rows.now i.build.now.group c.args.number i.build.now.job.tickets i.contents.now v.same_contents (v.copies.tickets c.args.number wanted) c.in-None.ensures
