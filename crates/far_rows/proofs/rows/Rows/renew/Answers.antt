use Rattle.std.proofs.Common.{◌≡◌, length, sym, ap, subst, ◌∙◌}
use Rattle.far_scopes.specs.Renewal.{AreTicketsHere}
use Rattle.far_rows.specs.Naming.{names_of}
use Rattle.far_rows.specs.Rows.{Rows, all_cells}
use Rattle.far_rows.proofs.RenewalLaws.{renewed-named, rows-renewed, renewed-cells}
use Rattle.far_rows.proofs.rows.Rows.renew.Goals as goal

pub invariant_of-result : goal.invariant_of-result
invariant_of-result g c =
    let tickets = c.renewal.inside in
    let number_same_length : length tickets.numbers ≡ length c.self.inside.number_objects.records = subst (λ rows. length tickets.numbers ≡ length rows.number_objects.records) (sym c.self.view_is) (subst (λ t. length t.numbers ≡ length c.args.self.number_objects.records) (sym c.renewal.view_is) c.requires.numbers.same_length) in
    let text_same_length : length tickets.texts ≡ length c.self.inside.text_objects.records = subst (λ rows. length tickets.texts ≡ length rows.text_objects.records) (sym c.self.view_is) (subst (λ t. length t.texts ≡ length c.args.self.text_objects.records) (sym c.renewal.view_is) c.requires.texts.same_length) in
    rows-renewed g.S.FarTickets.content g.N.FarTickets.content _ c.renew.result c.renew-2.result c.renew.ensures.lists c.renew-2.ensures.lists c.self.invariant
    (ap names_of c.renew.ensures.renewed ∙ renewed-named c.self.inside.number_objects tickets.numbers number_same_length) c.renew.ensures.clean
    (ap names_of c.renew-2.ensures.renewed ∙ renewed-named c.self.inside.text_objects tickets.texts text_same_length) c.renew-2.ensures.clean

pub returns-clause-cells : goal.returns-clause-cells
returns-clause-cells g c =
    let old : Rows g.row.S-Ticket.Denot = record { column_indexes = c.self.inside.column_indexes.items; size = c.self.inside.size; numbers = c.self.inside.numbers.items; texts = c.self.inside.texts.items; number_objects = c.self.inside.number_objects; text_objects = c.self.inside.text_objects; alive = c.self.inside.alive } in
    renewed-cells g.S.FarTickets.content g.N.FarTickets.content old c.renew.result c.renew-2.result c.renew.ensures.lists c.renew-2.ensures.lists ∙ ap (all_cells g.S.FarTickets.content) c.self.view_is

pub returns-clause-store : goal.returns-clause-store
returns-clause-store g c = λ id here. record {
  numbers = c.renew.ensures.store id (subst (λ t. AreTicketsHere g.N.FarTickets.is_of id t.numbers) (sym c.renewal.view_is) here.numbers);
  texts = c.renew-2.ensures.store id (subst (λ t. AreTicketsHere g.N.FarTickets.is_of id t.texts) (sym c.renewal.view_is) here.texts);
}
