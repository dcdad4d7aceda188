use Rattle.std.proofs.Common.{sym, ap, subst, ◌∙◌}
use Rattle.far_scopes.specs.Opening.{no_objects}
use Rattle.far_rows.specs.Rows.{Rows, AreRows}
use Rattle.far_rows.specs.Opening.{empty_rows}
use Rattle.far_rows.proofs.OpeningRows.{rows-are}
use Rattle.far_rows.proofs.rows.Rows.new.Goals as goal

pub invariant_of-result : goal.invariant_of-result
invariant_of-result g c =
    let limits = c.args.limits.now in
    let rows : Rows g.row.S-Ticket.Denot = empty_rows c.args.schema.now limits c.args.number in
    subst (AreRows g.S.FarTickets.content) {x = rows} (sym (λ i. record {
      column_indexes = c.in_ok-columns.ensures.column_indexes i;
      size = limits.group;
      numbers = c.in_ok-columns.ensures.numbers i;
      texts = c.in_ok-columns.ensures.texts i;
      number_objects = (c.in_ok-number_objects.ensures.empty ∙ ap (no_objects c.args.number) c.number_limits.ensures) i;
      text_objects = (c.in_ok-text_objects.ensures.empty ∙ ap (no_objects c.args.number) c.text_limits.ensures) i;
      alive = c.new-3.ensures i;
    })) (rows-are g.S.FarTickets.content c.args.schema.now limits c.args.number c.columns_of.ensures.schema c.requires)
