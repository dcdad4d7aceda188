use Rattle.std.proofs.Common.{◌<◌, [], ◌∷◌, length, sym, ap, subst, ◌∙◌}
use Rattle.far_types.specs.FirstOf.{first_of}
use Rattle.far_rows.specs.declared.column_index.ColumnIndex.{ColumnIndex}
use Rattle.far_rows.specs.declared.column_index.ColumnIndex.TheVariants as column_index
use Rattle.far_rows.specs.ColumnIndexes.{IsColumnIn}
use Rattle.far_rows.specs.Rows.{Rows}
use Rattle.far_rows.specs.Refusing.{away_at}
use Rattle.far_rows.proofs.RowsReading.{text-column, absent-number, absent-text}
use Rattle.far_rows.proofs.rows.Rows.is_here.Goals as goal

pub texts_are_here-requires-after_bounds : goal.texts_are_here-requires-after_bounds
texts_are_here-requires-after_bounds g c κs within =
    let there = subst (λ (r : Rows g.row.S-Ticket.Denot). c.in-Text.text < length r.texts) (sym c.self.view_is) (subst (IsColumnIn (length c.args.self.now.numbers) (length c.args.self.now.texts)) c.in-Text.is c.requires) in
    text-column g.S.FarTickets.content _ c.self.invariant c.in-Text.text c.index-in-Text.result.now there c.index-in-Text.ensures

pub returns-in-Number : goal.returns-in-Number
returns-in-Number g c =
    let there = subst (λ (r : Rows g.row.S-Ticket.Denot). c.in-Number.number < length r.numbers) (sym c.self.view_is) (subst (IsColumnIn (length c.args.self.now.numbers) (length c.args.self.now.texts)) c.in-Number.is c.requires) in
    c.numbers_are_here.ensures
    ∙ ap (λ case. first_of (case ∷ [])) (sym (absent-number g.S.FarTickets.content _ c.self.invariant c.args.group c.in-Number.number c.index.result.now there c.index.ensures))
    ∙ ap (λ (r : Rows g.row.S-Ticket.Denot). first_of (away_at r c.args.group (column_index.Number c.in-Number.number) ∷ [])) c.self.view_is
    ∙ ap (λ (s : ColumnIndex). first_of (away_at c.args.self.now c.args.group s ∷ [])) (sym c.in-Number.is)

pub returns-in-Text : goal.returns-in-Text
returns-in-Text g c =
    let there = subst (λ (r : Rows g.row.S-Ticket.Denot). c.in-Text.text < length r.texts) (sym c.self.view_is) (subst (IsColumnIn (length c.args.self.now.numbers) (length c.args.self.now.texts)) c.in-Text.is c.requires) in
    c.texts_are_here.ensures
    ∙ ap (λ case. first_of (case ∷ [])) (sym (absent-text g.S.FarTickets.content _ c.self.invariant c.args.group c.in-Text.text c.index-in-Text.result.now there c.index-in-Text.ensures))
    ∙ ap (λ (r : Rows g.row.S-Ticket.Denot). first_of (away_at r c.args.group (column_index.Text c.in-Text.text) ∷ [])) c.self.view_is
    ∙ ap (λ (s : ColumnIndex). first_of (away_at c.args.self.now c.args.group s ∷ [])) (sym c.in-Text.is)
