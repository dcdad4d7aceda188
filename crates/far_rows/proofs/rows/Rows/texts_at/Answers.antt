use Rattle.std.proofs.Common.{◌≡◌, ℕ, ◌<◌, Bool, List, ◌∷◌, length, map, Option, sym, ap, subst, ◌∙◌}
use Rattle.std.specs.Prelude.{slice_range, IfOk}
use Rattle.std.specs.List.{zip}
use Rattle.std.proofs.lemmas.Result.{IfOk-weaker}
use Rattle.far_types.specs.FirstOf.{first_of}
use Rattle.far_columns.specs.Pieces.{overlapped_groups}
use Rattle.far_texts.specs.Texts.{lists_of, texts_in}
use Rattle.far_rows.specs.declared.column_index.ColumnIndex.TheVariants as column_index
use Rattle.far_rows.specs.Rows.{Rows}
use Rattle.far_rows.specs.Refusing.{away_at, no_range}
use Rattle.far_rows.specs.Lending.{texts_of}
use Rattle.far_rows.proofs.RowsReading.{text-column}
use Rattle.far_rows.proofs.LendingTexts.{texts-read, lent-values, lent-flags, flags-same_length, part-refused}
use Rattle.far_rows.proofs.rows.Rows.texts_at.Goals as goal

pub texts-requires-clause-is : goal.texts-requires-clause-is
texts-requires-clause-is g c κs bounds =
    let column = subst (λ (r : Rows g.row.S-Ticket.Denot). c.args.text < length r.texts) (sym c.self.view_is) c.requires in
    text-column g.S.FarTickets.content _ c.self.invariant c.args.text c.index-column.result.now column c.index-column.ensures

pub texts-requires-clause-same_length : goal.texts-requires-clause-same_length
texts-requires-clause-same_length g c κs bounds =
    let column = subst (λ (r : Rows g.row.S-Ticket.Denot). c.args.text < length r.texts) (sym c.self.view_is) c.requires in
    rw c.all.ensures (flags-same_length g.S.FarTickets.content _ c.self.invariant c.args.text c.args.from c.args.to c.index-column.result.now column c.index-column.ensures)

pub returns-clause-lent : goal.returns-clause-lent
returns-clause-lent g c =
    let column = subst (λ (r : Rows g.row.S-Ticket.Denot). c.args.text < length r.texts) (sym c.self.view_is) c.requires in
    let part = λ (r : Rows g.row.S-Ticket.Denot). zip (slice_range (texts_of g.S.FarTickets.content r (column_index.Text c.args.text)) c.args.from c.args.to) (slice_range r.alive c.args.from c.args.to) in
    let texts = texts_in (lists_of g.S.FarTickets.content c.self.inside.text_objects) c.index-column.result.now in
    let flags = slice_range c.self.inside.alive c.args.from c.args.to in
    let same = ap (λ (ts : List (Option (List ℕ))). zip (slice_range ts c.args.from c.args.to) flags) (texts-read g.S.FarTickets.content _ c.self.invariant c.args.text c.args.from c.args.to c.index-column.result.now column c.index-column.ensures) ∙ ap part c.self.view_is in
    IfOk-weaker c.texts.result (λ (lent : List (Option (List ℕ) × Bool)). lent ≡ zip (slice_range texts c.args.from c.args.to) flags) (λ lent. lent ≡ part c.args.self.now) (λ lent is. is ∙ same) (subst (λ (alive : List Bool). IfOk c.texts.result (λ (lent : List (Option (List ℕ) × Bool)). lent ≡ zip (slice_range texts c.args.from c.args.to) (slice_range alive c.args.from c.args.to))) c.all.ensures c.texts.ensures.lent)

pub returns-clause-texts : goal.returns-clause-texts
returns-clause-texts g c =
    let column = subst (λ (r : Rows g.row.S-Ticket.Denot). c.args.text < length r.texts) (sym c.self.view_is) c.requires in
    let texts = texts_in (lists_of g.S.FarTickets.content c.self.inside.text_objects) c.index-column.result.now in
    let flags = slice_range c.self.inside.alive c.args.from c.args.to in
    let part = λ (r : Rows g.row.S-Ticket.Denot). slice_range (texts_of g.S.FarTickets.content r (column_index.Text c.args.text)) c.args.from c.args.to in
    IfOk-weaker c.texts.result (λ (lent : List (Option (List ℕ) × Bool)). lent ≡ zip (slice_range texts c.args.from c.args.to) flags) (λ lent. map (λ t. t.0) lent ≡ part c.args.self.now)
    (λ lent is. lent-values g.S.FarTickets.content _ c.self.invariant c.args.text c.args.from c.args.to c.index-column.result.now column c.index-column.ensures c.len-len.ensures.groups lent is ∙ ap part c.self.view_is)
    (subst (λ (alive : List Bool). IfOk c.texts.result (λ (lent : List (Option (List ℕ) × Bool)). lent ≡ zip (slice_range texts c.args.from c.args.to) (slice_range alive c.args.from c.args.to))) c.all.ensures c.texts.ensures.lent)

pub returns-clause-alive : goal.returns-clause-alive
returns-clause-alive g c =
    let column = subst (λ (r : Rows g.row.S-Ticket.Denot). c.args.text < length r.texts) (sym c.self.view_is) c.requires in
    let texts = texts_in (lists_of g.S.FarTickets.content c.self.inside.text_objects) c.index-column.result.now in
    let flags = slice_range c.self.inside.alive c.args.from c.args.to in
    let part = λ (r : Rows g.row.S-Ticket.Denot). slice_range r.alive c.args.from c.args.to in
    IfOk-weaker c.texts.result (λ (lent : List (Option (List ℕ) × Bool)). lent ≡ zip (slice_range texts c.args.from c.args.to) flags) (λ lent. map (λ t. t.1) lent ≡ part c.args.self.now)
    (λ lent is. lent-flags g.S.FarTickets.content _ c.self.invariant c.args.text c.args.from c.args.to c.index-column.result.now column c.index-column.ensures c.len-len.ensures.groups lent is ∙ ap part c.self.view_is)
    (subst (λ (alive : List Bool). IfOk c.texts.result (λ (lent : List (Option (List ℕ) × Bool)). lent ≡ zip (slice_range texts c.args.from c.args.to) (slice_range alive c.args.from c.args.to))) c.all.ensures c.texts.ensures.lent)

pub returns-clause-refused : goal.returns-clause-refused
returns-clause-refused g c =
    let column = subst (λ (r : Rows g.row.S-Ticket.Denot). c.args.text < length r.texts) (sym c.self.view_is) c.requires in
    c.texts.ensures.refused
    ∙ part-refused g.S.FarTickets.content _ c.self.invariant c.args.text c.args.from c.args.to c.index-column.result.now column c.index-column.ensures
    ∙ ap (λ (r : Rows g.row.S-Ticket.Denot). first_of (no_range r c.args.from c.args.to ∷ map (λ h. away_at r h (column_index.Text c.args.text)) (overlapped_groups r.size c.args.from c.args.to))) c.self.view_is
