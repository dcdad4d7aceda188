use Rattle.std.proofs.Common.{◌≡◌, ◌<◌, Bool, List, ◌∷◌, length, map, sym, ap, subst, ◌∙◌}
use Rattle.std.specs.Prelude.{slice_range}
use Rattle.std.specs.List.{flat_map}
use Rattle.std.proofs.lemmas.Result.{IfOk-weaker}
use Rattle.far_types.specs.FirstOf.{first_of}
use Rattle.far_columns.specs.Pieces.{overlapped_groups, pieces_of}
use Rattle.far_columns.specs.Numbers.{Numbers, numbers_in, with_flags}
use Rattle.far_rows.specs.declared.column_index.ColumnIndex.TheVariants as column_index
use Rattle.far_rows.specs.Rows.{Rows}
use Rattle.far_rows.specs.Refusing.{away_at, no_range}
use Rattle.far_rows.specs.Lending.{numbers_of}
use Rattle.far_rows.proofs.LendingNumbers.{pieces-read, range-read, part-refused}
use Rattle.far_rows.proofs.rows.Rows.ints_at.Goals as goal

pub returns-clause-lent : goal.returns-clause-lent
returns-clause-lent g c =
    let column = subst (λ (r : Rows g.row.S-Ticket.Denot). c.args.number < length r.numbers) (sym c.self.view_is) c.requires in
    let part = λ (r : Rows g.row.S-Ticket.Denot). with_flags (pieces_of (numbers_of g.S.FarTickets.content r (column_index.Number c.args.number)) r.size c.args.from c.args.to) (slice_range r.alive c.args.from c.args.to) in
    let numbers = numbers_in g.S.FarTickets.content c.self.inside.number_objects c.index-column.result.now in
    let flags = slice_range c.self.inside.alive c.args.from c.args.to in
    let same = pieces-read g.S.FarTickets.content _ c.self.invariant c.args.number c.args.from c.args.to c.index-column.result.now column c.index-column.ensures flags ∙ ap part c.self.view_is in
    IfOk-weaker c.lend_numbers.result (λ (lents : List (Numbers × List Bool)). lents ≡ with_flags (pieces_of numbers c.index-column.result.now.size c.args.from c.args.to) flags) (λ lents. lents ≡ part c.args.self.now) (λ lents is. is ∙ same) c.lend_numbers.ensures.lent

pub returns-clause-joined : goal.returns-clause-joined
returns-clause-joined g c =
    let column = subst (λ (r : Rows g.row.S-Ticket.Denot). c.args.number < length r.numbers) (sym c.self.view_is) c.requires in
    let part = λ (r : Rows g.row.S-Ticket.Denot). slice_range (numbers_of g.S.FarTickets.content r (column_index.Number c.args.number)) c.args.from c.args.to in
    let numbers = numbers_in g.S.FarTickets.content c.self.inside.number_objects c.index-column.result.now in
    let same = range-read g.S.FarTickets.content _ c.self.invariant c.args.number c.args.from c.args.to c.index-column.result.now column c.index-column.ensures ∙ ap part c.self.view_is in
    IfOk-weaker c.lend_numbers.result (λ (lents : List (Numbers × List Bool)). flat_map (λ lent. lent.0) lents ≡ slice_range numbers c.args.from c.args.to) (λ lents. flat_map (λ lent. lent.0) lents ≡ part c.args.self.now) (λ lents is. is ∙ same) c.lend_numbers.ensures.joined

pub returns-clause-refused : goal.returns-clause-refused
returns-clause-refused g c =
    let column = subst (λ (r : Rows g.row.S-Ticket.Denot). c.args.number < length r.numbers) (sym c.self.view_is) c.requires in
    c.lend_numbers.ensures.refused
    ∙ part-refused g.S.FarTickets.content _ c.self.invariant c.args.number c.args.from c.args.to c.index-column.result.now column c.index-column.ensures
    ∙ ap (λ (r : Rows g.row.S-Ticket.Denot). first_of (no_range r c.args.from c.args.to ∷ map (λ h. away_at r h (column_index.Number c.args.number)) (overlapped_groups r.size c.args.from c.args.to))) c.self.view_is
