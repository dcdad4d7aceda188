use Rattle.std.proofs.Common.{◌≡◌, ◌/◌, ◌<◌, ◌∙◌, List, [], ◌∷◌, Some, length, false, not, refl, sym, ap, arith}
use Rattle.std.specs.Prelude.{is_none, slice_get}
use Rattle.std.specs.Option.{option_map_or}
use Rattle.std.proofs.lemmas.Bool.{lt-ltb}
use Rattle.std.proofs.lemmas.Option.{slice_get_read}
use Rattle.far_types.specs.declared.refusal.Refusal.TheVariants as refusal
use Rattle.far_types.specs.FirstOf.{first_of}
use Rattle.far_rows.specs.declared.column_index.ColumnIndex.{ColumnIndex}
use Rattle.far_rows.specs.Rows.{Rows}
use Rattle.far_rows.specs.Refusing.{absent_at}
use Rattle.far_rows.proofs.rows.Rows.cell.Goals as goal

pub returns-clause-refused : goal.returns-clause-refused
returns-clause-refused g c =
    let r = c.args.self.now in
    let column = c.args.column in
    let place = c.args.place in
    let lookup = c.in-Some.ensures.lookup in
    let column_indexes = c.deref.ensures.value ∙ ap (λ (rows : Rows g.row.S-Ticket.Denot). rows.column_indexes) c.self.view_is in
    let at : slice_get r.column_indexes column ≡ Some c.in-Some.column_index.now =
    sym (ap (λ (ss : List ColumnIndex). slice_get ss column) column_indexes)
    ∙ slice_get_read c.deref.result.now (length c.deref.result.now) column c.in-Some.column_index.now refl lookup.3.0 lookup.1 in
    let below : place < length r.alive = omega (arith, c.if-place-len.false, c.len.ensures, ap (λ (rows : Rows g.row.S-Ticket.Denot). length rows.alive) c.self.view_is) in
    let there = lt-ltb place (length r.alive) below in
    c.cell_in.ensures.refused
    ∙ sym (λ k. first_of ((is_none (at k), refusal.NoColumn) ∷ (not (there k), refusal.NoRow) ∷ option_map_or (absent_at r column (place / r.size)) (at k) (false, refusal.StaleJob) ∷ []))
