use Rattle.std.proofs.Common.{◌≡◌, ◌/◌, [], ◌∷◌, None, sym, ap, ◌∙◌, subst}
use Rattle.std.specs.Prelude.{◌==◌, slice_get}
use Rattle.std.specs.Option.{option_or}
use Rattle.std.proofs.lemmas.Result.{err_from_is_err_and}
use Rattle.far_types.specs.declared.edit.Edit.TheVariants as edit
use Rattle.far_types.specs.declared.refusal.Refusal.TheVariants as refusal
use Rattle.far_types.specs.Edits.{edit_faults}
use Rattle.far_types.specs.FirstOf.{first_of}
use Rattle.far_rows.specs.Refusing.{absents}
use Rattle.far_table.specs.Edits.{edit_due}
use Rattle.far_table.specs.TableRows.{TableRows, asked}
use Rattle.far_table.proofs.EditsRefusals.{remove-due}
use Rattle.far_table.proofs.table_rows.TableRows.may_remove.Goals as goal

pub returns-in_err-row-clause-refused : goal.returns-in_err-row-clause-refused
returns-in_err-row-clause-refused g c =
    let p = err_from_is_err_and c.from_residual-in_err-row.result c.from_residual-in_err-row.ensures.1 in
    let now = c.args.self.now in
    let inside = c.self.inside in
    let e = edit.Remove c.args.place in
    let free : first_of (edit_faults now.schema now.limits now.places e) ≡ None = sym (c.in_ok-living.ensures (slice_get now.places c.args.place) (sym c.is_alive.ensures)) in
    let last = first_of ((now.edits == now.limits.edits, refusal.EditsUsedUp) ∷ []) in
    let due = subst (λ (t : TableRows g.row.S-Ticket.Denot). first_of (edit_faults t.schema t.limits t.places e) ≡ None → option_or (first_of (absents t.held (c.args.place / t.limits.group))) (first_of ((t.edits == t.limits.edits, refusal.EditsUsedUp) ∷ [])) ≡ edit_due (asked t) e) c.self.view_is
    (remove-due g.S.FarTickets.content inside.schema inside.limits inside.rows inside.new_row inside.edits c.self.invariant c.args.place) free in
    rw (p.1, p.2) (ap (λ o. option_or o last) c.in_err-row.ensures.refused ∙ due)

pub returns-in_err-may_count-clause-refused : goal.returns-in_err-may_count-clause-refused
returns-in_err-may_count-clause-refused g c =
    let p = err_from_is_err_and c.from_residual-in_err-may_count.result c.from_residual-in_err-may_count.ensures.1 in
    let now = c.args.self.now in
    let inside = c.self.inside in
    let e = edit.Remove c.args.place in
    let free : first_of (edit_faults now.schema now.limits now.places e) ≡ None = sym (c.in_ok-living.ensures (slice_get now.places c.args.place) (sym c.is_alive.ensures)) in
    let last = first_of ((now.edits == now.limits.edits, refusal.EditsUsedUp) ∷ []) in
    let due = subst (λ (t : TableRows g.row.S-Ticket.Denot). first_of (edit_faults t.schema t.limits t.places e) ≡ None → option_or (first_of (absents t.held (c.args.place / t.limits.group))) (first_of ((t.edits == t.limits.edits, refusal.EditsUsedUp) ∷ [])) ≡ edit_due (asked t) e) c.self.view_is
    (remove-due g.S.FarTickets.content inside.schema inside.limits inside.rows inside.new_row inside.edits c.self.invariant c.args.place) free in
    rw (p.1, p.2) (c.in_err-may_count.ensures ∙ ap (λ o. option_or o last) c.in_ok-row.ensures.refused ∙ due)

pub returns-clause-refused : goal.returns-clause-refused
returns-clause-refused g c =
    let now = c.args.self.now in
    let inside = c.self.inside in
    let e = edit.Remove c.args.place in
    let free : first_of (edit_faults now.schema now.limits now.places e) ≡ None = sym (c.in_ok-living.ensures (slice_get now.places c.args.place) (sym c.is_alive.ensures)) in
    let last = first_of ((now.edits == now.limits.edits, refusal.EditsUsedUp) ∷ []) in
    let due = subst (λ (t : TableRows g.row.S-Ticket.Denot). first_of (edit_faults t.schema t.limits t.places e) ≡ None → option_or (first_of (absents t.held (c.args.place / t.limits.group))) (first_of ((t.edits == t.limits.edits, refusal.EditsUsedUp) ∷ [])) ≡ edit_due (asked t) e) c.self.view_is
    (remove-due g.S.FarTickets.content inside.schema inside.limits inside.rows inside.new_row inside.edits c.self.invariant c.args.place) free in
    c.in_ok-may_count.ensures ∙ ap (λ o. option_or o last) c.in_ok-row.ensures.refused ∙ due
