use Rattle.std.proofs.Common.{Some, ap, ◌∙◌}
use Rattle.std.proofs.lemmas.Result.{err_from_is_err_and}
use Rattle.far_scopes.specs.Refusing.{lend_refusal}
use Rattle.far_rows.specs.Rows.{Rows}
use Rattle.far_rows.proofs.JobsBeginning.{evac-number, evac-text}
use Rattle.far_rows.proofs.rows.Rows.evictable.Goals as goal

pub returns-in_err-here-in-Number-clause-refused :
    goal.returns-in_err-here-in-Number-clause-refused
returns-in_err-here-in-Number-clause-refused g c =
    let o = c.in-Number.o in
    let at = c.in_ok-o.ensures.object ∙ ap Some c.in-Number.is in
    let p = err_from_is_err_and c.from_residual-in_err-here-in-Number.result c.from_residual-in_err-here-in-Number.ensures.1 in
    rw (p.1, p.2) (c.in_err-here-in-Number.ensures
    ∙ ap (λ (r : Rows g.row.S-Ticket.Denot). lend_refusal r.number_objects o) c.self.view_is
    ∙ evac-number g.S.FarTickets.content c.args.self.now c.len-len.ensures.rows c.args.column c.args.group o at)

pub returns-in_err-here-in-Text-clause-refused :
    goal.returns-in_err-here-in-Text-clause-refused
returns-in_err-here-in-Text-clause-refused g c =
    let o = c.in-Text.o in
    let at = c.in_ok-o.ensures.object ∙ ap Some c.in-Text.is in
    let p = err_from_is_err_and c.from_residual-in_err-here-in-Text.result c.from_residual-in_err-here-in-Text.ensures.1 in
    rw (p.1, p.2) (c.in_err-here-in-Text.ensures
    ∙ ap (λ (r : Rows g.row.S-Ticket.Denot). lend_refusal r.text_objects o) c.self.view_is
    ∙ evac-text g.S.FarTickets.content c.args.self.now c.len-len.ensures.rows c.args.column c.args.group o at)
