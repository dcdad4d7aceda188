use Rattle.std.proofs.Common.{◌∙◌, ℕ, ℤ, Some, Option, map, take, length, length-take, ap, sym, arith}
use Rattle.std.proofs.lemmas.Result.{err_from_is_err_and}
use Rattle.far_types.specs.Lent.{int_cell}
use Rattle.far_scopes.specs.Memory.{list_in}
use Rattle.far_scopes.specs.Movement.{Movement}
use Rattle.far_scopes.specs.Refusing.{lend_refusal}
use Rattle.far_rows.proofs.JobsBeginning.{evac-number, evac-text}
use Rattle.far_rows.proofs.RowsGroups.{group-numbers, group-texts}
use Rattle.far_rows.proofs.rows.Rows.group_column.Goals as goal

pub returns-in_err-lend-in-Number-clause-refused :
    goal.returns-in_err-lend-in-Number-clause-refused
returns-in_err-lend-in-Number-clause-refused g c =
    let o = c.in-Number.o in
    let at = c.in_ok-o.ensures.object ∙ ap Some c.in-Number.is in
    let p = err_from_is_err_and c.from_residual-in_err-lend-in-Number.result c.from_residual-in_err-lend-in-Number.ensures.1 in
    rw (p.1, p.2) (c.in_err-lend-in-Number.ensures.refused
    ∙ ap (λ (m : Movement (Option ℤ) g.row.S-Ticket.Denot). lend_refusal m o) c.number_objects.ensures.objects
    ∙ evac-number g.S.FarTickets.content c.args.self.now c.len-len.ensures.rows c.args.column c.args.group o at)

pub slice_bounds-result-end : goal.slice_bounds-result-end
slice_bounds-result-end g c =
    let o = c.in-Number.o in
    let list = c.in_ok-lend-in-Number.field-0.now in
    let at = c.in_ok-o.ensures.object ∙ ap Some c.in-Number.is in
    let here = ap (λ (m : Movement (Option ℤ) g.row.S-Ticket.Denot). list_in m.memory o) (sym c.number_objects.ensures.objects) ∙ c.in_ok-lend-in-Number.ensures.lent in
    let held = group-numbers g.S.FarTickets.content c.args.self.now c.len-len.ensures.rows c.args.column c.args.group o at list here in
    omega (arith, held.enough, ap length c.flags-used.ensures, length-take (length c.flags-used.result.now) list)

pub returns-in_err-lend-in-Text-clause-refused : goal.returns-in_err-lend-in-Text-clause-refused
returns-in_err-lend-in-Text-clause-refused g c =
    let o = c.in-Text.o in
    let at = c.in_ok-o.ensures.object ∙ ap Some c.in-Text.is in
    let p = err_from_is_err_and c.from_residual-in_err-lend-in-Text.result c.from_residual-in_err-lend-in-Text.ensures.1 in
    rw (p.1, p.2) (c.in_err-lend-in-Text.ensures.refused
    ∙ ap (λ (m : Movement ℕ g.row.S-Ticket.Denot). lend_refusal m o) c.text_objects.ensures.objects
    ∙ evac-text g.S.FarTickets.content c.args.self.now c.len-len.ensures.rows c.args.column c.args.group o at)

pub returns-in_ok-lend-in-Number-clause-cells : goal.returns-in_ok-lend-in-Number-clause-cells
returns-in_ok-lend-in-Number-clause-cells g c =
    let o = c.in-Number.o in
    let list = c.in_ok-lend-in-Number.field-0.now in
    let at = c.in_ok-o.ensures.object ∙ ap Some c.in-Number.is in
    let here = ap (λ (m : Movement (Option ℤ) g.row.S-Ticket.Denot). list_in m.memory o) (sym c.number_objects.ensures.objects) ∙ c.in_ok-lend-in-Number.ensures.lent in
    let held = group-numbers g.S.FarTickets.content c.args.self.now c.len-len.ensures.rows c.args.column c.args.group o at list here in
    held.cells ∙ ap (λ n. Some (map int_cell (take n list))) (sym (ap length c.flags-used.ensures))

pub returns-in_ok-lend-in-Text-clause-cells : goal.returns-in_ok-lend-in-Text-clause-cells
returns-in_ok-lend-in-Text-clause-cells g c =
    let o = c.in-Text.o in
    let at = c.in_ok-o.ensures.object ∙ ap Some c.in-Text.is in
    let here = ap (λ (m : Movement ℕ g.row.S-Ticket.Denot). list_in m.memory o) (sym c.text_objects.ensures.objects) ∙ c.in_ok-lend-in-Text.ensures.lent in
    (group-texts g.S.FarTickets.content c.args.self.now c.len-len.ensures.rows c.args.column c.args.group o at c.in_ok-lend-in-Text.field-0.now here).cells
