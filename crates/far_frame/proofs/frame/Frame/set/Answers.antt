use Rattle.std.proofs.Common.{◌∙◌, ap, sym, subst}
use Rattle.std.proofs.lemmas.Result.{err_from_is_err_and}
use Rattle.far_types.specs.declared.edit.Edit.TheVariants as edit
use Rattle.far_aggregates.specs.Accumulators.{Keeps}
use Rattle.far_rows.specs.Setting.{cell_of}
use Rattle.far_table.specs.TableRows.{TableRows}
use Rattle.far_table.specs.Live.{IsLive}
use Rattle.far_frame.specs.Effects.{Accepts}
use Rattle.far_frame.specs.State.{State}
use Rattle.far_frame.specs.declared.step.Step.TheVariants as step
use Rattle.far_frame.specs.declared.step.Reply.TheVariants as reply
use Rattle.far_frame.proofs.LiveEdits.{shown, refuses-due, refuses-memory, shown-same, same-live, made-live, put}
use Rattle.far_frame.proofs.frame.Frame.set.Goals as goal

pub returns-in_err-value-clause-err : goal.returns-in_err-value-clause-err
returns-in_err-value-clause-err g c =
    let p = err_from_is_err_and c.from_residual.result c.from_residual.ensures.1 in
    let before = shown c.self.inside.prefetcher c.self.inside.rows c.self.inside.registrations c.self.inside.aggregates in
    rw (p.1, p.2) (refuses-due before c.args.self.now c.args.self.now (edit.Set c.args.place c.args.column c.args.cell) c.in_err-value.field-0.0 c.self.view_is (sym c.self.view_is) c.in_err-value.ensures.refused)

pub invariant_of-self : goal.invariant_of-self
invariant_of-self g c =
    let t = c.self.inside.rows in
    let n = c.self.inside.registrations in
    let now = c.put_cell.new.aggregates in
    let e = c.in_err-put_cell.ensures in
    let kept = subst (λ (rows : TableRows g.row.S-Ticket.Denot). Keeps rows.limits.group rows.places now) e.err e.kept in
    subst (λ (rows : TableRows g.row.S-Ticket.Denot). IsLive rows n now) (sym e.err) (same-live t n c.self.inside.aggregates now e.registered c.self.invariant kept)

pub returns-in_err-put_cell-clause-err : goal.returns-in_err-put_cell-clause-err
returns-in_err-put_cell-clause-err g c =
    let p = err_from_is_err_and c.from_residual-in_err-put_cell.result c.from_residual-in_err-put_cell.ensures.1 in
    let t = c.self.inside.rows in
    let n = c.self.inside.registrations in
    let registry = c.self.inside.aggregates in
    let now = c.put_cell.new.aggregates in
    let accesses = c.self.inside.prefetcher in
    let e = c.in_err-put_cell.ensures in
    rw (p.1, p.2) (refuses-memory (shown accesses t n registry) c.args.self.now (shown accesses c.put_cell.new.rows n now) (edit.Set c.args.place c.args.column c.args.cell) c.in_err-put_cell.field-0.0 c.self.view_is
    (ap (λ (rows : TableRows g.row.S-Ticket.Denot). shown accesses rows n now) e.err ∙ shown-same accesses t n registry now e.registered)
    c.in_ok-value.ensures.refused e.memory)

pub invariant_of-self-2 : goal.invariant_of-self-2
invariant_of-self-2 g c =
    let e = c.in_ok-put_cell.ensures in
    made-live c.self.inside.rows c.put_cell.new.rows (edit.Set c.args.place c.args.column (cell_of c.in_ok-value.value)) c.self.inside.registrations c.self.inside.aggregates c.put_cell.new.aggregates e.put.made e.registered c.self.invariant e.kept

pub returns-clause-ok : goal.returns-clause-ok
returns-clause-ok g c =
    let n = c.self.inside.registrations in
    let content = g.S.FarTickets.content in
    let accesses = c.self.inside.prefetcher in
    let e = c.in_ok-put_cell.ensures in
    subst (λ (s : State g.row.S-Ticket.Denot). Accepts content s (step.Edit (edit.Set c.args.place c.args.column c.args.cell)) reply.Done (shown accesses c.put_cell.new.rows n c.put_cell.new.aggregates)) c.self.view_is
    (put c.self.inside.rows c.put_cell.new.rows c.args.place c.args.column content c.args.cell c.in_ok-value.value accesses n c.self.inside.aggregates c.put_cell.new.aggregates c.in_ok-value.ensures.cell c.in_ok-value.ensures.free.of_kind e.put c.in_ok-value.ensures.refused e.registered)
