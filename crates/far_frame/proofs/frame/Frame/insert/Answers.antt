use Rattle.std.proofs.Common.{◌∙◌, ap, sym, subst, refl, List}
use Rattle.std.proofs.lemmas.Result.{err_from_is_err_and}
use Rattle.far_types.specs.declared.edit.Edit.TheVariants as edit
use Rattle.far_types.specs.declared.limits.Limits.{Limits}
use Rattle.far_types.specs.Cells.{cells_of}
use Rattle.far_types.specs.Edits.{places_after}
use Rattle.far_aggregates.specs.Accumulators.{RegistryEntry, Keeps}
use Rattle.far_table.specs.TableRows.{TableRows}
use Rattle.far_table.specs.Live.{IsLive}
use Rattle.far_frame.specs.Effects.{Accepts}
use Rattle.far_frame.specs.State.{State}
use Rattle.far_frame.specs.declared.step.Step.TheVariants as step
use Rattle.far_frame.specs.declared.step.Reply.TheVariants as reply
use Rattle.far_frame.proofs.LiveEdits.{shown, refuses-due, refuses-memory, keeps-fit, shown-same, same-live, loaded-state, loaded-live, inserted, inserted-live}
use Rattle.far_frame.proofs.frame.Frame.insert.Goals as goal

pub returns-in_err-may_insert-clause-err : goal.returns-in_err-may_insert-clause-err
returns-in_err-may_insert-clause-err g c =
    let p = err_from_is_err_and c.from_residual.result c.from_residual.ensures.1 in
    let rows = c.self.inside.rows in
    let n = c.self.inside.registrations in
    let registry = c.self.inside.aggregates in
    let accesses = c.self.inside.prefetcher in
    let e = c.in_err-may_insert.ensures in
    rw (p.1, p.2) (refuses-due (shown accesses rows n registry) c.args.self.now (shown accesses c.may_insert.new.self n registry) (edit.Insert c.args.row) c.in_err-may_insert.field-0.0 c.self.view_is (loaded-state accesses rows c.may_insert.new.self n registry e.stays) e.refused)

pub apply_deltas-requires-clause-kept : goal.apply_deltas-requires-clause-kept
apply_deltas-requires-clause-kept g c =
    let t = c.may_insert.new.self in
    let n = c.self.inside.registrations in
    let registry = c.self.inside.aggregates in
    let live = loaded-live c.self.inside.rows t n registry c.in_ok-may_insert.ensures.stays c.self.invariant in
    (t.places, keeps-fit t n registry c.limits.result.now c.limits.ensures.same c.limits.ensures.bounds c.len-place.ensures.few c.len-place.ensures.fit live)

pub invariant_of-self-in_err-pending : goal.invariant_of-self-in_err-pending
invariant_of-self-in_err-pending g c =
    let t = c.may_insert.new.self in
    let n = c.self.inside.registrations in
    let registry = c.self.inside.aggregates in
    let live = loaded-live c.self.inside.rows t n registry c.in_ok-may_insert.ensures.stays c.self.invariant in
    let e = c.in_err-pending.ensures in
    same-live t n registry c.apply_deltas.new.self e.registered live (e.unchanged t.limits.group t.places live.kept)

pub returns-in_err-pending-clause-err : goal.returns-in_err-pending-clause-err
returns-in_err-pending-clause-err g c =
    let p = err_from_is_err_and c.from_residual-in_err-pending.result c.from_residual-in_err-pending.ensures.1 in
    let rows = c.self.inside.rows in
    let n = c.self.inside.registrations in
    let registry = c.self.inside.aggregates in
    let accesses = c.self.inside.prefetcher in
    let e = c.in_err-pending.ensures in
    rw (p.1, p.2) (refuses-memory (shown accesses rows n registry) c.args.self.now (shown accesses c.may_insert.new.self n c.apply_deltas.new.self) (edit.Insert c.args.row) _ c.self.view_is
    (shown-same accesses c.may_insert.new.self n registry c.apply_deltas.new.self e.registered ∙ loaded-state accesses rows c.may_insert.new.self n registry c.in_ok-may_insert.ensures.stays)
    c.in_ok-may_insert.ensures.refused refl)

pub invariant_of-self-in-Err : goal.invariant_of-self-in-Err
invariant_of-self-in-Err g c =
    let t = c.may_insert.new.self in
    let n = c.self.inside.registrations in
    let registry = c.self.inside.aggregates in
    let live = loaded-live c.self.inside.rows t n registry c.in_ok-may_insert.ensures.stays c.self.invariant in
    let e = c.in_ok-pending.ensures in
    let kept = subst (λ (now : List RegistryEntry). Keeps t.limits.group t.places now) (sym c.undo.ensures.undo) (e.undo.kept t.limits.group t.places live.kept) in
    subst (λ (rows : TableRows g.row.S-Ticket.Denot). IsLive rows n c.undo.new.self) (sym c.in-Err.ensures.err)
    (same-live t n registry c.undo.new.self (c.undo.ensures.registered ∙ e.registered) live kept)

pub invariant_of-self-2 : goal.invariant_of-self-2
invariant_of-self-2 g c =
    let t = c.may_insert.new.self in
    let rows = c.self.inside.rows in
    let n = c.self.inside.registrations in
    let registry = c.self.inside.aggregates in
    let loaded = c.in_ok-may_insert.ensures in
    let live = loaded-live rows t n registry loaded.stays c.self.invariant in
    let e = c.in_ok-pending.ensures in
    let before = subst (λ (l : Limits). Keeps l.group t.places registry) (sym c.limits.ensures.same) live.kept in
    let applied = e.applied t.places c.args.row (sym c.len-place.ensures.len) (ap cells_of (c.new_row_ref.ensures ∙ loaded.loaded)) before in
    let kept = subst (λ (l : Limits). Keeps l.group (places_after (edit.Insert c.args.row) t.places) c.apply_deltas.new.self) c.limits.ensures.same applied in
    subst (λ (now : List RegistryEntry). IsLive c.push-2.new.self n now) (sym c.end.ensures.same)
    (inserted-live g.S.FarTickets.content rows t c.push-2.new.self c.args.row loaded.stays loaded.loaded c.in_default.ensures.appended n registry c.apply_deltas.new.self e.registered c.self.invariant kept)

pub returns-clause-ok : goal.returns-clause-ok
returns-clause-ok g c =
    let n = c.self.inside.registrations in
    let registry = c.self.inside.aggregates in
    let loaded = c.in_ok-may_insert.ensures in
    let content = g.S.FarTickets.content in
    let accesses = c.self.inside.prefetcher in
    let said = reply.Place c.len-place.result in
    subst (λ (now : List RegistryEntry). Accepts content c.args.self.now (step.Edit (edit.Insert c.args.row)) said (shown accesses c.push-2.new.self n now)) (sym c.end.ensures.same)
    (subst (λ (s : State g.row.S-Ticket.Denot). Accepts content s (step.Edit (edit.Insert c.args.row)) said (shown accesses c.push-2.new.self n c.apply_deltas.new.self)) c.self.view_is
    (inserted content c.self.inside.rows c.may_insert.new.self c.push-2.new.self c.args.row loaded.stays loaded.loaded c.in_default.ensures.appended accesses n registry c.apply_deltas.new.self c.len-place.result loaded.refused c.in_ok-pending.ensures.registered c.len-place.ensures.len))

pub returns-in_err-push-clause-err : goal.returns-in_err-push-clause-err
returns-in_err-push-clause-err g c =
    let p = err_from_is_err_and c.from_residual-in_err-push.result c.from_residual-in_err-push.ensures.1 in
    let rows = c.self.inside.rows in
    let n = c.self.inside.registrations in
    let registry = c.self.inside.aggregates in
    let accesses = c.self.inside.prefetcher in
    let e = c.in_err-push.ensures in
    rw (p.1, p.2) (refuses-memory (shown accesses rows n registry) c.args.self.now (shown accesses c.push.new.self n registry) (edit.Insert c.args.row) c.in_err-push.field-0.0 c.self.view_is
    (ap (λ (t : TableRows g.row.S-Ticket.Denot). shown accesses t n registry) e.err ∙ loaded-state accesses rows c.may_insert.new.self n registry c.in_ok-may_insert.ensures.stays)
    c.in_ok-may_insert.ensures.refused e.memory)

pub invariant_of-self-then-is_empty : goal.invariant_of-self-then-is_empty
invariant_of-self-then-is_empty g c =
    let t = c.may_insert.new.self in
    let loaded = c.in_ok-may_insert.ensures in
    inserted-live g.S.FarTickets.content c.self.inside.rows t c.push.new.self c.args.row loaded.stays loaded.loaded c.in_ok-push.ensures.appended c.self.inside.registrations c.self.inside.aggregates c.self.inside.aggregates refl c.self.invariant
    (c.is_empty.ensures c.if-is_empty.true t.limits.group (places_after (edit.Insert c.args.row) t.places))

pub returns-then-is_empty-clause-ok : goal.returns-then-is_empty-clause-ok
returns-then-is_empty-clause-ok g c =
    let n = c.self.inside.registrations in
    let registry = c.self.inside.aggregates in
    let loaded = c.in_ok-may_insert.ensures in
    let content = g.S.FarTickets.content in
    let accesses = c.self.inside.prefetcher in
    subst (λ (s : State g.row.S-Ticket.Denot). Accepts content s (step.Edit (edit.Insert c.args.row)) (reply.Place c.len-place.result) (shown accesses c.push.new.self n registry)) c.self.view_is
    (inserted content c.self.inside.rows c.may_insert.new.self c.push.new.self c.args.row loaded.stays loaded.loaded c.in_ok-push.ensures.appended accesses n registry registry c.len-place.result loaded.refused refl c.len-place.ensures.len)
