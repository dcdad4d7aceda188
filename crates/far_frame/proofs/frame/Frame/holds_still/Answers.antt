use Rattle.std.proofs.Common.{◌≡◌, ℕ, true, false, List, length, sym, ap, subst, ◌∙◌}
use Rattle.std.specs.Prelude.{◌↔◌, IsTrue, IsSomeAnd}
use Rattle.std.specs.Cmp.{booleans_Decides}
use Rattle.std.proofs.lemmas.Slice.Eq.{slice_eq-Decides}
use Rattle.far_types.specs.declared.spec.Spec.{Spec}
use Rattle.far_types.specs.Bounds.{spec_refusal}
use Rattle.far_types.specs.Table.{in_group}
use Rattle.far_rows.specs.Rows.{Rows}
use Rattle.far_aggregates.specs.Aggregates.{aggregate_in}
use Rattle.far_aggregates.specs.Accumulators.{registered_of}
use Rattle.far_table.specs.State.{IsChecked}
use Rattle.far_table.specs.Live.{state_of}
use Rattle.far_rows.specs.Copies.{copy_of}
use Rattle.far_table.specs.Offloading.{Build, HaveOneNumber, ticket_for}
use Rattle.far_table.specs.FarGroups.{AllNeeded, IsCopy}
use Rattle.far_table.proofs.WatchingScans.{an-aggregate, checked-at}
use Rattle.far_frame.proofs.OffloadingMerge.{needed-below, still-alive, tickets-decide, still-copies}
use Rattle.far_frame.proofs.frame.Frame.holds_still.Goals as goal

pub returns-then-eq-clause-exact : goal.returns-then-eq-clause-exact
returns-then-eq-clause-exact g c =
    let t = c.self.inside.rows in
    let registry = c.self.inside.aggregates in
    let b = c.build.inside in
    let spec = c.in-Some.spec.now in
    let held = c.held-held.ensures.held in
    let flags = slice_eq-Decides booleans_Decides c.alive.result.now c.flags.result.now c.eq.result c.eq.ensures in
    let found = an-aggregate (aggregate_in registry b.aggregate) spec c.in-Some.ensures in
    let checked = subst (IsChecked t.schema) found.is (checked-at t.schema (registered_of registry) b.aggregate c.self.invariant.checked) in
    let right = ap (λ (s : Spec). spec_refusal t.schema s) (sym found.same) ∙ checked in
    let below = needed-below c.an_aggregate_is_served_by_the_columns_of_its_schema.ensures t.held t.schema c.held-held.ensures.kinds spec right in
    let number = c.if-build-number.false ∙ c.number.ensures ∙ ap (λ (r : Rows g.row.S-Ticket.Denot). r.number_objects.number) held in
    let same = sym c.spec-2.ensures ∙ c.is_same.ensures.0 c.if-not-is_same.false in
    let alive = sym c.alive.ensures ∙ flags.0 c.if-eq.true ∙ c.flags.ensures ∙ ap (λ (r : Rows g.row.S-Ticket.Denot). in_group r.size b.group r.alive) held in
    let build : Build g.row.S-Ticket.Denot = record { number = b.number; aggregate = b.aggregate; registration = b.registration; group = b.group; job = b.job } in
    let exact = subst (λ (tickets : List (ℕ × g.row.S-Ticket.Denot)). IsTrue c.are_still.result ↔ AllNeeded (length t.held.column_indexes) spec (λ column. HaveOneNumber g.S.FarTickets.number_of (copy_of t.held column b.group) (ticket_for tickets column))) c.tickets.ensures
    (subst (λ (r : Rows g.row.S-Ticket.Denot). IsTrue c.are_still.result ↔ AllNeeded (length r.column_indexes) spec (λ column. HaveOneNumber g.S.FarTickets.number_of (copy_of r column b.group) (ticket_for c.tickets.result.now column))) held c.are_still.ensures.exact) in
    rw (← c.self.view_is, ← c.build.view_is) (tickets-decide g.S.FarTickets.number_of (state_of t c.self.inside.registrations registry) build spec c.in-Some-registration.registration c.are_still.result number c.if-build-registration.false same alive below exact c.in-Some.ensures c.in-Some-registration.ensures (sym c.is_pending_in.ensures ∙ c.if-not-is_pending_in.false))

pub returns-then-eq-clause-copies : goal.returns-then-eq-clause-copies
returns-then-eq-clause-copies g c = λ yes.
    let t = c.self.inside.rows in
    let registry = c.self.inside.aggregates in
    let b = c.build.inside in
    let spec = c.in-Some.spec.now in
    let held = c.held-held.ensures.held in
    let flags = slice_eq-Decides booleans_Decides c.alive.result.now c.flags.result.now c.eq.result c.eq.ensures in
    let found = an-aggregate (aggregate_in registry b.aggregate) spec c.in-Some.ensures in
    let checked = subst (IsChecked t.schema) found.is (checked-at t.schema (registered_of registry) b.aggregate c.self.invariant.checked) in
    let right = ap (λ (s : Spec). spec_refusal t.schema s) (sym found.same) ∙ checked in
    let below = needed-below c.an_aggregate_is_served_by_the_columns_of_its_schema.ensures t.held t.schema c.held-held.ensures.kinds spec right in
    let same = sym c.spec-2.ensures ∙ c.is_same.ensures.0 c.if-not-is_same.false in
    let alive = sym c.alive.ensures ∙ flags.0 c.if-eq.true ∙ c.flags.ensures ∙ ap (λ (r : Rows g.row.S-Ticket.Denot). in_group r.size b.group r.alive) held in
    let build : Build g.row.S-Ticket.Denot = record { number = b.number; aggregate = b.aggregate; registration = b.registration; group = b.group; job = b.job } in
    let copies = subst (λ (tickets : List (ℕ × g.row.S-Ticket.Denot)). AllNeeded (length t.held.column_indexes) spec (λ column. IsSomeAnd (ticket_for tickets column) (IsCopy g.S.FarTickets.content t.held b.group column))) c.tickets.ensures
    (subst (λ (r : Rows g.row.S-Ticket.Denot). AllNeeded (length r.column_indexes) spec (λ column. IsSomeAnd (ticket_for c.tickets.result.now column) (IsCopy g.S.FarTickets.content r b.group column))) held (c.are_still.ensures.copies yes)) in
    rw (← c.self.view_is, ← c.build.view_is) (still-copies g.S.FarTickets.content t.held build spec same alive below copies)

pub returns-else-eq-clause-exact : goal.returns-else-eq-clause-exact
returns-else-eq-clause-exact g c =
    let t = c.self.inside.rows in
    let b = c.build.inside in
    let held = c.held-held.ensures.held in
    let flags = slice_eq-Decides booleans_Decides c.alive.result.now c.flags.result.now c.eq.result c.eq.ensures in
    rw (← c.self.view_is, ← c.build.view_is) (
      (λ yes. absurd (let clash : true ≡ false = sym yes ∙ c.if-eq.false in cc)),
      λ still. flags.1 (c.alive.ensures ∙ still-alive g.S.FarTickets.number_of (state_of t c.self.inside.registrations c.self.inside.aggregates) _ still ∙ sym (c.flags.ensures ∙ ap (λ (r : Rows g.row.S-Ticket.Denot). in_group r.size b.group r.alive) held)),
    )
