use Rattle.std.proofs.Common.{ℕ, ◌+◌, List, Option, Some, true, refl, sym, ap, subst, replicate, slice_set, ◌∙◌, arith}
use Rattle.std.proofs.lemmas.Result.{err_from_is_err_and}
use Rattle.far_types.specs.declared.cell.Kind.{Kind}
use Rattle.far_types.specs.declared.limits.Limits.{Limits}
use Rattle.far_types.specs.Bounds.{spec_refusal}
use Rattle.far_types.specs.Table.{Registered, groups}
use Rattle.far_aggregates.specs.Accumulators.{RegistryEntry, Keeps, registered_of}
use Rattle.far_table.specs.Live.{state_of}
use Rattle.far_table.specs.State.{LiveState, AreChecked}
use Rattle.far_table.specs.Watching.{lowest_free, after_register_at, watch_refusal, IsWatched}
use Rattle.far_table.proofs.WatchingLaws.{due, for-memory, watch-wrong, watch-full, watch-used, watch-free, checked-put}
use Rattle.far_frame.specs.State.{State, live, with_accesses}
use Rattle.far_frame.proofs.frame.Frame.watch.Goals as goal

pub returns-in_err-check-clause-err : goal.returns-in_err-check-clause-err
returns-in_err-check-clause-err g c =
    let p = err_from_is_err_and c.from_residual.result c.from_residual.ensures.1 in
    let table = c.args.self.now.table in
    let e = c.in_err-check.field-0.0 in
    let wrong = ap (λ (s : State g.row.S-Ticket.Denot). spec_refusal s.table.schema c.args.spec) (sym c.self.view_is) ∙ ap (λ (kinds : List Kind). spec_refusal kinds c.args.spec) (sym c.schema.ensures) ∙ c.in_err-check.ensures.refused in
    rw (p.1, p.2) (refl, due (watch_refusal table c.args.spec) true e (watch-wrong table c.args.spec e wrong))

pub returns-in_default-clause-err : goal.returns-in_default-clause-err
returns-in_default-clause-err g c =
    let table = c.args.self.now.table in
    let right = ap (λ (s : State g.row.S-Ticket.Denot). spec_refusal s.table.schema c.args.spec) (sym c.self.view_is) ∙ ap (λ (kinds : List Kind). spec_refusal kinds c.args.spec) (sym c.schema.ensures) ∙ c.in_ok-check.ensures.ok in
    let full = ap (λ (s : State g.row.S-Ticket.Denot). lowest_free s.table) (sym c.self.view_is) ∙ sym c.in_default.ensures.number in
    (refl, due (watch_refusal table c.args.spec) true _ (watch-full table c.args.spec right full))

pub returns-then-self-eq4294967296-clause-err : goal.returns-then-self-eq4294967296-clause-err
returns-then-self-eq4294967296-clause-err g c =
    let table = c.args.self.now.table in
    let right = ap (λ (s : State g.row.S-Ticket.Denot). spec_refusal s.table.schema c.args.spec) (sym c.self.view_is) ∙ ap (λ (kinds : List Kind). spec_refusal kinds c.args.spec) (sym c.schema.ensures) ∙ c.in_ok-check.ensures.ok in
    let free = ap (λ (s : State g.row.S-Ticket.Denot). lowest_free s.table) (sym c.self.view_is) ∙ sym c.in-Some.ensures.number in
    let count = ap (λ (s : State g.row.S-Ticket.Denot). s.table.registrations) (sym c.self.view_is) in
    (refl, due (watch_refusal table c.args.spec) true _ (watch-used table c.args.spec right c.in-Some.a free (count ∙ c.if-self-eq4294967296.true)))

pub returns-in_err-register-clause-err : goal.returns-in_err-register-clause-err
returns-in_err-register-clause-err g c =
    let p = err_from_is_err_and c.from_residual-in_err-register.result c.from_residual-in_err-register.ensures.1 in
    let table = c.args.self.now.table in
    let inside = c.self.inside in
    let right = ap (λ (s : State g.row.S-Ticket.Denot). spec_refusal s.table.schema c.args.spec) (sym c.self.view_is) ∙ ap (λ (kinds : List Kind). spec_refusal kinds c.args.spec) (sym c.schema.ensures) ∙ c.in_ok-check.ensures.ok in
    let free = ap (λ (s : State g.row.S-Ticket.Denot). lowest_free s.table) (sym c.self.view_is) ∙ sym c.in-Some.ensures.number in
    let count = ap (λ (s : State g.row.S-Ticket.Denot). s.table.registrations) c.self.view_is in
    let nothing = watch-free table c.args.spec right c.in-Some.a free (λ all. omega (arith, count, c.if-self-eq4294967296.false, all)) in
    rw (p.1, p.2) (
      ap (λ (registry : List RegistryEntry). with_accesses (state_of inside.rows inside.registrations registry) inside.prefetcher) c.in_err-register.ensures.unchanged ∙ c.self.view_is,
      for-memory (watch_refusal table c.args.spec) _ nothing refl,
    )

pub invariant_of-self-2 : goal.invariant_of-self-2
invariant_of-self-2 g c =
    let inside = c.self.inside in
    let rows = inside.rows in
    let same = c.limits.ensures.same in
    let done = c.in_ok-register.ensures in
    let right = ap (λ (kinds : List Kind). spec_refusal kinds c.args.spec) (sym c.schema.ensures) ∙ c.in_ok-check.ensures.ok in
    record {
      registrations_few = omega (arith, c.self.invariant.registrations_few, c.if-self-eq4294967296.false);
      kept = subst (λ (limits : Limits). Keeps limits.group rows.places c.register.new.self) same (done.kept rows.places (sym c.len-places.ensures.len) (subst (λ (limits : Limits). Keeps limits.group rows.places inside.aggregates) (sym same) c.self.invariant.kept));
      checked = subst (AreChecked rows.schema) (sym done.registered) (checked-put rows.schema (registered_of inside.aggregates) c.in-Some.a _ c.self.invariant.checked right);
    }

pub returns-clause-ok : goal.returns-clause-ok
returns-clause-ok g c =
    let table = c.args.self.now.table in
    let inside = c.self.inside in
    let rows = inside.rows in
    let a = c.in-Some.a in
    let right = ap (λ (s : State g.row.S-Ticket.Denot). spec_refusal s.table.schema c.args.spec) (sym c.self.view_is) ∙ ap (λ (kinds : List Kind). spec_refusal kinds c.args.spec) (sym c.schema.ensures) ∙ c.in_ok-check.ensures.ok in
    let free = ap (λ (s : State g.row.S-Ticket.Denot). lowest_free s.table) (sym c.self.view_is) ∙ sym c.in-Some.ensures.number in
    let count = ap (λ (s : State g.row.S-Ticket.Denot). s.table.registrations) c.self.view_is in
    let put : Option Registered → List (Option Registered) = λ aggregate. slice_set (registered_of inside.aggregates) a aggregate in
    let groups-are =
    ap (λ (limits : Limits). put (Some (record { spec = c.args.spec; registration = inside.registrations; pending = replicate (groups limits.group c.len-places.result) true }))) c.limits.ensures.same
    ∙ ap (λ (count : ℕ). put (Some (record { spec = c.args.spec; registration = inside.registrations; pending = replicate (groups rows.limits.group count) true }))) c.len-places.ensures.len in
    let state : LiveState g.row.S-Ticket.Denot → LiveState g.row.S-Ticket.Denot = λ s. record s { table = after_register_at a c.args.spec s.table } in
    let watched : IsWatched (live c.args.self.now) (state_of rows (inside.registrations + 1) c.register.new.self) c.args.spec a = record {
      due = watch-free table c.args.spec right a free (λ all. omega (arith, count, c.if-self-eq4294967296.false, all));
      number = free;
      state =
          ap (λ (aggregates : List (Option Registered)). record {
            table = record { schema = rows.schema; limits = rows.limits; places = rows.places; edits = rows.edits; registrations = inside.registrations + 1; aggregates = aggregates };
            rows = rows.held;
          }) (c.in_ok-register.ensures.registered ∙ groups-are)
          ∙ ap (λ (s : State g.row.S-Ticket.Denot). state (live s)) c.self.view_is;
    } in
    (a, refl, record { changed = watched; accesses = ap (λ (s : State g.row.S-Ticket.Denot). s.accesses) c.self.view_is })
