use Rattle.std.proofs.Common.{rules, ◌≡◌, ◌∙◌, None, cond, refl, sym, ap, subst}
use Rattle.std.specs.Prelude.{IsSomeAnd, option_map}
use Rattle.std.proofs.lemmas.Option.{same_Some}
use Rattle.far_types.specs.declared.spec.Spec.{Spec}
use Rattle.far_types.specs.Bounds.{needs}
use Rattle.far_types.specs.Table.{Registered, in_group}
use Rattle.far_offload.specs.Jobs.{Job}
use Rattle.far_rows.specs.Copies.{copy_of}
use Rattle.far_rows.specs.Rows.{Rows}
use Rattle.far_aggregates.specs.Aggregates.{aggregate_in}
use Rattle.far_table.specs.Offloading.{Build, IsBuildOf, IsOffloadBegun, offload_refusal, ticket_for}
use Rattle.far_table.specs.Watching.{aggregate_at}
use Rattle.far_table.proofs.WatchingScans.{an-aggregate}
use Rattle.far_frame.specs.State.{State, live}
use Rattle.far_frame.proofs.frame.Frame.offload_job.Goals as goal

pub returns-clause-begun : goal.returns-clause-begun
returns-clause-begun g c =
    let t = c.self.inside.rows in
    let group = c.args.group in
    let spec = c.in-Some.spec.now in
    let held = c.held-held.ensures.held in
    let build : Build g.row.S-Ticket.Denot = record { number = c.number.result; aggregate = c.args.a; registration = c.in-Some-registration.registration; group = group; job = c.new.result } in
    let found = an-aggregate (aggregate_in c.self.inside.aggregates c.args.a) spec c.in-Some.ensures in
    let cloned : c.in_ok-clone.field-0 ≡ spec = search rules in
    let same : build.job.spec ≡ spec = ap (λ (job : Job g.row.S-Ticket.Denot). job.spec) c.new.ensures ∙ cloned in
    let of_aggregate : IsBuildOf build found.aggregate = record {
      registration = same_Some c.in-Some-registration.registration found.aggregate.registration (c.in-Some-registration.ensures ∙ ap (option_map (λ (r : Registered). r.registration)) found.is);
      spec = same ∙ sym found.same;
    } in
    let free : offload_refusal (live c.args.self.now) (aggregate_at c.args.self.now.table c.args.a) group ≡ None = search rules in
    record {
      free = free;
      name = refl;
      work = subst (λ (s : State g.row.S-Ticket.Denot). IsOffloadBegun (live s) c.args.a group build) c.self.view_is record {
        number = c.number.ensures ∙ ap (λ (r : Rows g.row.S-Ticket.Denot). r.number_objects.number) held;
        aggregate = refl;
        group = refl;
        registered = subst (λ o. IsSomeAnd o (IsBuildOf build)) (sym found.is) of_aggregate;
        tickets = λ column. (
            ap (λ (job : Job g.row.S-Ticket.Denot). ticket_for job.tickets column) c.new.ensures
            ∙ c.in_ok-tickets.ensures.tickets column
            ∙ ap (λ (r : Rows g.row.S-Ticket.Denot). cond (needs spec column) (copy_of r column group) None) held
            ∙ ap (λ (s : Spec). cond (needs s column) (copy_of t.held column group) None) (sym same));
        alive =
            ap (λ (job : Job g.row.S-Ticket.Denot). job.alive) c.new.ensures
            ∙ c.in_ok-alive.ensures.items
            ∙ c.flags.ensures
            ∙ ap (λ (r : Rows g.row.S-Ticket.Denot). in_group r.size group r.alive) held;
      };
    }
