use Rattle.std.proofs.Common.{ap, sym, subst, ◌∙◌}
use Rattle.far_types.specs.declared.limits.Limits.{Limits}
use Rattle.far_types.specs.Table.{in_group}
use Rattle.far_rows.specs.Rows.{Rows}
use Rattle.far_rows.specs.Places.{places_in}
use Rattle.far_aggregates.specs.Accumulators.{Keeps, registered_of}
use Rattle.far_table.specs.Offloading.{Build}
use Rattle.far_table.specs.FarGroups.{places_there}
use Rattle.far_frame.proofs.LiveEdits.{keeps-fit}
use Rattle.far_table.proofs.WatchingScans.{scanned-checked}
use Rattle.far_frame.proofs.GroupsRetract.{places-here}
use Rattle.far_frame.proofs.frame.Frame.merge_build.Goals as goal

pub scan_at-requires-clause-kept : goal.scan_at-requires-clause-kept
scan_at-requires-clause-kept g c =
    let content = g.S.FarTickets.content in
    let t = c.self.inside.rows in
    let group = ap (λ (b : Build g.row.S-Ticket.Denot). b.group) (c.build.view_is ∙ c.build-build.ensures) in
    let here =
    ap (places_there content) c.new.ensures
    ∙ ap (λ (r : Rows g.row.S-Ticket.Denot). in_group r.size c.args.carried.now.group (places_in content r)) c.held-held.ensures.held
    ∙ places-here content t c.held-held.ensures.places c.held-held.ensures.size c.args.carried.now.group
    ∙ ap (λ n. in_group t.limits.group n t.places) (sym group)
    ∙ ap (λ (limits : Limits). in_group limits.group c.build.inside.group t.places) (sym c.limits.ensures.same) in (
      t.places,
      here,
      keeps-fit t c.self.inside.registrations c.self.inside.aggregates c.limits.result.now c.limits.ensures.same c.limits.ensures.bounds c.len-len.ensures.few c.len-len.ensures.fit c.self.invariant,
    )

pub invariant_of-self : goal.invariant_of-self
invariant_of-self g c =
    let content = g.S.FarTickets.content in
    let t = c.self.inside.rows in
    let registry = c.self.inside.aggregates in
    let same = c.limits.ensures.same in
    let group = ap (λ (b : Build g.row.S-Ticket.Denot). b.group) (c.build.view_is ∙ c.build-build.ensures) in
    let here =
    ap (places_there content) c.new.ensures
    ∙ ap (λ (r : Rows g.row.S-Ticket.Denot). in_group r.size c.args.carried.now.group (places_in content r)) c.held-held.ensures.held
    ∙ places-here content t c.held-held.ensures.places c.held-held.ensures.size c.args.carried.now.group
    ∙ ap (λ n. in_group t.limits.group n t.places) (sym group)
    ∙ ap (λ (limits : Limits). in_group limits.group c.build.inside.group t.places) (sym same) in
    record {
      registrations_few = c.self.invariant.registrations_few;
      kept = subst (λ (limits : Limits). Keeps limits.group t.places c.scan_at.new.self) same (c.scan_at.ensures.kept t.places here (subst (λ (limits : Limits). Keeps limits.group t.places registry) (sym same) c.self.invariant.kept));
      checked = scanned-checked t.schema (registered_of registry) (registered_of c.scan_at.new.self) c.build.inside.aggregate c.build.inside.group c.scan_at.result c.scan_at.ensures.registered c.scan_at.ensures.unchanged c.self.invariant.checked;
    }
