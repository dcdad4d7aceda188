use Rattle.std.proofs.Common.{◌*◌, ◌<◌, ℕ, length, refl, sym, ap, subst, ◌∙◌, arith}
use Rattle.far_types.specs.declared.limits.Limits.{Limits}
use Rattle.far_types.specs.Table.{in_group}
use Rattle.far_rows.specs.Rows.{all_cells}
use Rattle.far_aggregates.specs.Aggregates.{aggregate_in}
use Rattle.far_aggregates.specs.Accumulators.{Keeps, registered_of}
use Rattle.far_aggregates.specs.Lending.{IsServed, EntryIsServed}
use Rattle.far_table.specs.Groups.{GroupRows, has_column, places_here}
use Rattle.far_frame.proofs.LiveEdits.{keeps-fit}
use Rattle.far_table.proofs.WatchingScans.{begun, scan-served, an-aggregate, scanned-checked}
use Rattle.far_frame.proofs.GroupsRetract.{places-here}
use Rattle.far_frame.proofs.RecountingLaws.{spec-right}
use Rattle.far_table.proofs.WatchingColumns.{begun-at}
use Rattle.far_table.proofs.Places.{length-places}
use Rattle.far_frame.proofs.frame.Frame.scan_group.Goals as goal

pub scan_at-requires-clause-served : goal.scan_at-requires-clause-served
scan_at-requires-clause-served g c =
    let content = g.S.FarTickets.content in
    let t = c.self.inside.rows in
    let registry = c.self.inside.aggregates in
    let spec = c.in-Some.spec.now in
    let found = an-aggregate (aggregate_in registry c.args.a) spec c.in-Some.ensures in
    let counted : c.args.group < c.groups.result = c.if-group-groups.false in
    let first : c.args.group * t.limits.group < length t.places = begun c.args.group t.limits.group (length t.places) (omega (arith, c.limits.ensures.bounds.group_low)) (subst (λ (n : ℕ). c.args.group < n) c.groups.ensures counted) in
    let long = sym (ap length c.held-held.ensures.places ∙ length-places (all_cells content t.held) t.held.alive) in
    let inside = begun-at c.args.group t.held t.held refl t.limits.group (length t.places) c.held-held.ensures.size long first in
    let right = spec-right t registry c.args.a spec c.in-Some.ensures c.self.invariant.checked in
    let served = scan-served content t.held c.held-held.ensures.rows c.args.group inside c.an_aggregate_is_served_by_the_columns_of_its_schema.ensures t.schema c.held-held.ensures.kinds spec right c.in_ok-may_scan.ensures in
    let lent : GroupRows g.row.S-Ticket.Denot = record { rows = t.held; group = c.args.group } in
    subst (λ (group : GroupRows g.row.S-Ticket.Denot). EntryIsServed (has_column group) (aggregate_in registry c.args.a)) (sym c.group.ensures)
    (subst (EntryIsServed (has_column lent)) (sym found.is) (subst (IsServed (has_column lent)) (sym found.same) served))

pub scan_at-requires-clause-kept : goal.scan_at-requires-clause-kept
scan_at-requires-clause-kept g c =
    let content = g.S.FarTickets.content in
    let t = c.self.inside.rows in
    let here =
    ap (places_here content) c.group.ensures
    ∙ places-here content t c.held-held.ensures.places c.held-held.ensures.size c.args.group
    ∙ ap (λ (limits : Limits). in_group limits.group c.args.group t.places) (sym c.limits.ensures.same) in (
      t.places,
      here,
      keeps-fit t c.self.inside.registrations c.self.inside.aggregates c.limits.result.now c.limits.ensures.same c.limits.ensures.bounds c.len-len.ensures.few c.len-len.ensures.fit c.self.invariant,
    )

pub invariant_of-self : goal.invariant_of-self
invariant_of-self g c =
    let content = g.S.FarTickets.content in
    let t = c.self.inside.rows in
    let registry = c.self.inside.aggregates in
    let same = c.limits.ensures.same in
    let here =
    ap (places_here content) c.group.ensures
    ∙ places-here content t c.held-held.ensures.places c.held-held.ensures.size c.args.group
    ∙ ap (λ (limits : Limits). in_group limits.group c.args.group t.places) (sym same) in
    record {
      registrations_few = c.self.invariant.registrations_few;
      kept = subst (λ (limits : Limits). Keeps limits.group t.places c.scan_at.new.self) same (c.scan_at.ensures.kept t.places here (subst (λ (limits : Limits). Keeps limits.group t.places registry) (sym same) c.self.invariant.kept));
      checked = scanned-checked t.schema (registered_of registry) (registered_of c.scan_at.new.self) c.args.a c.args.group c.scan_at.result c.scan_at.ensures.registered c.scan_at.ensures.unchanged c.self.invariant.checked;
    }
