use Rattle.std.proofs.Common.{◌/◌, ◌∙◌, ap, sym, subst, List}
use Rattle.far_types.specs.Table.{Place, in_group}
use Rattle.far_aggregates.specs.Accumulators.{RegistryEntry, Keeps, registered_of}
use Rattle.far_aggregates.specs.Lending.{AreServed}
use Rattle.far_aggregates.specs.Pending.{MayRetractAll, after_retract_all}
use Rattle.far_table.specs.Groups.{GroupRows, has_column, places_here}
use Rattle.far_frame.proofs.GroupsRetract.{lent-is, places-here, served-here}
use Rattle.far_frame.proofs.frame.editing.retract_row.Goals as goal

pub retract-requires-clause-may : goal.retract-requires-clause-may
retract-requires-clause-may g c =
    let t = c.args.rows.now in
    let content = g.S.FarTickets.content in
    let lent = lent-is t c.group.result c.row_group.result (c.args.place / t.limits.group) (c.row_group.ensures ∙ c.requires.retracts.at) c.group.ensures in
    let here = ap (places_here content) lent ∙ places-here content t c.held-held.ensures.places c.held-held.ensures.size (c.args.place / t.limits.group) in
    subst (λ (ps : List Place). MayRetractAll ps c.args.aggregates.now c.args.pending) (sym here) c.requires.retracts.may

pub retract-requires-clause-served : goal.retract-requires-clause-served
retract-requires-clause-served g c =
    let t = c.args.rows.now in
    let content = g.S.FarTickets.content in
    let lent = lent-is t c.group.result c.row_group.result (c.args.place / t.limits.group) (c.row_group.ensures ∙ c.requires.retracts.at) c.group.ensures in
    subst (λ (rows : GroupRows g.row.S-Ticket.Denot). AreServed (has_column rows) (registered_of c.args.aggregates.now)) (sym lent)
    (served-here content t c.held-held.ensures.places c.held-held.ensures.size c.an_aggregate_is_served_by_the_columns_of_its_schema.ensures c.held-held.ensures.rows c.held-held.ensures.kinds c.args.place c.requires.inside c.requires.here (registered_of c.args.aggregates.now) c.requires.checked)

pub returns-clause-kept : goal.returns-clause-kept
returns-clause-kept g c =
    let t = c.args.rows.now in
    let content = g.S.FarTickets.content in
    let lent = lent-is t c.group.result c.row_group.result (c.args.place / t.limits.group) (c.row_group.ensures ∙ c.requires.retracts.at) c.group.ensures in
    let here = ap (places_here content) lent ∙ places-here content t c.held-held.ensures.places c.held-held.ensures.size (c.args.place / t.limits.group) in
    let gone = c.retract.ensures.retracted ∙ ap (λ (ps : List Place). after_retract_all ps c.args.aggregates.now c.args.pending) here in
    subst (λ (registry : List RegistryEntry). Keeps t.limits.group t.places registry) (sym gone) c.requires.retracts.kept

pub returns-then-not-needs_rows-clause-kept : goal.returns-then-not-needs_rows-clause-kept
returns-then-not-needs_rows-clause-kept g c =
    let t = c.args.rows.now in
    let here = in_group t.limits.group (c.args.place / t.limits.group) t.places in
    subst (λ (registry : List RegistryEntry). Keeps t.limits.group t.places registry) (sym (c.retract_totals.ensures.retracted here)) c.requires.retracts.kept
