use Rattle.std.proofs.Common.{sym, ap, ◌∙◌}
use Rattle.far_types.specs.declared.limits.Limits.{Limits}
use Rattle.far_rows.specs.Rows.{Rows}
use Rattle.far_frame.proofs.RecountingLaws.{may-fold, answered}
use Rattle.far_frame.proofs.frame.Frame.recount.Goals as goal

pub recount_rows-requires-clause-may_fold : goal.recount_rows-requires-clause-may_fold
recount_rows-requires-clause-may_fold g c κs within =
    may-fold c.self.inside.rows c.self.inside.aggregates c.args.a c.in-Some.spec.now c.in-Some.ensures c.held-held.result.now c.held-held.ensures.held c.an_aggregate_is_served_by_the_columns_of_its_schema.ensures c.self.invariant.checked c.held-held.ensures.kinds

pub recount_rows-requires-clause-size : goal.recount_rows-requires-clause-size
recount_rows-requires-clause-size g c κs within =
    ap (λ (l : Limits). l.group) c.limits.ensures.same ∙ sym c.held-held.ensures.size ∙ ap (λ (r : Rows g.row.S-Ticket.Denot). r.size) (sym c.held-held.ensures.held)

pub returns-clause-answer : goal.returns-clause-answer
returns-clause-answer g c =
    answered c.self.inside.rows c.self.inside.aggregates c.args.a c.in-Some.spec.now c.in-Some.ensures c.held-held.result.now c.held-held.ensures.held g.S.FarTickets.content c.held-held.ensures.places c.self.inside.prefetcher c.self.inside.registrations c.args.self.now c.self.view_is c.recount_rows.result c.recount_rows.ensures.answer
