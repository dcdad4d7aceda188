use Rattle.std.proofs.Common.{Option, Some, IfOk, IsSomeAnd, ap, sym, subst, ◌∙◌}
use Rattle.far_types.specs.declared.cell.Kind.TheVariants as kind
use Rattle.far_evacuator.specs.Beginning.{IsFetch}
use Rattle.far_rows.specs.declared.object.Object.{Object}
use Rattle.far_rows.specs.Jobs.{IsFetchOf}
use Rattle.far_rows.specs.Rows.{Rows}
use Rattle.far_rows.proofs.rows.Rows.begin_fetch.Goals as goal

pub returns-in-Number-clause-begun : goal.returns-in-Number-clause-begun
returns-in-Number-clause-begun g c =
    let at = c.in_ok-o.ensures.object ∙ ap Some c.in-Number.is in
    let of = subst (λ (r : Rows g.row.S-Ticket.Denot). IfOk c.begin_fetch.result (IsFetch r.number_objects c.in-Number.o kind.Int)) c.self.view_is c.begin_fetch.ensures.begun in
    subst (λ (found : Option Object). IfOk c.begin_fetch.result (λ job. IsSomeAnd found (λ object. IsFetchOf c.args.self.now object job))) (sym at) of

pub returns-in-Text-clause-begun : goal.returns-in-Text-clause-begun
returns-in-Text-clause-begun g c =
    let at = c.in_ok-o.ensures.object ∙ ap Some c.in-Text.is in
    let of = subst (λ (r : Rows g.row.S-Ticket.Denot). IfOk c.begin_fetch-in-Text.result (IsFetch r.text_objects c.in-Text.o kind.Text)) c.self.view_is c.begin_fetch-in-Text.ensures.begun in
    subst (λ (found : Option Object). IfOk c.begin_fetch-in-Text.result (λ job. IsSomeAnd found (λ object. IsFetchOf c.args.self.now object job))) (sym at) of
