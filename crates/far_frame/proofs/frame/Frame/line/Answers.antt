use Rattle.std.proofs.Common.{false, subst, arith}
use Rattle.std.proofs.lemmas.Result.{IfErr-weaker, IfOk-weaker}
use Rattle.far_types.specs.MayRefuse.{MayRefuse}
use Rattle.far_aggregates.specs.Aggregates.{ask_refusal}
use Rattle.far_aggregates.specs.Lines.{AnswersKey}
use Rattle.far_table.specs.Watching.{aggregate_at}
use Rattle.far_frame.specs.State.{State}
use Rattle.far_frame.proofs.frame.Frame.line.Goals as goal

pub returns-clause-ok : goal.returns-clause-ok
returns-clause-ok g c =
    let rows = c.self.inside.rows in
    IfOk-weaker c.line.result _ _ (λ line answered.
    subst (λ (s : State g.row.S-Ticket.Denot). AnswersKey s.table.places (aggregate_at s.table c.args.a) c.args.key.now line) c.self.view_is
    (answered rows.limits.group rows.places (omega (arith, c.limits-limits.ensures.bounds.group_low)) c.self.invariant.kept)) c.line.ensures.ok

pub returns-clause-err : goal.returns-clause-err
returns-clause-err g c =
    let rows = c.self.inside.rows in
    IfErr-weaker c.line.result _ _ (λ e answered.
    subst (λ (s : State g.row.S-Ticket.Denot). MayRefuse (ask_refusal (aggregate_at s.table c.args.a)) false e) c.self.view_is
    (answered rows.limits.group rows.places c.self.invariant.kept)) c.line.ensures.err
