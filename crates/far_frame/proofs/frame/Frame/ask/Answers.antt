use Rattle.std.proofs.Common.{true, refl, subst, arith}
use Rattle.std.proofs.lemmas.Result.{IfErr-weaker, IfOk-weaker}
use Rattle.far_types.specs.MayRefuse.{MayRefuse}
use Rattle.far_aggregates.specs.Aggregates.{Answers, ask_refusal}
use Rattle.far_table.specs.Watching.{aggregate_at}
use Rattle.far_frame.specs.State.{State}
use Rattle.far_frame.proofs.frame.Frame.ask.Goals as goal

pub returns-clause-ok : goal.returns-clause-ok
returns-clause-ok g c =
    let rows = c.self.inside.rows in
    IfOk-weaker c.answer.result _ _ (λ answer answered. (
      answer,
      refl,
      subst (λ (s : State g.row.S-Ticket.Denot). Answers s.table.places (aggregate_at s.table c.args.a) answer) c.self.view_is
          (answered rows.limits.group rows.places (omega (arith, c.limits-limits.ensures.bounds.group_low)) c.self.invariant.kept),
      refl,
    )) c.answer.ensures.ok

pub returns-clause-err : goal.returns-clause-err
returns-clause-err g c =
    let rows = c.self.inside.rows in
    IfErr-weaker c.answer.result _ _ (λ e answered. (
      refl,
      subst (λ (s : State g.row.S-Ticket.Denot). MayRefuse (ask_refusal (aggregate_at s.table c.args.a)) true e) c.self.view_is
          (answered rows.limits.group rows.places c.self.invariant.kept),
    )) c.answer.ensures.err
