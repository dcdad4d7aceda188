use Rattle.std.proofs.Common.{◌<◌, length, Some, sym, ap, ◌∙◌, arith}
use Rattle.far_evacuator.proofs.MovementCopies.{away-form}
use Rattle.far_evacuator.proofs.installing.is_installable.Goals as goal

pub returns-then-leavings-job-clause-exact : goal.returns-then-leavings-job-clause-exact
returns-then-leavings-job-clause-exact g c =
    let away = c.word.ensures.word ∙ ap Some (sym c.read.ensures.says ∙ c.in-Remote.is) in
    let within : c.job.inside.object < length c.args.objects.now.records = omega (arith, c.if-o-count.false, c.count.ensures) in
    let bytes = rw (← c.job.view_is) at c.fetched.invariant in
    rw (← c.fetched.view_is, ← c.job.view_is) (
      (λ under. record {
        number = c.if-job-number.false ∙ c.number.ensures.number;
        away = away;
        leavings = sym c.leavings.ensures ∙ c.if-leavings-job.true;
        ticket = c.is_under.ensures.number.0 under;
        form = away-form g.T.Elem.meaning g.S.FarTickets.content _ _ c.number.ensures.tracked c.job.inside.object within away c.fetched.inside.bytes.items (c.is_under.ensures.content under ∙ ap Some (sym bytes));
      }),
      λ h. c.is_under.ensures.number.1 h.ticket,
    )
