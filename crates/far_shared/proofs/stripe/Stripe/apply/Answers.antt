use Rattle.std.proofs.Common.{◌<◌, ◌^◌, length, sym, ap, subst, ◌∙◌, arith, rules}
use Rattle.far_sessions.specs.Histories.{IsLegal}
use Rattle.far_sessions.specs.declared.reading.Reading.{Reading}
use Rattle.far_shared.proofs.ApplyingEdits.{made-refused}
use Rattle.far_shared.proofs.StripesColumns.{still-of}
use Rattle.far_shared.proofs.StripesLaws.{few, reads-edited, same-refusal, same-why, stripe-made}
use Rattle.far_shared.proofs.stripe.Stripe.apply.Goals as goal

pub change-requires-clause-few : goal.change-requires-clause-few
change-requires-clause-few g c κs inside =
    let s = c.self.inside in
    let look = c.look-before.ensures in
    let legal = subst (IsLegal g.N.PlanTag.plan) look.whole look.seen.legal in
    subst (λ (r : Reading). r.edits < 2 ^ 63) (sym look.reading) (few g.N.PlanTag.plan s.keeper s.frame.table c.self.invariant.0 legal)

pub change-requires-clause-column_indexes : goal.change-requires-clause-column_indexes
change-requires-clause-column_indexes g c κs inside =
    c.self.invariant.2.column_indexes ∙ sym (ap length c.self.invariant.0.schema)

pub add-requires : goal.add-requires
add-requires g c =
    let s = c.self.inside in
    let changed = c.in_ok-changed.ensures.changed in
    let made = changed.made in (
      omega arith,
      (
        omega arith,
        (
          omega arith,
          (
            rw (c.look-before.ensures.history, c.of-copy.ensures) (same-refusal g.N.PlanTag.plan s.keeper s.frame.table c.self.invariant.0 c.args.edit ∙ made.may),
            rw (c.look-before.ensures.history, c.of-copy.ensures)
                (reads-edited g.N.PlanTag.plan s.keeper s.frame.table c.self.invariant.0 _ c.args.edit c.look-before.result _ _ c.look-before.ensures.reading made.table changed.after),
          ),
        ),
      ),
    )

pub returns-in_err-changed-clause-why : goal.returns-in_err-changed-clause-why
returns-in_err-changed-clause-why g c =
    let s = c.self.inside in
    let indexes = c.self.invariant.2.column_indexes ∙ sym (ap length c.self.invariant.0.schema) in
    let refused = made-refused g.S.FarTickets.content s.frame _ indexes c.args.edit _ c.in_err-changed.ensures.due in
    rw (← c.self.view_is) (let why = same-why g.N.PlanTag.plan s.keeper s.frame.table c.self.invariant.0 c.args.edit _ refused in search rules)

pub returns-in_err-changed-clause-due : goal.returns-in_err-changed-clause-due
returns-in_err-changed-clause-due g c = rw (← c.self.view_is) (let due = c.in_err-changed.ensures.due.1 in search rules)

pub returns-clause-accepted : goal.returns-clause-accepted
returns-clause-accepted g c = rw (← c.self.view_is) c.in_ok-changed.ensures.changed.made.accepted

pub invariant_of-self-2 : goal.invariant_of-self-2
invariant_of-self-2 g c =
    let s = c.self.inside in
    let changed = c.in_ok-changed.ensures in
    let longer = rw (c.look-before.ensures.history, c.of-copy.ensures) at c.add.ensures.history in (
      stripe-made g.N.PlanTag.plan s.keeper s.frame.table c.self.invariant.0 _ c.args.edit _ _ longer changed.changed.made.table,
      changed.keeps.here g.B.TableTag.store c.self.invariant.1,
      still-of g.N.PlanTag.plan.schema _ _ _ changed.keeps.columns c.self.invariant.2,
    )
