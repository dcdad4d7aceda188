use Rattle.std.proofs.Common.{false, sym, ap, subst, ◌∙◌}
use Rattle.std.specs.Option.{option_map_or}
use Rattle.far_pointer.specs.Layout.{is_dirty}
use Rattle.far_evacuator.specs.Jobs.{IsFormTicket}
use Rattle.far_evacuator.proofs.MovementCopies.{clean-spelled}
use Rattle.far_evacuator.proofs.committing.is_still.Goals as goal

pub returns-in-Dirty-clause-copied : goal.returns-in-Dirty-clause-copied
returns-in-Dirty-clause-copied g c =
    let carried = rw (← c.job.view_is) at c.carried.invariant in
    let content = subst (λ form. IsFormTicket g.S.FarTickets.content form c.carried.inside.ticket) c.in-Dirty.is carried in
    rw (← c.carried.view_is) (λ found. rw content (record {
      range = c.spells.ensures.range found;
      has = c.requires.spelled;
      is = sym (c.deref.ensures.value ∙ c.form.view_is) ∙ c.spells.ensures.exact.0 found;
    }))

pub returns-then-not-dirty-clause-copied : goal.returns-then-not-dirty-clause-copied
returns-then-not-dirty-clause-copied g c =
    let within = rw (← c.carried.view_is, ← c.job.view_is) at c.requires.within in
    let lent = rw (← c.carried.view_is, ← c.job.view_is) at c.requires.lent in
    let clean = ap (λ w. option_map_or is_dirty w false) c.word.ensures.word ∙ sym c.dirty.ensures ∙ c.if-not-dirty.true in
    rw (← c.carried.view_is) (λ same. clean-spelled g.T.Elem.meaning g.S.FarTickets.content _ c.args.objects.now c.requires.tracked c.job.inside.object within c.requires.clean clean c.args.list.now lent _ (c.is_under.ensures.content same))
