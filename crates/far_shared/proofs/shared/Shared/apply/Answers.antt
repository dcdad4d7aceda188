use Rattle.far_shared.proofs.JobsRefusals.{if-err}
use Rattle.far_shared.proofs.shared.Shared.apply.Goals as goal

pub returns-in-0-clause-refused : goal.returns-in-0-clause-refused
returns-in-0-clause-refused g c = if-err c.apply_under.result _ _ (λ e h low. rw (c.in-0.is, ← c.me.view_is) h) c.apply_under.ensures.refused

pub returns-in-1-clause-refused : goal.returns-in-1-clause-refused
returns-in-1-clause-refused g c = if-err c.apply_under-in-1.result _ _ (λ e h low. rw (c.in-1.is, ← c.me.view_is) h) c.apply_under-in-1.ensures.refused

pub returns-in-2-clause-refused : goal.returns-in-2-clause-refused
returns-in-2-clause-refused g c = if-err c.apply_under-in-2.result _ _ (λ e h low. rw (c.in-2.is, ← c.me.view_is) h) c.apply_under-in-2.ensures.refused

pub returns-in-3-clause-refused : goal.returns-in-3-clause-refused
returns-in-3-clause-refused g c = if-err c.apply_under-in-3.result _ _ (λ e h low. rw (c.in-3.is, ← c.me.view_is) h) c.apply_under-in-3.ensures.refused

pub returns-in-0-clause-due : goal.returns-in-0-clause-due
returns-in-0-clause-due g c = if-err c.apply_under.result _ _ (λ e h low. rw c.in-0.is h) c.apply_under.ensures.due

pub returns-in-1-clause-due : goal.returns-in-1-clause-due
returns-in-1-clause-due g c = if-err c.apply_under-in-1.result _ _ (λ e h low. rw c.in-1.is h) c.apply_under-in-1.ensures.due

pub returns-in-2-clause-due : goal.returns-in-2-clause-due
returns-in-2-clause-due g c = if-err c.apply_under-in-2.result _ _ (λ e h low. rw c.in-2.is h) c.apply_under-in-2.ensures.due

pub returns-in-3-clause-due : goal.returns-in-3-clause-due
returns-in-3-clause-due g c = if-err c.apply_under-in-3.result _ _ (λ e h low. rw c.in-3.is h) c.apply_under-in-3.ensures.due
