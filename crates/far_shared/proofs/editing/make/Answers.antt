use Rattle.std.proofs.Common.{IfErr, ap, sym, subst, rules}
use Rattle.std.proofs.lemmas.Result.{IfOk-weaker}
use Rattle.far_types.specs.declared.edit.Edit.{Edit}
use Rattle.far_types.specs.declared.edit.Edit.TheVariants as edit
use Rattle.far_frame.specs.Effects.{Refuses}
use Rattle.far_frame.specs.declared.step.Reply.TheVariants as reply
use Rattle.far_frame.specs.declared.step.Step.TheVariants as step
use Rattle.far_frame.specs.State.{State}
use Rattle.far_shared.proofs.StripesColumns.{same-columns, edit-columns, either-columns}
use Rattle.far_shared.proofs.ApplyingEdits.{is-made, made-place}
use Rattle.far_shared.proofs.editing.make.Goals as goal

pub returns-in-Insert-clause-made : goal.returns-in-Insert-clause-made
returns-in-Insert-clause-made g c =
    rw c.in-Insert.is (IfOk-weaker c.insert.result _ _ (λ place h. is-made g.S.FarTickets.content c.args.frame.now c.insert.new.self c.requires.column_indexes (edit.Insert c.in-Insert.row) (reply.Place place) h) c.insert.ensures.ok)

pub returns-in-Insert-clause-place : goal.returns-in-Insert-clause-place
returns-in-Insert-clause-place g c =
    rw c.in-Insert.is (IfOk-weaker c.insert.result _ _ (λ place h. made-place g.S.FarTickets.content c.args.frame.now c.insert.new.self c.requires.column_indexes c.in-Insert.row place h) c.insert.ensures.ok)

pub returns-in-Insert-clause-due : goal.returns-in-Insert-clause-due
returns-in-Insert-clause-due g c =
    subst (λ (e : Edit). IfErr c.insert.result (λ r. Refuses c.args.frame.now (step.Edit e) r c.insert.new.self)) (sym c.in-Insert.is) c.insert.ensures.err

pub returns-in_err-set-in-Set-clause-due : goal.returns-in_err-set-in-Set-clause-due
returns-in_err-set-in-Set-clause-due g c = rw c.in-Set.is (let due = c.in_err-set-in-Set.ensures.err in search rules)

pub returns-in_err-remove-in-Remove-clause-due : goal.returns-in_err-remove-in-Remove-clause-due
returns-in_err-remove-in-Remove-clause-due g c = rw c.in-Remove.is (let due = c.in_err-remove-in-Remove.ensures.err in search rules)

pub returns-in_ok-set-in-Set-clause-made : goal.returns-in_ok-set-in-Set-clause-made
returns-in_ok-set-in-Set-clause-made g c =
    rw c.in-Set.is (is-made g.S.FarTickets.content c.args.frame.now c.set.new.self c.requires.column_indexes (edit.Set c.in-Set.place c.in-Set.column c.in-Set.cell) reply.Done c.in_ok-set-in-Set.ensures.ok)

pub returns-in_ok-remove-in-Remove-clause-made : goal.returns-in_ok-remove-in-Remove-clause-made
returns-in_ok-remove-in-Remove-clause-made g c =
    rw c.in-Remove.is (is-made g.S.FarTickets.content c.args.frame.now c.remove.new.self c.requires.column_indexes (edit.Remove c.in-Remove.place) reply.Done c.in_ok-remove-in-Remove.ensures.ok)

pub returns-in-Insert-clause-keeps : goal.returns-in-Insert-clause-keeps
returns-in-Insert-clause-keeps g c = record {
  columns = either-columns c.insert.result c.args.frame.now c.insert.new.self _ _ (λ place h. edit-columns g.S.FarTickets.content c.args.frame.now.rows (edit.Insert c.in-Insert.row) c.insert.new.self.rows h.1.changed.rows) (λ e h. h.0) c.insert.ensures.ok c.insert.ensures.err;
  here = c.insert.ensures.here;
}

pub returns-in_err-set-in-Set-clause-keeps : goal.returns-in_err-set-in-Set-clause-keeps
returns-in_err-set-in-Set-clause-keeps g c = record {
  columns = same-columns c.args.frame.now.rows c.set.new.self.rows (ap (λ (s : State g.row.S-Ticket.Denot). s.rows) c.in_err-set-in-Set.ensures.err.0);
  here = c.set.ensures.here;
}

pub returns-in_err-remove-in-Remove-clause-keeps : goal.returns-in_err-remove-in-Remove-clause-keeps
returns-in_err-remove-in-Remove-clause-keeps g c = record {
  columns = same-columns c.args.frame.now.rows c.remove.new.self.rows (ap (λ (s : State g.row.S-Ticket.Denot). s.rows) c.in_err-remove-in-Remove.ensures.err.0);
  here = c.remove.ensures.here;
}

pub returns-in_ok-set-in-Set-clause-keeps : goal.returns-in_ok-set-in-Set-clause-keeps
returns-in_ok-set-in-Set-clause-keeps g c = record {
  columns = edit-columns g.S.FarTickets.content c.args.frame.now.rows (edit.Set c.in-Set.place c.in-Set.column c.in-Set.cell) c.set.new.self.rows c.in_ok-set-in-Set.ensures.ok.1.changed.rows;
  here = c.set.ensures.here;
}

pub returns-in_ok-remove-in-Remove-clause-keeps : goal.returns-in_ok-remove-in-Remove-clause-keeps
returns-in_ok-remove-in-Remove-clause-keeps g c = record {
  columns = edit-columns g.S.FarTickets.content c.args.frame.now.rows (edit.Remove c.in-Remove.place) c.remove.new.self.rows c.in_ok-remove-in-Remove.ensures.ok.1.changed.rows;
  here = c.remove.ensures.here;
}
