use Rattle.std.proofs.Common.{Option, Some, subst, sym}
use Rattle.far_types.specs.declared.cell.Cell.{Cell}
use Rattle.far_types.specs.declared.edit.Edit.TheVariants as edit
use Rattle.far_frame.specs.declared.step.Step.TheVariants as step
use Rattle.far_frame.specs.declared.step.Reply.TheVariants as reply
use Rattle.far_c.specs.Outcomes.{Behind, IsServed}
use Rattle.far_c.specs.TableState.{TableState}
use Rattle.far_c.specs.Unreadable.{IsReadable}
use Rattle.far_c.proofs.Ended.{ended}
use Rattle.far_c.proofs.TurnedAway.{read-then}
use Rattle.far_c.proofs.edits.fc_set.Goals as goal

pub returns-clause-served : goal.returns-clause-served
returns-clause-served c = λ e.
    subst (λ (t : Option TableState). Behind (IsServed (step.Edit (edit.Set c.args.place c.args.column (Rattle.far_c.specs.Cells.cell_of c.args.cell.now))) reply.Done) t (Some c.end.new.self)) (sym c.in-Some.ensures.value)
    (subst (λ (x : Cell). IsServed (step.Edit (edit.Set c.args.place c.args.column x)) reply.Done c.in-Some.table.now c.end.new.self) c.in-Ok.ensures.ok
    (ended (step.Edit (edit.Set c.args.place c.args.column c.in-Ok.cell)) c.done-outcome.result c.edit.result c.in-Some.table.now c.edit.new.self c.end.new.self c.end.result c.edit.ensures.served c.done-outcome.ensures.ok c.end.ensures.ok c.end.ensures.number e))

pub returns-in-Err-clause-read : goal.returns-in-Err-clause-read
returns-in-Err-clause-read c = read-then (IsReadable c.args.cell.now) c.in-Err.why c.turn_away.result c.in-Some.table.now c.turn_away.new.self c.turn_away.ensures c.in-Err.ensures.memory
