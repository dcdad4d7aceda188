use Rattle.std.proofs.Common.{refl}
use Rattle.std.proofs.lemmas.Result.{err_from_is_err_and}
use Rattle.far_types.specs.declared.edit.Edit.TheVariants as edit
use Rattle.far_rows.specs.Setting.{cell_of}
use Rattle.far_frame.proofs.CellChanges.{cell-changed, cell-unchanged}
use Rattle.far_frame.proofs.LiveEdits.{keeps-after}
use Rattle.far_frame.proofs.frame.editing.put_cell.Goals as goal

pub returns-then-not-needs : goal.returns-then-not-needs
returns-then-not-needs g c =
    let t = c.args.rows.now in
    let cell = cell_of c.args.value.now in
    let kept = c.needs.ensures c.if-not-needs.true t.limits.group t.places c.args.place cell c.limits-limits.ensures.bounds.group_low c.requires.may.kept in
    cell-changed c.requires.may c.in_ok-set.ensures.put (keeps-after t c.set.new.self (edit.Set c.args.place c.args.column cell) t.limits c.args.aggregates.now refl c.in_ok-set.ensures.put.made kept) refl c.in_ok-set.ensures.kept

pub returns-in_err-set : goal.returns-in_err-set
returns-in_err-set g c =
    let p = err_from_is_err_and c.from_residual.result c.from_residual.ensures.1 in
    rw (p.1, p.2) (cell-unchanged c.requires.may c.in_err-set.ensures.err c.in_err-set.ensures.memory c.requires.may.kept refl)
