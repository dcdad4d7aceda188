use Rattle.std.proofs.Common.{◌∙◌, sym, subst, refl, arith, List}
use Rattle.std.proofs.lemmas.Result.{err_from_is_err_and}
use Rattle.far_types.specs.declared.edit.Edit.TheVariants as edit
use Rattle.far_types.specs.Lent.{lent_cell}
use Rattle.far_aggregates.specs.Accumulators.{RegistryEntry, Keeps, PlacesFit}
use Rattle.far_rows.specs.Setting.{cell_of}
use Rattle.far_frame.proofs.CellChanges.{cell-below, cell-row, cell-column, cell-unchanged, up-to-date}
use Rattle.far_frame.proofs.LiveEdits.{live-alone, made-checked, made-with, retracts-after, set-inside}
use Rattle.far_frame.proofs.frame.editing.change_row.Goals as goal

pub place_row-requires-clause-place : goal.place_row-requires-clause-place
place_row-requires-clause-place g c κs within = cell-below c.requires.may

pub change_in-requires-clause-few : goal.change_in-requires-clause-few
change_in-requires-clause-few g c =
    let below = cell-below c.requires.may in
    omega (arith, below, c.len-before.ensures.few, c.limits.ensures.bounds.places_high)

pub change_in-requires-clause-column : goal.change_in-requires-clause-column
change_in-requires-clause-column g c =
    cell-column c.requires.may c.held-held.ensures.places c.held-held.ensures.kinds c.place_row.new.row c.in-Ok.ensures.row

pub change_in-requires-clause-kept : goal.change_in-requires-clause-kept
change_in-requires-clause-kept g c =
    (c.args.rows.now.places, up-to-date c.requires.may c.limits.ensures.same c.limits.ensures.bounds c.len-before.ensures.few c.len-before.ensures.fit)

pub returns-in_err-pending : goal.returns-in_err-pending
returns-in_err-pending g c =
    let p = err_from_is_err_and c.from_residual.result c.from_residual.ensures.1 in
    let t = c.args.rows.now in
    rw (p.1, p.2) (cell-unchanged c.requires.may refl refl (c.in_err-pending.ensures.unchanged t.limits.group t.places c.requires.may.kept) c.in_err-pending.ensures.registered)

pub returns-in-Err : goal.returns-in-Err
returns-in-Err g c =
    let t = c.args.rows.now in
    let kept = subst (λ (now : List RegistryEntry). Keeps t.limits.group t.places now) (sym c.undo.ensures.undo) (c.in_ok-pending.ensures.undo.kept t.limits.group t.places c.requires.may.kept) in
    cell-unchanged c.requires.may c.in-Err.ensures.err c.in-Err.ensures.memory kept (c.undo.ensures.registered ∙ c.in_ok-pending.ensures.registered)

pub retract_row-requires-clause-inside : goal.retract_row-requires-clause-inside
retract_row-requires-clause-inside g c κs within =
    set-inside c.args.rows.now c.set.new.self c.args.place c.args.column (cell_of c.args.value.now) c.in_default-set.ensures.put.made
    (cell-below c.requires.may)

pub retract_row-requires-clause-checked : goal.retract_row-requires-clause-checked
retract_row-requires-clause-checked g c κs within =
    let t = c.args.rows.now in
    made-checked t c.set.new.self (edit.Set c.args.place c.args.column (cell_of c.args.value.now)) 0 c.args.aggregates.now c.change_in.new.self c.in_default-set.ensures.put.made c.in_ok-pending.ensures.registered (live-alone t c.args.aggregates.now c.requires.may.kept c.requires.may.checked)

pub retract_row-requires-clause-retracts : goal.retract_row-requires-clause-retracts
retract_row-requires-clause-retracts g c κs within =
    let old = c.args.rows.now in
    let new = c.set.new.self in
    let cell = cell_of c.args.value.now in
    let row = cell-row c.requires.may c.place_row.new.row c.in-Ok.ensures.row in
    let kept = up-to-date c.requires.may c.limits.ensures.same c.limits.ensures.bounds c.len-before.ensures.few c.len-before.ensures.fit in
    let made = made-with old new c.args.place c.args.column cell (lent_cell c.lend.result) (sym c.lend.ensures) c.in_default-set.ensures.put.made in
    retracts-after old new (edit.Set c.args.place c.args.column (lent_cell c.lend.result)) c.args.place c.limits.result.now c.change_in.new.self c.in_ok-pending.pending c.limits.ensures.same made
    (c.in_ok-pending.ensures.retracts old.places (c.place_row.new.row, refl, row) kept (subst PlacesFit made.places c.len-after.ensures.fit))
