use Rattle.std.proofs.Common.{◌≡◌, ◌∙◌, Some, None, ap, sym, subst, refl, arith, List}
use Rattle.std.proofs.lemmas.Int.{to_z-of_z}
use Rattle.far_types.specs.declared.cell.Cell.TheVariants as cell
use Rattle.far_types.specs.declared.edit.Edit.TheVariants as edit
use Rattle.far_types.specs.declared.refusal.Refusal.{Refusal}
use Rattle.far_types.specs.Edits.{places_after}
use Rattle.far_aggregates.specs.Accumulators.{RegistryEntry, Keeps, registered_of}
use Rattle.far_rows.specs.Setting.{cell_of}
use Rattle.far_frame.proofs.CellChanges.{cell-below, cell-row, cell-here, cell-changed, cell-unchanged, up-to-date}
use Rattle.far_frame.proofs.LiveEdits.{made-with, keeps-after}
use Rattle.far_frame.proofs.frame.editing.replace_number.Goals as goal

pub place_row-requires-clause-place : goal.place_row-requires-clause-place
place_row-requires-clause-place g c κs within = cell-below c.requires.may

pub note_values-requires-clause-few : goal.note_values-requires-clause-few
note_values-requires-clause-few g c =
    let below = cell-below c.requires.may in
    omega (arith, below, c.len-len.ensures.few, c.limits.ensures.bounds.places_high)

pub replace-requires : goal.replace-requires
replace-requires g c =
    let t = c.args.rows.now in
    let row = cell-row c.requires.may c.place_row.new.row c.in-Ok.ensures.row in
    let kept = up-to-date c.requires.may c.limits.ensures.same c.limits.ensures.bounds c.len-len.ensures.few c.len-len.ensures.fit in
    (c.in_ok-pending.ensures.replaces t.places (c.place_row.new.row, refl, row) kept).may

pub returns-in-Ok-set : goal.returns-in-Ok-set
returns-in-Ok-set g c =
    let t = c.args.rows.now in
    let new = c.set.new.self in
    let to = c.args.to in
    let done = c.in-Ok-set.ensures in
    let row = cell-row c.requires.may c.place_row.new.row c.in-Ok.ensures.row in
    let fresh = up-to-date c.requires.may c.limits.ensures.same c.limits.ensures.bounds c.len-len.ensures.few c.len-len.ensures.fit in
    let made = made-with t new c.args.place c.args.column (cell_of c.args.value.now) (cell.Int to) (ap cell_of c.requires.number) done.put.made in
    let kept = keeps-after t new (edit.Set c.args.place c.args.column (cell.Int to)) c.limits.result.now c.replace.new.self c.limits.ensures.same made
    (subst (λ (registry : List RegistryEntry). Keeps c.limits.result.now.group (places_after (edit.Set c.args.place c.args.column (cell.Int to)) t.places) registry) (sym (simp (to_z-of_z, c.ranges.to) at c.replace.ensures.replaced)) ((c.in_ok-pending.ensures.replaces t.places (c.place_row.new.row, refl, row) fresh).kept to)) in
    cell-changed c.requires.may done.put kept (c.replace.ensures.registered ∙ ap registered_of c.in_ok-pending.ensures.same) done.kept

no_refusal : (r : Refusal) → Some r ≡ None → ⊥
no_refusal r h = cc

pub unreachable-requires : goal.unreachable-requires
unreachable-requires g c =
    no_refusal c.in_default.field-0 (c.in_default.ensures.refused ∙ cell-here c.requires.may)

pub returns-in-Err : goal.returns-in-Err
returns-in-Err g c =
    let t = c.args.rows.now in
    let same = c.end.ensures.same ∙ c.in_ok-pending.ensures.same in
    let kept = subst (λ (registry : List RegistryEntry). Keeps t.limits.group t.places registry) (sym same) c.requires.may.kept in
    cell-unchanged c.requires.may c.in-Err.ensures.err c.in-Err.ensures.memory kept (ap registered_of same)
