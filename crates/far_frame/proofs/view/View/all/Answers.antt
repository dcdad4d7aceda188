use Rattle.std.proofs.Common.{◌≡◌, ◌+◌, ◌-◌, ◌<◌, ◌/◌, suc, None, length, sym, ap, subst, ◌∙◌, arith}
use Rattle.std.proofs.lemmas.Result.{err_from_is_err_and}
use Rattle.far_types.specs.declared.limits.Limits.{Limits}
use Rattle.far_types.specs.FirstOf.{first_of}
use Rattle.far_types.specs.Table.{groups}
use Rattle.far_table.specs.State.{LiveState}
use Rattle.far_frame.specs.Views.{absents_of, away}
use Rattle.far_frame.proofs.ViewsLaws.{here-first, away-first, each-here, group-within}
use Rattle.far_frame.proofs.view.View.all.Goals as goal

pub returns-in_err-here-clause-refused : goal.returns-in_err-here-clause-refused
returns-in_err-here-clause-refused g c =
    let p = err_from_is_err_and c.from_residual.result c.from_residual.ensures.1 in
    let held = c.held-held.result.now in
    let at = c.loop-group.group in
    let left = c.groups-group-end.result - (at + 1) in
    let more : c.groups-group-end.result - at ≡ suc left = omega (arith, c.loop-group-test.true) in
    rw (p.1, p.2) (sym (c.loop-group.invariant ∙ ap (λ n. first_of (absents_of held at n)) more ∙ away-first held at left c.in_err-here.field-0.0 (sym c.in_err-here.ensures)))

pub loop-group-preserved : goal.loop-group-preserved
loop-group-preserved g c =
    let held = c.held-held.result.now in
    let at = c.loop-group.group in
    let left = c.groups-group-end.result - (at + 1) in
    let more : c.groups-group-end.result - at ≡ suc left = omega (arith, c.loop-group-test.true) in
    c.loop-group.invariant ∙ ap (λ n. first_of (absents_of held at n)) more ∙ here-first held at left (sym c.in_ok-here.ensures)

pub returns-clause-here : goal.returns-clause-here
returns-clause-here g c =
    let s = c.args.self.now in
    let held = c.held-held.result.now in
    let at = c.loop-group.group in
    let none : c.groups-group-end.result - at ≡ 0 = omega (arith, c.loop-group-test.false) in
    let free : away s ≡ None = c.loop-group.invariant ∙ ap (λ n. first_of (absents_of held at n)) none in
    let some : 0 < s.table.limits.group = subst (λ (limits : Limits). 0 < limits.group) (c.rows-rows.ensures.limits ∙ ap (λ (t : LiveState g.row.S-Ticket.Denot). t.table.limits) c.self.view_is) (omega (arith, c.limits-limits.ensures.bounds.group_low)) in
    λ place below. each-here s.rows 0 (groups s.table.limits.group (length s.table.places)) free (place / s.table.limits.group) (omega arith) (let within = group-within place s.table.limits.group (length s.table.places) some below in omega (arith, within))
