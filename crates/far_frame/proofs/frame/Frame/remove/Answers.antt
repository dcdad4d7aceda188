use Rattle.std.proofs.Common.{◌≡◌, ◌/◌, ◌∙◌, Some, None, ap, refl, arith}
use Rattle.far_types.specs.declared.edit.Edit.TheVariants as edit
use Rattle.far_types.specs.declared.limits.Limits.{Limits}
use Rattle.far_types.specs.declared.refusal.Refusal.{Refusal}
use Rattle.far_types.specs.FirstOf.{first_of}
use Rattle.far_rows.specs.Refusing.{absents}
use Rattle.far_frame.proofs.LiveEdits.{keeps-fit, same-live, made-checked, made-live, retracts-after, remove-here, remove-below, remove-row, remove-inside}
use Rattle.far_frame.proofs.GroupsRetract.{absents-cleared}
use Rattle.far_frame.proofs.frame.Frame.remove.Goals as goal

pub invariant_of-self-in_err-pending : goal.invariant_of-self-in_err-pending
invariant_of-self-in_err-pending g c =
    let t = c.self.inside.rows in
    let n = c.self.inside.registrations in
    let e = c.in_err-pending.ensures in
    same-live t n c.self.inside.aggregates c.leave.new.self e.registered c.self.invariant (e.unchanged t.limits.group t.places c.self.invariant.kept)

pub retract_row-requires-clause-inside : goal.retract_row-requires-clause-inside
retract_row-requires-clause-inside g c κs within = remove-inside c.self.inside.rows c.args.place c.in_ok-_row.ensures.refused c.remove-2.new.self c.remove-2.ensures.made

pub retract_row-requires-clause-here : goal.retract_row-requires-clause-here
retract_row-requires-clause-here g c κs within =
    let old = c.self.inside.rows in
    let new = c.remove-2.new.self in
    let bounds = c.remove-2.ensures.made.limits in
    ap (λ (l : Limits). first_of (absents new.held (c.args.place / l.group))) bounds
    ∙ ap first_of (absents-cleared old.held _ new.held (c.args.place / old.limits.group) c.remove-2.ensures.held)
    ∙ remove-here old c.args.place c.in_ok-_row.ensures.refused

pub retract_row-requires-clause-checked : goal.retract_row-requires-clause-checked
retract_row-requires-clause-checked g c κs within = made-checked c.self.inside.rows c.remove-2.new.self (edit.Remove c.args.place) c.self.inside.registrations c.self.inside.aggregates c.leave.new.self c.remove-2.ensures.made c.in_ok-pending.ensures.registered c.self.invariant

pub retract_row-requires-clause-retracts : goal.retract_row-requires-clause-retracts
retract_row-requires-clause-retracts g c κs within =
    let old = c.self.inside.rows in
    let e = c.in_ok-pending.ensures in
    let row = remove-row old c.args.place c.in_ok-_row.ensures.refused c.place_row.new.row c.in-Ok.ensures.row in
    let kept = keeps-fit old c.self.inside.registrations c.self.inside.aggregates c.limits.result.now c.limits.ensures.same c.limits.ensures.bounds c.len-len.ensures.few c.len-len.ensures.fit c.self.invariant in
    retracts-after old c.remove-2.new.self (edit.Remove c.args.place) c.args.place c.limits.result.now c.leave.new.self c.in_ok-pending.pending c.limits.ensures.same c.remove-2.ensures.made
    (e.retracts old.places (c.place_row.new.row, refl, row) kept)

pub invariant_of-self-2 : goal.invariant_of-self-2
invariant_of-self-2 g c =
    made-live c.self.inside.rows c.remove-2.new.self (edit.Remove c.args.place) c.self.inside.registrations c.self.inside.aggregates c.retract_row.new.aggregates c.remove-2.ensures.made
    (c.retract_row.ensures.registered ∙ c.in_ok-pending.ensures.registered) c.self.invariant c.retract_row.ensures.kept

pub place_row-requires-clause-place : goal.place_row-requires-clause-place
place_row-requires-clause-place g c κs within = remove-below c.self.inside.rows c.args.place c.in_ok-_row.ensures.refused

pub invariant_of-self : goal.invariant_of-self
invariant_of-self g c =
    let registry = c.self.inside.aggregates in
    let new = c.remove.new.self in
    made-live c.self.inside.rows new (edit.Remove c.args.place) c.self.inside.registrations registry registry c.remove.ensures.made refl c.self.invariant
    (c.is_empty.ensures c.if-is_empty.true new.limits.group new.places)

pub leave-requires-clause-few : goal.leave-requires-clause-few
leave-requires-clause-few g c =
    let below = remove-below c.self.inside.rows c.args.place c.in_ok-_row.ensures.refused in
    omega (arith, below, c.len-len.ensures.few, c.limits.ensures.bounds.places_high)

no_refusal : (r : Refusal) → Some r ≡ None → ⊥
no_refusal r h = cc

pub unreachable-requires : goal.unreachable-requires
unreachable-requires g c = no_refusal c.in_default.field-0 (c.in_default.ensures.refused ∙ remove-here c.self.inside.rows c.args.place c.in_ok-_row.ensures.refused)
