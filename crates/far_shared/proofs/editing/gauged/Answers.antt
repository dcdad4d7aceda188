use Rattle.std.proofs.Common.{◌≡◌, Some, ap, ◌∙◌, rules}
use Rattle.std.specs.Prelude.{ℤ}
use mir.Val.{SFits}
use mir.Syntax.{w128}
use Rattle.std.proofs.lemmas.Int.{to_z-of_z}
use Rattle.far_aggregates.specs.Readings.{plain_in}
use Rattle.far_sessions.specs.Histories.{folded}
use Rattle.far_shared.proofs.StripesLaws.{plan-plain, plain-read, same-read, reading, reads-as}
use Rattle.far_shared.proofs.editing.gauged.Goals as goal

pub unreachable-requires : goal.unreachable-requires
unreachable-requires g c =
    let p = g.N.PlanTag.plan in
    let places = c.args.frame.now.table.places in
    c.in_default.not-Some (folded p.gauge places) (c.plain.ensures ∙ ap (plain_in places) c.requires.gauge ∙ plain-read p.gauge places (plan-plain p c.requires.plan))

pub returns : goal.returns
returns g c =
    let p = g.N.PlanTag.plan in
    let places = c.args.frame.now.table.places in
    let read : c.plain.result ≡ Some (folded p.gauge places) = c.plain.ensures ∙ ap (plain_in places) c.requires.gauge ∙ plain-read p.gauge places (plan-plain p c.requires.plan) in
    let fits : SFits w128 c.in-Some.sum = search rules in
    ap (λ (sum : ℤ). reading c.args.edits (c.in-Some.count, sum)) (to_z-of_z w128 c.in-Some.sum fits)
    ∙ reads-as c.args.edits (c.in-Some.count, c.in-Some.sum) (folded p.gauge places) (same-read c.plain.result _ _ c.in-Some.is read)
