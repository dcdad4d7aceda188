use Rattle.std.proofs.Common.{sym, refl, subst}
use Rattle.far_extrema.specs.Spreads.{IsTopOf}
use Rattle.far_extrema.specs.Runs.{paired}
use Rattle.far_extrema.proofs.RunsLaws.{top_kept, top_joined}
use Rattle.far_extrema.proofs.run.top_after.Goals as goal

pub returns-then-is_kept : goal.returns-then-is_kept
returns-then-is_kept c old g there set t =
    let new = paired c.args.groups.now c.args.values.now in
    subst (IsTopOf new) (sym c.either.ensures) (top_kept old new g c.args.previous c.args.now c.args.top there set t (c.if-is_kept.ensures refl))

pub returns : goal.returns
returns c old g there set t =
    subst (IsTopOf (paired c.args.groups.now c.args.values.now)) (sym c.joined.ensures) (top_joined 0 c.args.groups.now c.args.values.now c.requires.0 c.requires.1)
