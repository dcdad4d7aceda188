use Rattle.std.proofs.Common.{sym, refl, subst}
use Rattle.far_extrema.specs.Runs.{IsKept}
use Rattle.far_extrema.proofs.RunsLaws.{kept_covered, kept_inside}
use Rattle.far_extrema.proofs.run.is_kept.Goals as goal

pub returns-then-covers : goal.returns-then-covers
returns-then-covers c t =
    let wide = c.if-covers.ensures refl in
    subst (IsKept c.args.top.now c.args.previous) (sym c.in-Some.is) (kept_covered c.args.top.now c.args.previous c.in-Some.now wide.0 wide.1)

pub returns-in-Some-top : goal.returns-in-Some-top
returns-in-Some-top c t =
    let inside = c.surpasses.ensures t in
    subst (λ top. IsKept top c.args.previous c.args.now.now) (sym c.in-Some-top.is) (kept_inside c.in-Some-top.top c.args.previous c.args.now.now inside.0 inside.1)
