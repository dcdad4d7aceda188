use Rattle.std.proofs.Common.{◌≡◌, sym, subst, None, Some}
use Rattle.far_extrema.specs.Spreads.{at}
use Rattle.far_extrema.specs.Runs.{RunState}
use Rattle.far_extrema.proofs.RunsLaws.{stands, gap_absent}
use Rattle.far_extrema.specs.Runs.{IsAt, IsGap}
use Rattle.far_extrema.proofs.run.Run.min_max.Goals as goal

pub returns-in-Ok : goal.returns-in-Ok
returns-in-Ok c =
    let place = subst (λ gs. IsAt gs c.args.group c.in-Ok.place) c.deref.ensures.value c.in-Ok.ensures.found in
    subst (λ (h : RunState). Some c.index.result.now ≡ at h.min_maxes c.args.group) c.self.view_is
    (sym (stands c.self.inside.groups.items c.self.inside.values.items c.args.group c.in-Ok.place c.index.result.now c.self.invariant.0 place c.index.ensures))

pub returns-in-Err : goal.returns-in-Err
returns-in-Err c =
    let gap = subst (λ gs. IsGap gs c.args.group c.in-Err.field-0) c.deref.ensures.value c.in-Err.ensures.absent in
    subst (λ (h : RunState). None ≡ at h.min_maxes c.args.group) c.self.view_is
    (sym (gap_absent c.self.inside.groups.items c.self.inside.values.items c.args.group c.in-Err.field-0 gap))
