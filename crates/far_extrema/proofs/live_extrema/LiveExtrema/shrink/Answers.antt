use Rattle.std.proofs.Common.{◌<◌, length, sym, ap, ◌∙◌, arith}
use Rattle.std.specs.Prelude.{slice_set}
use Rattle.std.specs.FinMap as fin
use Rattle.std.proofs.lemmas.Int.{to_z-of_z}
use Rattle.far_extrema.specs.Live.{ExtremaState, group_at}
use Rattle.far_extrema.specs.MinMaxes.{put_min_max}
use Rattle.far_extrema.proofs.HoldersLaws.{get-group_at, length-groups_in, put-in, reserved-put, same-reserved}
use Rattle.far_extrema.proofs.live_extrema.LiveExtrema.shrink.Goals as goal

pub shrink_in-requires-clause-previous : goal.shrink_in-requires-clause-previous
shrink_in-requires-clause-previous g c =
    let fits = c.ranges.value in
    let m = c.self.inside.holders in
    let previous =
    sym (ap (λ (live : ExtremaState). fin.get (group_at live.groups c.args.group) c.args.key.now) (sym c.self.view_is) ∙ get-group_at m c.self.inside.reserved_groups c.args.group c.args.key.now c.self.invariant)
    ∙ c.requires.previous in
    grind (arith, to_z-of_z, previous)

pub invariant_of-self : goal.invariant_of-self
invariant_of-self g c =
    let m = c.self.inside.holders in
    let long = ap (λ (live : ExtremaState). length live.groups) c.self.view_is in
    reserved-put m c.shrink_in.new.holders c.self.inside.reserved_groups c.args.group c.args.key.now (g.R.RowsLeft.extremes c.args.rows.now) c.self.invariant
    (omega (arith, long, length-groups_in m c.self.inside.reserved_groups, c.requires.reserved)) c.shrink_in.ensures.min_maxes

pub returns-clause-shrunk : goal.returns-clause-shrunk
returns-clause-shrunk g c =
    let m = c.self.inside.holders in
    let o = g.R.RowsLeft.extremes c.args.rows.now in
    let left = ap (λ (live : ExtremaState). live.left) c.self.view_is in
    let groups = ap (λ (live : ExtremaState). live.groups) c.self.view_is in
    let less : c.args.group < c.self.inside.reserved_groups = omega (arith, ap length groups, length-groups_in m c.self.inside.reserved_groups, c.requires.reserved) in
    let new =
    put-in m c.shrink_in.new.holders c.self.inside.reserved_groups c.args.group c.args.key.now o less c.shrink_in.ensures.min_maxes
    ∙ ap (λ gs. slice_set gs c.args.group (put_min_max (group_at gs c.args.group) c.args.key.now o)) groups in
    let reserved = same-reserved m c.shrink_in.new.holders c.shrink_in.ensures.reserved ∙ ap (λ (live : ExtremaState). live.reserved) c.self.view_is in
    λ i. record { left = left i; groups = new i; reserved = reserved i }
