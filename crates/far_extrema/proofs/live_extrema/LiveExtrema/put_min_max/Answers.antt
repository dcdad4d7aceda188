use Rattle.std.proofs.Common.{◌<◌, length, sym, ap, ◌∙◌, arith, Some, None}
use Rattle.std.specs.Prelude.{slice_set}
use Rattle.std.specs.FinMap as fin
use Rattle.far_extrema.specs.Live.{ExtremaState, group_at}
use Rattle.far_extrema.specs.MinMaxes.{put_min_max}
use Rattle.far_extrema.proofs.HoldersLaws.{get-group_at, length-groups_in, put-in, reserved-put, same-reserved}
use Rattle.far_extrema.proofs.live_extrema.LiveExtrema.put_min_max.Goals as goal

pub set_in-requires : goal.set_in-requires
set_in-requires c = λ e. c.requires.there (ap (λ (live : ExtremaState). fin.get (group_at live.groups c.args.group) c.args.key.now) (sym c.self.view_is) ∙ get-group_at c.self.inside.holders c.self.inside.reserved_groups c.args.group c.args.key.now c.self.invariant ∙ e)

pub leave_in-requires : goal.leave_in-requires
leave_in-requires c = λ e. c.requires.there (ap (λ (live : ExtremaState). fin.get (group_at live.groups c.args.group) c.args.key.now) (sym c.self.view_is) ∙ get-group_at c.self.inside.holders c.self.inside.reserved_groups c.args.group c.args.key.now c.self.invariant ∙ e)

pub invariant_of-self : goal.invariant_of-self
invariant_of-self c =
    let m = c.self.inside.holders in
    let long = ap (λ (live : ExtremaState). length live.groups) c.self.view_is in
    reserved-put m _ c.self.inside.reserved_groups c.args.group c.args.key.now (Some c.in-Some.min_max) c.self.invariant (omega (arith, long, length-groups_in m c.self.inside.reserved_groups, c.requires.reserved)) c.set_in.ensures.min_maxes

pub invariant_of-self-in-None : goal.invariant_of-self-in-None
invariant_of-self-in-None c =
    let m = c.self.inside.holders in
    let long = ap (λ (live : ExtremaState). length live.groups) c.self.view_is in
    reserved-put m _ c.self.inside.reserved_groups c.args.group c.args.key.now None c.self.invariant (omega (arith, long, length-groups_in m c.self.inside.reserved_groups, c.requires.reserved)) c.leave_in.ensures.min_maxes

pub returns-in-Some : goal.returns-in-Some
returns-in-Some c =
    let m = c.self.inside.holders in
    let left = ap (λ (live : ExtremaState). live.left) c.self.view_is in
    let groups = ap (λ (live : ExtremaState). live.groups) c.self.view_is in
    let less : c.args.group < c.self.inside.reserved_groups = omega (arith, ap length groups, length-groups_in m c.self.inside.reserved_groups, c.requires.reserved) in
    let new =
    put-in m c.set_in.new.holders c.self.inside.reserved_groups c.args.group c.args.key.now (Some c.in-Some.min_max) less c.set_in.ensures.min_maxes
    ∙ ap (λ gs. slice_set gs c.args.group (put_min_max (group_at gs c.args.group) c.args.key.now (Some c.in-Some.min_max))) groups
    ∙ ap (λ o. slice_set c.args.self.now.groups c.args.group (put_min_max (group_at c.args.self.now.groups c.args.group) c.args.key.now o)) (sym c.in-Some.is) in
    let reserved = same-reserved m c.set_in.new.holders c.set_in.ensures.reserved ∙ ap (λ (live : ExtremaState). live.reserved) c.self.view_is in
    λ i. record { left = left i; groups = new i; reserved = reserved i }

pub returns-in-None : goal.returns-in-None
returns-in-None c =
    let m = c.self.inside.holders in
    let left = ap (λ (live : ExtremaState). live.left) c.self.view_is in
    let groups = ap (λ (live : ExtremaState). live.groups) c.self.view_is in
    let less : c.args.group < c.self.inside.reserved_groups = omega (arith, ap length groups, length-groups_in m c.self.inside.reserved_groups, c.requires.reserved) in
    let new =
    put-in m c.leave_in.new.holders c.self.inside.reserved_groups c.args.group c.args.key.now None less c.leave_in.ensures.min_maxes
    ∙ ap (λ gs. slice_set gs c.args.group (put_min_max (group_at gs c.args.group) c.args.key.now None)) groups
    ∙ ap (λ o. slice_set c.args.self.now.groups c.args.group (put_min_max (group_at c.args.self.now.groups c.args.group) c.args.key.now o)) (sym c.in-None.is) in
    let reserved = same-reserved m c.leave_in.new.holders c.leave_in.ensures.reserved ∙ ap (λ (live : ExtremaState). live.reserved) c.self.view_is in
    λ i. record { left = left i; groups = new i; reserved = reserved i }
