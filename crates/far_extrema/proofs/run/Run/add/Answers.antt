use Rattle.std.proofs.Common.{◌≡◌, ap, ◌∙◌, subst, Some, None}
use Rattle.far_extrema.specs.Spreads.{at, IsSet}
use Rattle.far_extrema.specs.Runs.{RunState, paired}
use Rattle.far_extrema.proofs.RunsLaws.{top_inserted}
use Rattle.far_extrema.proofs.run.Run.add.Goals as goal

pub invariant_of-self-2 : goal.invariant_of-self-2
invariant_of-self-2 c =
    let gs = c.self.inside.groups.items in
    let xs = c.self.inside.values.items in
    let none : at (paired gs xs) c.args.group ≡ None = ap (λ (h : RunState). at h.min_maxes c.args.group) c.self.view_is ∙ c.requires in
    let set = subst (λ gs'. IsSet (paired gs' xs) c.args.group (Some c.args.min_max) (paired c.insert_in.new.groups.items c.insert_in.new.values.items)) c.reserve.ensures.items
    (subst (λ xs'. IsSet (paired c.reserve.new.self.items xs') c.args.group (Some c.args.min_max) (paired c.insert_in.new.groups.items c.insert_in.new.values.items)) c.reserve-2.ensures.items c.insert_in.ensures.set) in
    (c.insert_in.ensures.order, top_inserted (paired gs xs) c.insert_in.new.groups.items c.insert_in.new.values.items c.args.group c.args.min_max c.self.inside.top c.either-self-inside.result none set c.self.invariant.1 c.either-self-inside.ensures)
