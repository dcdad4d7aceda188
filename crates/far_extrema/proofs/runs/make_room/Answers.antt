use Rattle.std.proofs.Common.{◌≡◌, suc, subst, ap, ◌∙◌, arith, set, get_or}
use Rattle.std.specs.List.{insert}
use Rattle.far_extrema.specs.Runs.{RiseFrom, AreParts, whole, IsCut}
use Rattle.far_extrema.proofs.PartsLaws.{reached, reached_more, parts_length, room_length, cut_in}
use Rattle.far_extrema.proofs.runs.make_room.Goals as goal

pub index_mut-requires : goal.index_mut-requires
index_mut-requires c =
    let same = parts_length c.args.firsts.now.items c.args.runs.now.items c.requires.parts in
    let within = c.requires.part.in_range in
    omega (arith, same, within, c.reserve-2.ensures.len)

pub put_after-requires-clause-same : goal.put_after-requires-clause-same
put_after-requires-clause-same c =
    rw (c.reserve.ensures.items) (room_length c.args.firsts.now.items c.args.runs.now.items _ c.args.place c.cut_if_full.new.self c.requires.parts (ap (λ rs. set rs c.args.place c.cut_if_full.new.self) c.reserve-2.ensures.items))

edit : (c : goal.After-put_after) → (RiseFrom 0 c.put_after.new.firsts.items × AreParts c.put_after.new.firsts.items c.put_after.new.runs.items) × (whole c.put_after.new.runs.items ≡ whole c.args.runs.now.items)
edit c =
    cut_in c.args.firsts.now.items c.put_after.new.firsts.items c.args.runs.now.items c.put_after.new.runs.items c.args.place c.in-Some.first c.args.group c.index_mut.result.now c.cut_if_full.new.self c.in-Some.late c.requires.rise c.requires.parts c.requires.part
    (c.index_mut.ensures.value ∙ ap (λ rs. get_or rs c.args.place c.index_mut.result.now) c.reserve-2.ensures.items) (subst (IsCut c.args.group c.index_mut.result.now.min_maxes c.cut_if_full.new.self.min_maxes) c.in-Some.is c.in_ok-first.ensures.cut)
    (c.put_after.ensures.firsts ∙ ap (λ fs. insert fs (suc c.args.place) c.in-Some.first) c.reserve.ensures.items)
    (c.put_after.ensures.runs ∙ ap (λ rs. insert (set rs c.args.place c.cut_if_full.new.self) (suc c.args.place) c.in-Some.late) c.reserve-2.ensures.items)

pub returns-in-Some-clause-rise : goal.returns-in-Some-clause-rise
returns-in-Some-clause-rise c = (edit c).0.0

pub returns-in-Some-clause-parts : goal.returns-in-Some-clause-parts
returns-in-Some-clause-parts c = (edit c).0.1

pub returns-in-Some-clause-same : goal.returns-in-Some-clause-same
returns-in-Some-clause-same c = (edit c).1

pub returns-in-Some-clause-reached : goal.returns-in-Some-clause-reached
returns-in-Some-clause-reached c =
    reached_more c.reserve.new.self.items c.put_after.new.firsts.items c.args.group c.args.place c.in-Some.first
    (reached c.args.firsts.now.items c.reserve.new.self.items c.args.group c.args.place c.requires.rise c.requires.part c.reserve.ensures.items) c.put_after.ensures.firsts

pub returns-in_default-clause-reached : goal.returns-in_default-clause-reached
returns-in_default-clause-reached c = reached c.args.firsts.now.items c.reserve.new.self.items c.args.group c.args.place c.requires.rise c.requires.part c.reserve.ensures.items
