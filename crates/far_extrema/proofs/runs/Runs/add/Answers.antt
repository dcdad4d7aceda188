use Rattle.std.proofs.Common.{refl, sym, subst, ap, ◌∙◌, Some, set, arith}
use Rattle.far_extrema.specs.Spreads.{at, IsSet, IsTopOf}
use Rattle.far_extrema.specs.Runs.{RunState, AreParts, whole}
use Rattle.far_extrema.proofs.RunsLaws.{top_added}
use Rattle.far_extrema.proofs.PartsLaws.{part_changed, part_there, part_in_range}
use Rattle.far_extrema.proofs.runs.Runs.add.Goals as goal

pub index_mut-requires : goal.index_mut-requires
index_mut-requires c =
    let within = part_in_range c.place_for.new.firsts.items c.place_for.new.runs.items c.args.group c.in_ok-place.place c.place_for.ensures.parts c.in_ok-place.ensures.part in
    omega (arith, within)

pub add-requires : goal.add-requires
add-requires c =
    sym (part_there c.place_for.new.firsts.items c.place_for.new.runs.items c.args.group c.in_ok-place.place c.index_mut.result.now c.place_for.ensures.rise c.place_for.ensures.parts c.in_ok-place.ensures.part c.index_mut.ensures.value)
    ∙ ap (λ mm. at mm c.args.group) c.place_for.ensures.same ∙ ap (λ (s : RunState). at s.min_maxes c.args.group) c.self.view_is ∙ c.requires

edit : (c : goal.After-self-3-1) → AreParts c.place_for.new.firsts.items (set c.place_for.new.runs.items c.in_ok-place.place c.add.new.self) × IsSet (whole c.self.inside.runs.items) c.args.group (Some c.args.min_max) (whole (set c.place_for.new.runs.items c.in_ok-place.place c.add.new.self))
edit c =
    subst (λ mm. AreParts c.place_for.new.firsts.items (set c.place_for.new.runs.items c.in_ok-place.place c.add.new.self) × IsSet mm c.args.group (Some c.args.min_max) (whole (set c.place_for.new.runs.items c.in_ok-place.place c.add.new.self))) c.place_for.ensures.same
    (part_changed c.place_for.new.firsts.items c.place_for.new.runs.items (set c.place_for.new.runs.items c.in_ok-place.place c.add.new.self) c.args.group c.in_ok-place.place (Some c.args.min_max) c.index_mut.result.now c.add.new.self c.place_for.ensures.rise c.place_for.ensures.parts c.in_ok-place.ensures.part c.index_mut.ensures.value c.in_ok-add.ensures.ok refl)

pub invariant_of-self-2 : goal.invariant_of-self-2
invariant_of-self-2 c =
    let new = whole (set c.place_for.new.runs.items c.in_ok-place.place c.add.new.self) in
    let none = ap (λ (s : RunState). at s.min_maxes c.args.group) c.self.view_is ∙ c.requires in (
      c.place_for.ensures.rise,
      (edit c).0,
      subst (IsTopOf new) (sym c.either-self-inside.ensures) (top_added (whole c.self.inside.runs.items) new c.args.group c.args.min_max c.self.inside.top none (edit c).1 c.self.invariant.2),
      tt,
    )

pub returns-clause-ok : goal.returns-clause-ok
returns-clause-ok c = subst (λ (s : RunState). IsSet s.min_maxes c.args.group (Some c.args.min_max) (whole (set c.place_for.new.runs.items c.in_ok-place.place c.add.new.self))) c.self.view_is (edit c).1
