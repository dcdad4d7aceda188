use Rattle.std.proofs.Common.{refl, sym, subst, ap, ◌∙◌, Some, set, length, arith}
use Rattle.std.proofs.lemmas.List.{length-set}
use Rattle.far_types.specs.Effects.{join_min_maxes, merge_two}
use Rattle.far_extrema.specs.Spreads.{at, IsSet, IsTopOf}
use Rattle.far_extrema.specs.Runs.{RunState, IsPart, IsGap, whole}
use Rattle.far_extrema.proofs.PartsLaws.{part_changed, part_kept, written_at, part_there, part_in_range, none_before}
use Rattle.far_extrema.proofs.ApartLaws.{apart_stays, apart_hand, with_others}
use Rattle.far_extrema.proofs.runs.Runs.put.Goals as goal

pub index-requires : goal.index-requires
index-requires c =
    let part = subst (λ fs. IsPart fs c.args.group c.in-Some.place) c.deref.ensures.value c.in-Some.ensures.some in
    let within = part_in_range c.self.inside.firsts.items c.self.inside.runs.items c.args.group c.in-Some.place c.self.invariant.1 part in
    omega (arith, within)

pub index-requires-in-Some : goal.index-requires-in-Some
index-requires-in-Some c =
    let part = subst (λ fs. IsPart fs c.args.group c.in-Some.place) c.deref.ensures.value c.in-Some.ensures.some in
    let within = part_in_range c.self.inside.firsts.items c.self.inside.runs.items c.args.group c.in-Some.place c.self.invariant.1 part in
    omega (arith, within)

pub index_mut-requires : goal.index_mut-requires
index_mut-requires c =
    let part = subst (λ fs. IsPart fs c.args.group c.in-Some.place) c.deref.ensures.value c.in-Some.ensures.some in
    let within = part_in_range c.self.inside.firsts.items c.self.inside.runs.items c.args.group c.in-Some.place c.self.invariant.1 part in
    omega (arith, within)

pub put-requires : goal.put-requires
put-requires c none =
    let part = subst (λ fs. IsPart fs c.args.group c.in-Some.place) c.deref.ensures.value c.in-Some.ensures.some in
    c.requires (sym (ap (λ (s : RunState). at s.min_maxes c.args.group) c.self.view_is) ∙ part_there c.self.inside.firsts.items c.self.inside.runs.items c.args.group c.in-Some.place c.index_mut.result.now c.self.invariant.0 c.self.invariant.1 part c.index_mut.ensures.value ∙ none)

pub invariant_of-self : goal.invariant_of-self
invariant_of-self c =
    let fs = c.self.inside.firsts.items in
    let rs = c.self.inside.runs.items in
    let part = subst (λ fs. IsPart fs c.args.group c.in-Some.place) c.deref.ensures.value c.in-Some.ensures.some in
    let within = part_in_range fs rs c.args.group c.in-Some.place c.self.invariant.1 part in
    let parts = (part_changed fs rs (set rs c.in-Some.place c.put.new.self) c.args.group c.in-Some.place (Some c.args.min_max) c.index_mut.result.now c.put.new.self c.self.invariant.0 c.self.invariant.1 part c.index_mut.ensures.value c.put.ensures refl).0 in
    let after = subst (λ (s : RunState). IsTopOf s.min_maxes c.top-after.result) (c.index-in-Some.ensures ∙ written_at rs c.in-Some.place c.put.new.self c.index-in-Some.result.now within) c.top-after.ensures.top in (
      c.self.invariant.0,
      parts,
      part_kept fs rs (set rs c.in-Some.place c.put.new.self) c.in-Some.place c.index.result.now c.put.new.self c.top-before.result c.top-after.result c.self.inside.top c.self.invariant.0 c.self.invariant.1 parts within c.index.ensures refl c.top-before.ensures.top after (c.if-are_same.ensures refl) c.self.invariant.2,
      apart_stays fs rs c.in-Some.place c.put.new.self c.self.inside.apart c.apart_at-self-inside.result c.apart_at-self-inside.ensures.same c.apart_at-self-inside.ensures.place c.self.invariant.3,
    )

pub unreachable-requires : goal.unreachable-requires
unreachable-requires c =
    let gap = subst (λ fs. IsGap fs c.args.group 0) c.deref.ensures.value (c.in-None.ensures.none refl) in
    c.requires (sym (ap (λ (s : RunState). at s.min_maxes c.args.group) c.self.view_is) ∙ none_before c.self.inside.firsts.items c.self.inside.runs.items c.args.group c.self.invariant.0 c.self.invariant.1 gap)

pub returns-then-are_same : goal.returns-then-are_same
returns-then-are_same c =
    let part = subst (λ fs. IsPart fs c.args.group c.in-Some.place) c.deref.ensures.value c.in-Some.ensures.some in
    let edit = part_changed c.self.inside.firsts.items c.self.inside.runs.items (set c.self.inside.runs.items c.in-Some.place c.put.new.self) c.args.group c.in-Some.place (Some c.args.min_max) c.index_mut.result.now c.put.new.self c.self.invariant.0 c.self.invariant.1 part c.index_mut.ensures.value c.put.ensures refl in
    subst (λ (s : RunState). IsSet s.min_maxes c.args.group (Some c.args.min_max) (whole (set c.self.inside.runs.items c.in-Some.place c.put.new.self))) c.self.view_is edit.1

pub others_of-others-requires-clause-parts : goal.others_of-others-requires-clause-parts
others_of-others-requires-clause-parts c =
    let part = subst (λ fs. IsPart fs c.args.group c.in-Some.place) c.deref.ensures.value c.in-Some.ensures.some in
    rw (c.deref-in-Some.ensures.value, c.deref-in-Some-2.ensures.value) (part_changed c.self.inside.firsts.items c.self.inside.runs.items _ c.args.group c.in-Some.place (Some c.args.min_max) c.index_mut.result.now c.put.new.self c.self.invariant.0 c.self.invariant.1 part c.index_mut.ensures.value c.put.ensures refl).0

pub others_of-others-requires-clause-in_firsts : goal.others_of-others-requires-clause-in_firsts
others_of-others-requires-clause-in_firsts c =
    let part = subst (λ fs. IsPart fs c.args.group c.in-Some.place) c.deref.ensures.value c.in-Some.ensures.some in
    (let within = part.in_range in omega (arith, within, ap length c.deref-in-Some.ensures.value))

pub others_of-others-requires-clause-in_runs : goal.others_of-others-requires-clause-in_runs
others_of-others-requires-clause-in_runs c =
    let part = subst (λ fs. IsPart fs c.args.group c.in-Some.place) c.deref.ensures.value c.in-Some.ensures.some in
    let within = part_in_range c.self.inside.firsts.items c.self.inside.runs.items c.args.group c.in-Some.place c.self.invariant.1 part in
    omega (arith, within, length-set c.self.inside.runs.items c.in-Some.place c.put.new.self, ap length c.deref-in-Some-2.ensures.value)

pub others_of-others-requires-clause-apart : goal.others_of-others-requires-clause-apart
others_of-others-requires-clause-apart c =
    rw (c.deref-in-Some.ensures.value, c.deref-in-Some-2.ensures.value)
    (apart_hand c.self.inside.firsts.items c.self.inside.runs.items c.in-Some.place c.put.new.self c.self.inside.apart c.apart_at-self-inside.result c.apart_at-self-inside.ensures.same c.apart_at-self-inside.ensures.place c.self.invariant.3)

pub invariant_of-self-in-Some : goal.invariant_of-self-in-Some
invariant_of-self-in-Some c =
    let fs = c.self.inside.firsts.items in
    let rs' = set c.self.inside.runs.items c.in-Some.place c.put.new.self in
    let part = subst (λ fs. IsPart fs c.args.group c.in-Some.place) c.deref.ensures.value c.in-Some.ensures.some in
    let parts = (part_changed c.self.inside.firsts.items c.self.inside.runs.items _ c.args.group c.in-Some.place (Some c.args.min_max) c.index_mut.result.now c.put.new.self c.self.invariant.0 c.self.invariant.1 part c.index_mut.ensures.value c.put.ensures refl).0 in
    let others = rw (c.deref-in-Some.ensures.value, c.deref-in-Some-2.ensures.value) at c.others_of-others.ensures in
    let run = c.index-in-Some.result.now in
    let own : IsTopOf run.min_maxes run.top = subst (IsTopOf run.min_maxes) c.top-after.ensures.is c.top-after.ensures.top in
    let joined = with_others fs rs' c.in-Some.place run c.others_of-others.result parts c.index-in-Some.ensures own others in (
      c.self.invariant.0,
      parts,
      subst (IsTopOf (whole rs')) (sym (c.joined_two-self-inside.ensures ∙ ap (merge_two join_min_maxes c.others_of-others.result) c.top-after.ensures.is)) joined,
      others,
    )

pub returns : goal.returns
returns c =
    let part = subst (λ fs. IsPart fs c.args.group c.in-Some.place) c.deref.ensures.value c.in-Some.ensures.some in
    subst (λ (s : RunState). IsSet s.min_maxes c.args.group (Some c.args.min_max) (whole (set c.self.inside.runs.items c.in-Some.place c.put.new.self))) c.self.view_is (part_changed c.self.inside.firsts.items c.self.inside.runs.items _ c.args.group c.in-Some.place (Some c.args.min_max) c.index_mut.result.now c.put.new.self c.self.invariant.0 c.self.invariant.1 part c.index_mut.ensures.value c.put.ensures refl).1
