use Rattle.std.proofs.Common.{◌≡◌, ℕ, List, Option, refl, sym, subst, ap, ◌∙◌, None, set, get_or, length, arith}
use Rattle.std.specs.Prelude.{ℤ, IfSome}
use Rattle.far_types.specs.Effects.{join_min_maxes, merge_two}
use Rattle.far_extrema.specs.Spreads.{at, IsSet, IsTopOf}
use Rattle.far_extrema.specs.Runs.{RunState, IsPart, IsGap, whole, JoinsOthers}
use Rattle.far_extrema.proofs.PartsLaws.{part_changed, part_kept, written_at, part_there, part_in_range, none_before}
use Rattle.std.proofs.lemmas.List.{length-set}
use Rattle.far_extrema.proofs.ApartLaws.{apart_stays, apart_hand, with_others}
use Rattle.far_extrema.proofs.runs.Runs.leave.Goals as goal

pub index-requires : goal.index-requires
index-requires c =
    let part = subst (λ fs. IsPart fs c.args.group c.in-Some.place) c.deref.ensures.value c.in-Some.ensures.some in
    let within = part_in_range c.self.inside.firsts.items c.self.inside.runs.items c.args.group c.in-Some.place c.self.invariant.1 part in
    omega (arith, within)

pub index-requires-in-Some : goal.index-requires-in-Some
index-requires-in-Some c =
    let part = subst (λ fs. IsPart fs c.args.group c.in-Some.place) c.deref.ensures.value c.in-Some.ensures.some in
    let within = part_in_range c.self.inside.firsts.items c.self.inside.runs.items c.args.group c.in-Some.place c.self.invariant.1 part in
    omega (arith, within)

pub index_mut-requires : goal.index_mut-requires
index_mut-requires c =
    let part = subst (λ fs. IsPart fs c.args.group c.in-Some.place) c.deref.ensures.value c.in-Some.ensures.some in
    let within = part_in_range c.self.inside.firsts.items c.self.inside.runs.items c.args.group c.in-Some.place c.self.invariant.1 part in
    omega (arith, within)

pub leave-requires : goal.leave-requires
leave-requires c none =
    let part = subst (λ fs. IsPart fs c.args.group c.in-Some.place) c.deref.ensures.value c.in-Some.ensures.some in
    c.requires (sym (ap (λ (s : RunState). at s.min_maxes c.args.group) c.self.view_is) ∙ part_there c.self.inside.firsts.items c.self.inside.runs.items c.args.group c.in-Some.place c.index_mut.result.now c.self.invariant.0 c.self.invariant.1 part c.index_mut.ensures.value ∙ none)

pub invariant_of-self : goal.invariant_of-self
invariant_of-self c =
    let fs = c.self.inside.firsts.items in
    let rs = c.self.inside.runs.items in
    let part = subst (λ fs. IsPart fs c.args.group c.in-Some.place) c.deref.ensures.value c.in-Some.ensures.some in
    let within = part_in_range fs rs c.args.group c.in-Some.place c.self.invariant.1 part in
    let parts = (part_changed fs rs (set rs c.in-Some.place c.leave.new.self) c.args.group c.in-Some.place None c.index_mut.result.now c.leave.new.self c.self.invariant.0 c.self.invariant.1 part c.index_mut.ensures.value c.leave.ensures refl).0 in
    let after = subst (λ (s : RunState). IsTopOf s.min_maxes c.top-after.result) (c.index-in-Some.ensures ∙ written_at rs c.in-Some.place c.leave.new.self c.index-in-Some.result.now within) c.top-after.ensures.top in (
      c.self.invariant.0,
      parts,
      part_kept fs rs (set rs c.in-Some.place c.leave.new.self) c.in-Some.place c.index.result.now c.leave.new.self c.top-before.result c.top-after.result c.self.inside.top c.self.invariant.0 c.self.invariant.1 parts within c.index.ensures refl c.top-before.ensures.top after (c.if-are_same.ensures refl) c.self.invariant.2,
      apart_stays fs rs c.in-Some.place c.leave.new.self c.self.inside.apart c.apart_at-self-inside.result c.apart_at-self-inside.ensures.same c.apart_at-self-inside.ensures.place c.self.invariant.3,
    )

pub unreachable-requires : goal.unreachable-requires
unreachable-requires c =
    let gap = subst (λ fs. IsGap fs c.args.group 0) c.deref.ensures.value (c.in-None.ensures.none refl) in
    c.requires (sym (ap (λ (s : RunState). at s.min_maxes c.args.group) c.self.view_is) ∙ none_before c.self.inside.firsts.items c.self.inside.runs.items c.args.group c.self.invariant.0 c.self.invariant.1 gap)

pub returns-then-are_same : goal.returns-then-are_same
returns-then-are_same c =
    let part = subst (λ fs. IsPart fs c.args.group c.in-Some.place) c.deref.ensures.value c.in-Some.ensures.some in
    let edit = part_changed c.self.inside.firsts.items c.self.inside.runs.items (set c.self.inside.runs.items c.in-Some.place c.leave.new.self) c.args.group c.in-Some.place None c.index_mut.result.now c.leave.new.self c.self.invariant.0 c.self.invariant.1 part c.index_mut.ensures.value c.leave.ensures refl in
    subst (λ (s : RunState). IsSet s.min_maxes c.args.group None (whole (set c.self.inside.runs.items c.in-Some.place c.leave.new.self))) c.self.view_is edit.1

pub drop_if_empty-requires-clause-parts : goal.drop_if_empty-requires-clause-parts
drop_if_empty-requires-clause-parts c =
    let part = subst (λ fs. IsPart fs c.args.group c.in-Some.place) c.deref.ensures.value c.in-Some.ensures.some in
    (part_changed c.self.inside.firsts.items c.self.inside.runs.items (set c.self.inside.runs.items c.in-Some.place c.leave.new.self) c.args.group c.in-Some.place None c.index_mut.result.now c.leave.new.self c.self.invariant.0 c.self.invariant.1 part c.index_mut.ensures.value c.leave.ensures refl).0

pub drop_if_empty-requires-clause-in_range : goal.drop_if_empty-requires-clause-in_range
drop_if_empty-requires-clause-in_range c =
    let part = subst (λ fs. IsPart fs c.args.group c.in-Some.place) c.deref.ensures.value c.in-Some.ensures.some in
    let within = part_in_range c.self.inside.firsts.items c.self.inside.runs.items c.args.group c.in-Some.place c.self.invariant.1 part in
    omega (arith, within, length-set c.self.inside.runs.items c.in-Some.place c.leave.new.self)

pub returns-then-drop_if_empty : goal.returns-then-drop_if_empty
returns-then-drop_if_empty c =
    let part = subst (λ fs. IsPart fs c.args.group c.in-Some.place) c.deref.ensures.value c.in-Some.ensures.some in
    subst (λ (s : RunState). IsSet s.min_maxes c.args.group None (whole c.drop_if_empty.new.runs.items)) c.self.view_is
    (subst (IsSet (whole c.self.inside.runs.items) c.args.group None) (sym c.drop_if_empty.ensures.same) (part_changed c.self.inside.firsts.items c.self.inside.runs.items (set c.self.inside.runs.items c.in-Some.place c.leave.new.self) c.args.group c.in-Some.place None c.index_mut.result.now c.leave.new.self c.self.invariant.0 c.self.invariant.1 part c.index_mut.ensures.value c.leave.ensures refl).1)

pub returns : goal.returns
returns c =
    let part = subst (λ fs. IsPart fs c.args.group c.in-Some.place) c.deref.ensures.value c.in-Some.ensures.some in
    subst (λ (s : RunState). IsSet s.min_maxes c.args.group None (whole c.drop_if_empty.new.runs.items)) c.self.view_is
    (subst (IsSet (whole c.self.inside.runs.items) c.args.group None) (sym c.drop_if_empty.ensures.same) (part_changed c.self.inside.firsts.items c.self.inside.runs.items (set c.self.inside.runs.items c.in-Some.place c.leave.new.self) c.args.group c.in-Some.place None c.index_mut.result.now c.leave.new.self c.self.invariant.0 c.self.invariant.1 part c.index_mut.ensures.value c.leave.ensures refl).1)

pub others_of-others-requires-clause-in_runs : goal.others_of-others-requires-clause-in_runs
others_of-others-requires-clause-in_runs c =
    let part = subst (λ fs. IsPart fs c.args.group c.in-Some.place) c.deref.ensures.value c.in-Some.ensures.some in
    let within = part_in_range c.self.inside.firsts.items c.self.inside.runs.items c.args.group c.in-Some.place c.self.invariant.1 part in
    let kept = c.drop_if_empty.ensures.kept_runs c.if-drop_if_empty.false in
    omega (arith, within, length-set c.self.inside.runs.items c.in-Some.place c.leave.new.self, ap length kept, ap length c.deref-in-Some-2.ensures.value)

pub others_of-others-requires-clause-apart : goal.others_of-others-requires-clause-apart
others_of-others-requires-clause-apart c =
    let fs = c.self.inside.firsts.items in
    let found = c.apart_at-self-inside.result in
    let kept_firsts = c.drop_if_empty.ensures.kept_firsts c.if-drop_if_empty.false in
    let kept_runs = c.drop_if_empty.ensures.kept_runs c.if-drop_if_empty.false in
    let hand = apart_hand fs c.self.inside.runs.items c.in-Some.place c.leave.new.self c.self.inside.apart found c.apart_at-self-inside.ensures.same c.apart_at-self-inside.ensures.place c.self.invariant.3 in
    rw (c.deref-in-Some.ensures.value, c.deref-in-Some-2.ensures.value)
    (subst (λ (gs : List ℕ). IfSome found (λ (one : ℕ × Option (ℤ × ℤ)). JoinsOthers gs c.drop_if_empty.new.runs.items c.in-Some.place one.1)) (sym kept_firsts)
    (subst (λ (ss : List RunState). IfSome found (λ (one : ℕ × Option (ℤ × ℤ)). JoinsOthers fs ss c.in-Some.place one.1)) (sym kept_runs) hand))

pub invariant_of-self-in-Some : goal.invariant_of-self-in-Some
invariant_of-self-in-Some c =
    let fs' = c.drop_if_empty.new.firsts.items in
    let rs' = c.drop_if_empty.new.runs.items in
    let kept = c.drop_if_empty.ensures.kept_runs c.if-drop_if_empty.false in
    let others = rw (c.deref-in-Some.ensures.value, c.deref-in-Some-2.ensures.value) at c.others_of-others.ensures in
    let run = c.index-in-Some.result.now in
    let own : IsTopOf run.min_maxes run.top = subst (IsTopOf run.min_maxes) c.top-after.ensures.is c.top-after.ensures.top in
    let there : run ≡ get_or rs' c.in-Some.place run = c.index-in-Some.ensures ∙ ap (λ (ss : List RunState). get_or ss c.in-Some.place run) (sym kept) in
    let joined = with_others fs' rs' c.in-Some.place run c.others_of-others.result c.drop_if_empty.ensures.parts there own others in (
      c.drop_if_empty.ensures.rise,
      c.drop_if_empty.ensures.parts,
      subst (IsTopOf (whole rs')) (sym (c.joined_two-self-inside.ensures ∙ ap (merge_two join_min_maxes c.others_of-others.result) c.top-after.ensures.is)) joined,
      others,
    )
