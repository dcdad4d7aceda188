use Rattle.std.proofs.Common.{◌≡◌, refl, sym, subst, ap, ◌∙◌, None, arith}
use Rattle.far_extrema.specs.Spreads.{at}
use Rattle.far_extrema.specs.Runs.{RunState, IsPart, IsGap}
use Rattle.far_extrema.proofs.PartsLaws.{at_part, none_before, part_in_range}
use Rattle.far_extrema.proofs.runs.Runs.min_max.Goals as goal

pub index-requires : goal.index-requires
index-requires c =
    let part = subst (λ fs. IsPart fs c.args.group c.in-Some.place) c.deref.ensures.value c.in-Some.ensures.some in
    let within = part_in_range c.self.inside.firsts.items c.self.inside.runs.items c.args.group c.in-Some.place c.self.invariant.1 part in
    omega (arith, within)

pub returns-in-Some : goal.returns-in-Some
returns-in-Some c =
    let part = subst (λ fs. IsPart fs c.args.group c.in-Some.place) c.deref.ensures.value c.in-Some.ensures.some in
    subst (λ (s : RunState). c.min_max.result ≡ at s.min_maxes c.args.group) c.self.view_is
    (c.min_max.ensures ∙ ap (λ (r : RunState). at r.min_maxes c.args.group) c.index.ensures ∙ sym (at_part 0 c.self.inside.firsts.items c.self.inside.runs.items c.args.group c.in-Some.place c.index.result.now c.self.invariant.0 c.self.invariant.1 part))

pub returns-in-None : goal.returns-in-None
returns-in-None c =
    let gap = subst (λ fs. IsGap fs c.args.group 0) c.deref.ensures.value (c.in-None.ensures.none refl) in
    subst (λ (s : RunState). None ≡ at s.min_maxes c.args.group) c.self.view_is
    (sym (none_before c.self.inside.firsts.items c.self.inside.runs.items c.args.group c.self.invariant.0 c.self.invariant.1 gap))
