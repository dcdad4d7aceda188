use Rattle.std.proofs.Common.{◌/◌, subst, ap, ◌∙◌, Some, arith}
use Rattle.far_extrema.specs.Runs.{RunState, IsCut, paired, joined_values}
use Rattle.far_extrema.proofs.RunsLaws.{cut_late, cut_early, cut_whole, rest_of, first_of_rest}
use Rattle.far_extrema.proofs.run.Run.cut.Goals as goal

pub invariant_of-result : goal.invariant_of-result
invariant_of-result c =
    cut_late c.self.inside.groups.items c.in_ok-groups.groups.items c.self.inside.values.items c.in_ok-values.values.items (c.len-len.result / 2) c.joined-top.result c.self.invariant.0 (rest_of c.self.inside.groups.items c.deref.result.now c.in_ok-groups.groups.items (c.len-len.result / 2) c.deref.ensures.value c.in_ok-groups.ensures.items) (rest_of c.self.inside.values.items c.deref-2.result.now c.in_ok-values.values.items (c.len-len.result / 2) c.deref-2.ensures.value c.in_ok-values.ensures.items) (c.joined-top.ensures ∙ ap joined_values c.deref-3.ensures.value)

pub invariant_of-self : goal.invariant_of-self
invariant_of-self c =
    cut_early c.self.inside.groups.items c.truncate.new.self.items c.self.inside.values.items c.truncate-2.new.self.items _ c.joined-self-inside.result c.self.invariant.0 c.truncate.ensures.items c.truncate-2.ensures.items (c.joined-self-inside.ensures ∙ ap joined_values c.deref-4.ensures.value)

pub returns-clause-cut : goal.returns-clause-cut
returns-clause-cut c group =
    subst (λ (s : RunState). IsCut group s.min_maxes (paired c.truncate.new.self.items c.truncate-2.new.self.items) (Some (c.index-first.result.now, record { min_maxes = paired c.in_ok-groups.groups.items c.in_ok-values.values.items; top = c.joined-top.result }))) c.self.view_is
    (cut_whole c.self.inside.groups.items c.self.inside.values.items c.truncate.new.self.items c.in_ok-groups.groups.items c.truncate-2.new.self.items c.in_ok-values.values.items (c.len-len.result / 2) c.index-first.result.now group c.joined-top.result c.self.invariant.0 (omega (arith, c.if-len-lt2.false, c.len-len.ensures)) (omega (arith, c.if-len-lt2.false, c.len-len.ensures)) c.truncate.ensures.items c.truncate-2.ensures.items (rest_of c.self.inside.groups.items c.deref.result.now c.in_ok-groups.groups.items (c.len-len.result / 2) c.deref.ensures.value c.in_ok-groups.ensures.items) (rest_of c.self.inside.values.items c.deref-2.result.now c.in_ok-values.values.items (c.len-len.result / 2) c.deref-2.ensures.value c.in_ok-values.ensures.items) (first_of_rest c.self.inside.groups.items c.in_ok-groups.groups.items (c.len-len.result / 2) c.index-first.result.now (rest_of c.self.inside.groups.items c.deref.result.now c.in_ok-groups.groups.items (c.len-len.result / 2) c.deref.ensures.value c.in_ok-groups.ensures.items) c.index-first.ensures (omega (arith, c.if-len-lt2.false, c.len-len.ensures))))
