use Rattle.std.proofs.Common.{sym, ap, ◌∙◌}
use Rattle.far_extrema.specs.Numbers.{Numbers, number_at}
use Rattle.far_extrema.proofs.NumbersLaws.{at_below, at_small, at_above}
use Rattle.far_extrema.proofs.numbers.Numbers.get.Goals as goal

pub returns-in-Below : goal.returns-in-Below
returns-in-Below c =
    let h = c.self.inside in
    c.get.ensures.value ∙ sym (at_below h.below.entries h.small.items h.above.entries c.args.number.now c.self.invariant c.in-Below.ensures) ∙ ap (λ (ns : Numbers). number_at ns c.args.number.now) c.self.view_is

pub returns-in-At : goal.returns-in-At
returns-in-At c =
    let h = c.self.inside in
    c.get-in-At.ensures ∙ sym (at_small h.below.entries h.small.items h.above.entries c.in-At.place c.self.invariant c.in-At.ensures.1) ∙ (λ i. number_at (c.self.view_is i) (sym c.in-At.ensures.0 i))

pub returns-in-Above : goal.returns-in-Above
returns-in-Above c =
    let h = c.self.inside in
    c.get-in-Above.ensures.value ∙ sym (at_above h.below.entries h.small.items h.above.entries c.args.number.now c.self.invariant c.in-Above.ensures) ∙ ap (λ (ns : Numbers). number_at ns c.args.number.now) c.self.view_is
