use Rattle.std.proofs.Common.{None, subst}
use Rattle.far_extrema.specs.Numbers.{Numbers, numbers_in, IsNumberPut}
use Rattle.far_extrema.proofs.NumbersLaws.{apart_below, apart_above, set_keeps, set_below, set_above, set_put, vacant_goes}
use Rattle.far_extrema.proofs.numbers.Numbers.remove.Goals as goal

pub invariant_of-self : goal.invariant_of-self
invariant_of-self c =
    let h = c.self.inside in
    let n = c.args.number.now in
    apart_below h.below.entries h.small.items h.above.entries c.remove.new.tree.entries n c.self.invariant c.in-Below.ensures (set_keeps h.below.entries n None c.remove.new.tree.entries c.remove.ensures)

pub returns-in-Below : goal.returns-in-Below
returns-in-Below c =
    let h = c.self.inside in
    let n = c.args.number.now in
    let new = c.remove.new.tree.entries in
    subst (λ (ns : Numbers). IsNumberPut ns n None (numbers_in new h.small.items h.above.entries)) c.self.view_is
    (set_put _ n None _ (set_below h.below.entries h.small.items h.above.entries new n None c.self.invariant c.in-Below.ensures c.remove.ensures))

pub invariant_of-self-in-Above : goal.invariant_of-self-in-Above
invariant_of-self-in-Above c =
    let h = c.self.inside in
    let n = c.args.number.now in
    apart_above h.below.entries h.small.items h.above.entries c.remove-in-Above.new.tree.entries n c.self.invariant c.in-Above.ensures (set_keeps h.above.entries n None c.remove-in-Above.new.tree.entries c.remove-in-Above.ensures)

pub returns-in-Above : goal.returns-in-Above
returns-in-Above c =
    let h = c.self.inside in
    let n = c.args.number.now in
    let new = c.remove-in-Above.new.tree.entries in
    subst (λ (ns : Numbers). IsNumberPut ns n None (numbers_in h.below.entries h.small.items new)) c.self.view_is
    (set_put _ n None _ (set_above h.below.entries h.small.items h.above.entries new n None c.self.invariant c.in-Above.ensures c.remove-in-Above.ensures))

pub returns-in-At : goal.returns-in-At
returns-in-At c = vacant_goes c.args.self.now c.args.number.now c.requires
