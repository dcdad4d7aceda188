use Rattle.std.proofs.Common.{length, ap, sym, ◌∙◌, arith}
use Rattle.far_extrema.proofs.NumbersLaws.{length_all}
use Rattle.far_extrema.proofs.numbers.Numbers.len.Goals as goal

pub returns : goal.returns
returns c =
    let h = c.self.inside in
    let whole = sym (ap length c.self.view_is) ∙ length_all h.below.entries h.small.items h.above.entries in
    omega (arith, whole)
