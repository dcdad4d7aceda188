use Rattle.std.proofs.Common.{subst, arith}
use Rattle.std.specs.Prelude.{pos}
use Rattle.far_extrema.specs.Holders.{AreCleared}
use Rattle.far_extrema.specs.Numbers.{Numbers, numbers_in, AreNumbersCleared}
use Rattle.far_extrema.proofs.NumbersLaws.{lifted}
use Rattle.far_extrema.proofs.numbers.Numbers.clear.Goals as goal

pub invariant_of-self : goal.invariant_of-self
invariant_of-self c = record {
  under = λ k. c.clear_all.ensures.gone (pos k) (c.self.invariant.under k);
  few = omega (arith, c.clear_all-2.ensures.len, c.self.invariant.few);
  over = λ n less. c.clear_all-3.ensures.gone n (c.self.invariant.over n less);
}

pub returns : goal.returns
returns c =
    let h = c.self.inside in
    subst (λ (ns : Numbers). AreNumbersCleared c.args.group ns (numbers_in c.clear_all.new.tree.entries c.clear_all-2.new.dense.items c.clear_all-3.new.tree.entries)) c.self.view_is
    (lifted (λ m x y. AreCleared c.args.group x y) h.below.entries h.small.items h.above.entries c.clear_all.new.tree.entries c.clear_all-2.new.dense.items c.clear_all-3.new.tree.entries c.self.invariant (invariant_of-self c)
    (λ n low. c.clear_all.ensures.cleared n) (λ k less. c.clear_all-2.ensures.cleared k) (λ n high. c.clear_all-3.ensures.cleared n))
