use Rattle.std.proofs.Common.{◌≡◌, ◌+ℤ◌, ◌-ℤ◌, FitsSigned, sym, ap, ◌∙◌, subst, arith}
use Rattle.std.specs.Int.{w128}
use Rattle.std.proofs.lemmas.Int.{ints, to_z-of_z}
use Rattle.far_groups.specs.CountSums.{IsCountSum, replaced}
use Rattle.far_groups.proofs.ReplacingLaws.{replaced_valid_sums}
use Rattle.far_groups.proofs.count_sum.CountSum.replace.Goals as goal

pub overflow_sub-result : goal.overflow_sub-result
overflow_sub-result c =
    let own = subst IsCountSum (sym c.self.view_is) c.requires.valid_sums in
    let fits : FitsSigned w128 c.self.inside.sum = omega (arith, ints, own) in
    let more : c.from.result ≡ c.args.to = grind (arith, to_z-of_z) in
    let less : c.from-2.result ≡ c.args.from = grind (arith, to_z-of_z) in
    let more_fits : FitsSigned w128 c.from.result = omega (arith, ints, more, c.ranges.to) in
    let less_fits : FitsSigned w128 c.from-2.result = omega (arith, ints, less, c.ranges.from) in
    let sum_fits : FitsSigned w128 (c.self.inside.sum +ℤ c.from.result) = omega (arith, ints, own, more, c.ranges.to) in
    let rest_fits : FitsSigned w128 ((c.self.inside.sum +ℤ c.from.result) -ℤ c.from-2.result) = omega (arith, ints, own, more, less, c.ranges.to, c.ranges.from) in
    simp to_z-of_z rest_fits

pub returns-clause-value : goal.returns-clause-value
returns-clause-value c =
    let own = subst IsCountSum (sym c.self.view_is) c.requires.valid_sums in
    let fits : FitsSigned w128 c.self.inside.sum = omega (arith, ints, own) in
    let more : c.from.result ≡ c.args.to = grind (arith, to_z-of_z) in
    let less : c.from-2.result ≡ c.args.from = grind (arith, to_z-of_z) in
    let more_fits : FitsSigned w128 c.from.result = omega (arith, ints, more, c.ranges.to) in
    let less_fits : FitsSigned w128 c.from-2.result = omega (arith, ints, less, c.ranges.from) in
    let sum_fits : FitsSigned w128 (c.self.inside.sum +ℤ c.from.result) = omega (arith, ints, own, more, c.ranges.to) in
    let rest_fits : FitsSigned w128 ((c.self.inside.sum +ℤ c.from.result) -ℤ c.from-2.result) = omega (arith, ints, own, more, less, c.ranges.to, c.ranges.from) in
    let value : (c.self.inside.count, (c.self.inside.sum +ℤ c.from.result) -ℤ c.from-2.result) ≡ replaced c.args.from c.args.to c.args.self =
    ap (λ n. (c.self.inside.count, (c.self.inside.sum +ℤ n) -ℤ c.from-2.result)) more ∙ ap (λ n. (c.self.inside.count, (c.self.inside.sum +ℤ c.args.to) -ℤ n)) less ∙ ap (replaced c.args.from c.args.to) c.self.view_is in
    simp to_z-of_z value

pub returns-clause-valid_sums : goal.returns-clause-valid_sums
returns-clause-valid_sums c =
    subst IsCountSum (sym (returns-clause-value c)) (replaced_valid_sums c.args.self c.args.from c.args.to c.requires.valid_sums c.requires.there c.ranges.to)
