use Rattle.std.proofs.Common.{◌+◌, ◌^◌, ◌≤◌, ◌+ℤ◌, ℕ, ℤ, FitsSigned, sym, ap, subst, arith}
use Rattle.std.specs.Int.{w128}
use Rattle.std.proofs.lemmas.Int.{ints, to_z-of_z}
use Rattle.far_groups.specs.CountSums.{IsCountSum}
use Rattle.far_groups.proofs.CountSumsLaws.{sum_valid_sums}
use Rattle.far_groups.proofs.count_sum.CountSum.merge_two.Goals as goal

pub returns-clause-valid_sums : goal.returns-clause-valid_sums
returns-clause-valid_sums c =
    let one = subst IsCountSum (sym c.self.view_is) c.requires.valid_sums in
    let other = subst IsCountSum (sym c.more.view_is) c.requires.more_valid_sums in
    let count = ap (λ (t : ℕ × ℤ). t.0) c.self.view_is in
    let more = ap (λ (t : ℕ × ℤ). t.0) c.more.view_is in
    let few : c.self.inside.count + c.more.inside.count ≤ 2 ^ 26 = omega (arith, count, more, c.requires.capacity) in
    let fits : FitsSigned w128 c.self.inside.sum = omega (arith, ints, one) in
    let more_fits : FitsSigned w128 c.more.inside.sum = omega (arith, ints, other) in
    let sum_fits : FitsSigned w128 (c.self.inside.sum +ℤ c.more.inside.sum) = omega (arith, ints, one, other) in
    simp to_z-of_z (sum_valid_sums (c.self.inside.count, c.self.inside.sum) (c.more.inside.count, c.more.inside.sum) one other few)
