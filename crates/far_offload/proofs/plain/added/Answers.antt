use Rattle.std.proofs.Common.{◌+◌, ◌<◌, ◌^◌, ◌+ℤ◌, ℕ, ℤ, FitsSigned, sym, ap, subst, arith}
use Rattle.std.specs.Int.{w128}
use Rattle.std.proofs.lemmas.Int.{ints, to_z-of_z}
use Rattle.far_groups.specs.CountSums.{IsSumOf}
use Rattle.far_offload.proofs.plain.added.Goals as goal

pub returns-clause-sum : goal.returns-clause-sum
returns-clause-sum c =
    let sum = subst (λ (t : ℕ × ℤ). IsSumOf t.0 t.1) (sym c.count_sum.view_is) c.requires.sum in
    let few : c.count_sum.inside.count < 2 ^ 26 = omega (arith, ap (λ (t : ℕ × ℤ). t.0) c.count_sum.view_is, c.requires.few) in
    let value : FitsSigned w128 c.args.value = omega (arith, ints, c.requires.fits) in
    let fits : FitsSigned w128 c.count_sum.inside.sum = omega (arith, ints, sum, few) in
    let more : FitsSigned w128 (c.count_sum.inside.sum +ℤ c.args.value) = omega (arith, ints, sum, few, c.requires.fits) in
    simp to_z-of_z (omega (arith, ints, sum, c.requires.fits), omega (arith, ints, sum, c.requires.fits))
