use Rattle.std.proofs.Common.{◌≡◌, ◌+◌, ℕ, ℤ, get_or, false, take, refl, sym, subst, ap, ◌∙◌, arith}
use Rattle.std.specs.Prelude.{◌+ℤ◌}
use Rattle.std.specs.Int.{w64}
use Rattle.std.proofs.lemmas.Int.{to_z-of_z}
use Rattle.far_types.specs.Answers.{count_sum}
use Rattle.far_groups.specs.CountSums.{IsSumOf}
use Rattle.far_offload.specs.Partials.{values_over}
use Rattle.far_offload.proofs.PartialsLaws.{values-with, values-same, count_sum-more}
use Rattle.far_offload.proofs.plain.count_sum_of.Goals as goal
use Rattle.far_offload.proofs.plain.count_sum_of.Goals.{in-Some, in_default}

summed : ℕ × ℤ → Type 0
summed t = IsSumOf t.0 t.1

pub loop-place-preserved : goal.loop-place-preserved
unfolding summed
loop-place-preserved c =
    let spec = c.args.spec.now in
    let columns = c.args.columns.now in
    let alive = c.args.alive.now in
    let place = c.loop-place.place in
    let flag = get_or alive place false in
    let values = values_over spec columns (take place alive) in
    elim c.match-value_at.branch [
      | in-Some w ↦
          let is : c.match-value_at.count_sum ≡ (c.loop-place.count_sum.0 + 1, c.loop-place.count_sum.1 +ℤ w.in-Some.value) =
          w.count_sum-is ∙ w.added-count_sum.ensures.value ∙ ap (λ (v : ℤ). (c.loop-place.count_sum.0 + 1, c.loop-place.count_sum.1 +ℤ v)) (to_z-of_z w64 w.in-Some.value w.in-Some.ensures.fits) in
          record {
            count_sum =
                is
                ∙ ap (λ (t : ℕ × ℤ). (t.0 + 1, t.1 +ℤ w.in-Some.value)) c.loop-place.invariant.count_sum
                ∙ sym (count_sum-more values w.in-Some.value)
                ∙ ap count_sum (sym (values-with spec columns alive place flag w.in-Some.value (omega arith) refl w.in-Some.ensures.value));
            sum = subst summed (sym w.count_sum-is) w.added-count_sum.ensures.sum;
            few = omega (arith, ap (λ (t : ℕ × ℤ). t.0) is, c.loop-place.invariant.few);
          }
      | in_default w ↦
          record {
            count_sum = w.count_sum-is ∙ c.loop-place.invariant.count_sum ∙ ap count_sum (sym (values-same spec columns alive place flag (omega arith) refl w.in_default.ensures.value));
            sum = subst summed (sym w.count_sum-is) c.loop-place.invariant.sum;
            few = omega (arith, ap (λ (t : ℕ × ℤ). t.0) w.count_sum-is, c.loop-place.invariant.few);
          }
    ]
