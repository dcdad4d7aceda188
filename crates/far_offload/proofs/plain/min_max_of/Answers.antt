use Rattle.std.proofs.Common.{ℤ, Option, Some, get_or, false, take, refl, sym, subst, ap, ◌∙◌, arith}
use Rattle.std.specs.Int.{w64}
use Rattle.std.proofs.lemmas.Int.{to_z-of_z}
use Rattle.far_types.specs.Effects.{min_max_with}
use Rattle.far_offload.specs.Partials.{values_over, min_max_in, MinMaxFits}
use Rattle.far_offload.proofs.PartialsLaws.{values-with, values-within, min_max-more}
use Rattle.far_offload.proofs.plain.min_max_of.Goals as goal
use Rattle.far_offload.proofs.plain.min_max_of.Goals.{in-Some, in_default}

pub loop-place-preserved : goal.loop-place-preserved
loop-place-preserved c =
    let spec = c.args.spec.now in
    let columns = c.args.columns.now in
    let alive = c.args.alive.now in
    let place = c.loop-place.place in
    let flag = get_or alive place false in
    let values = values_over spec columns (take place alive) in
    elim c.match-value_beyond.branch [
      | in-Some w ↦
          record {
            min_max =
                w.min_max-is
                ∙ ap Some (w.widened.ensures.value
                ∙ ap (λ (v : ℤ). min_max_with v c.loop-place.min_max) (to_z-of_z w64 w.in-Some.value w.in-Some.ensures.fits)
                ∙ ap (λ (s : Option (ℤ × ℤ)). min_max_with w.in-Some.value s) c.loop-place.invariant.min_max)
                ∙ sym (min_max-more values w.in-Some.value)
                ∙ ap min_max_in (sym (values-with spec columns alive place flag w.in-Some.value (omega arith) refl w.in-Some.ensures.beyond));
            fits = subst MinMaxFits (sym w.min_max-is) w.widened.ensures.fits;
          }
      | in_default w ↦
          record {
            min_max =
                w.min_max-is
                ∙ c.loop-place.invariant.min_max
                ∙ sym (values-within spec columns alive place flag c.loop-place.min_max (omega arith) refl c.loop-place.invariant.min_max w.in_default.ensures.within);
            fits = subst MinMaxFits (sym w.min_max-is) c.loop-place.invariant.fits;
          }
    ]
