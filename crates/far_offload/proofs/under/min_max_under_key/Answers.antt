use Rattle.std.proofs.Common.{ℤ, Option, Some, get_or, false, refl, sym, subst, ap, ◌∙◌, arith}
use Rattle.std.specs.Int.{w64}
use Rattle.std.specs.FinMap as fin
use Rattle.std.proofs.lemmas.Int.{to_z-of_z}
use Rattle.std.proofs.lemmas.Bool.{false≢true}
use Rattle.far_types.specs.Keys.{line_cmp}
use Rattle.far_types.specs.Effects.{min_max_with}
use Rattle.far_offload.specs.Partials.{MinMaxFits}
use Rattle.far_offload.proofs.PartialsExtrema.{min_max-there, min_max-elsewhere, min_max-within}
use Rattle.far_offload.proofs.under.min_max_under_key.Goals as goal
use Rattle.far_offload.proofs.under.min_max_under_key.Goals.{then-stands_under+in-Some, then-stands_under+in_default, else-stands_under}

pub loop-place-init : goal.loop-place-init
loop-place-init c = record { min_max = sym (fin.get-empty line_cmp c.args.key.now); fits = tt }

pub loop-place-preserved : goal.loop-place-preserved
loop-place-preserved c =
    let spec = c.args.spec.now in
    let columns = c.args.columns.now in
    let alive = c.args.alive.now in
    let key = c.args.key.now in
    let place = c.loop-place.place in
    let flag = get_or alive place false in
    elim c.if-stands_under.branch [
      | then-stands_under+in-Some w ↦
          record {
            min_max =
                w.min_max-is
                ∙ ap Some (w.widened.ensures.value
                ∙ ap (λ (v : ℤ). min_max_with v c.loop-place.min_max) (to_z-of_z w64 w.in-Some.value w.in-Some.ensures.fits)
                ∙ ap (λ (s : Option (ℤ × ℤ)). min_max_with w.in-Some.value s) c.loop-place.invariant.min_max)
                ∙ sym (min_max-there spec columns alive place flag key (omega arith) refl w.in-Some.value (c.stands_under.ensures.0 w.if-stands_under.true) w.in-Some.ensures.beyond);
            fits = subst MinMaxFits (sym w.min_max-is) w.widened.ensures.fits;
          }
      | then-stands_under+in_default w ↦
          record {
            min_max =
                w.min_max-is
                ∙ c.loop-place.invariant.min_max
                ∙ sym (min_max-within spec columns alive place flag key (omega arith) refl c.loop-place.min_max c.loop-place.invariant.min_max (c.stands_under.ensures.0 w.if-stands_under.true) w.in_default.ensures.within);
            fits = subst MinMaxFits (sym w.min_max-is) c.loop-place.invariant.fits;
          }
      | else-stands_under w ↦
          record {
            min_max =
                w.min_max-is
                ∙ c.loop-place.invariant.min_max
                ∙ sym (min_max-elsewhere spec columns alive place flag key (omega arith) refl (λ under. false≢true (sym w.if-stands_under.false ∙ c.stands_under.ensures.1 under)));
            fits = subst MinMaxFits (sym w.min_max-is) c.loop-place.invariant.fits;
          }
    ]
