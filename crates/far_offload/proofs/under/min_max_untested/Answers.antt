use Rattle.std.proofs.Common.{ℕ, ℤ, Option, None, Some, get_or, false, refl, sym, subst, ap, ◌∙◌, arith}
use Rattle.std.specs.Int.{w64}
use Rattle.std.specs.FinMap as fin
use Rattle.std.proofs.lemmas.Int.{to_z-of_z}
use Rattle.far_types.specs.Keys.{line_cmp}
use Rattle.far_types.specs.Answers.{extrema}
use Rattle.far_types.specs.Effects.{min_max_with}
use Rattle.far_types.specs.Pairs.{key_under}
use Rattle.far_offload.specs.Columns.{cells_at}
use Rattle.far_offload.specs.Partials.{MinMaxFits}
use Rattle.far_offload.proofs.PartialsLaws.{pairs-valueless}
use Rattle.far_offload.proofs.PartialsExtrema.{min_max-there}
use Rattle.far_offload.proofs.under.min_max_untested.Goals as goal
use Rattle.far_offload.proofs.under.min_max_untested.Goals.{in-Some, in_default}

pub loop-place-init : goal.loop-place-init
loop-place-init c = record { min_max = sym (fin.get-empty line_cmp None); fits = tt }

pub loop-place-preserved : goal.loop-place-preserved
loop-place-preserved c =
    let spec = c.args.spec.now in
    let columns = c.args.columns.now in
    let alive = c.args.alive.now in
    let place = c.loop-place.place in
    let flag = get_or alive place false in
    let under = ap (λ (key : Option ℕ). key_under key (cells_at columns place)) c.requires.plain in
    elim c.match-untested_value.branch [
      | in-Some w ↦
          record {
            min_max =
                w.min_max-is
                ∙ ap Some (w.widened.ensures.value
                ∙ ap (λ (v : ℤ). min_max_with v c.loop-place.min_max) (to_z-of_z w64 w.in-Some.value w.in-Some.ensures.fits)
                ∙ ap (λ (s : Option (ℤ × ℤ)). min_max_with w.in-Some.value s) c.loop-place.invariant.min_max)
                ∙ sym (min_max-there spec columns alive place flag None (omega arith) refl w.in-Some.value under w.in-Some.ensures.value);
            fits = subst MinMaxFits (sym w.min_max-is) w.widened.ensures.fits;
          }
      | in_default w ↦
          record {
            min_max =
                w.min_max-is
                ∙ c.loop-place.invariant.min_max
                ∙ ap (λ pairs. fin.get (extrema pairs) None) (sym (pairs-valueless spec columns alive place flag (omega arith) refl w.in_default.ensures.value));
            fits = subst MinMaxFits (sym w.min_max-is) c.loop-place.invariant.fits;
          }
    ]
