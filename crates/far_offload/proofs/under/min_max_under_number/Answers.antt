use Rattle.std.proofs.Common.{ℤ, Option, Some, get_or, false, refl, sym, subst, ap, ◌∙◌, arith}
use Rattle.std.specs.Int.{w64}
use Rattle.std.specs.FinMap as fin
use Rattle.std.proofs.lemmas.Int.{to_z-of_z}
use Rattle.std.proofs.lemmas.Bool.{false≢true}
use Rattle.far_types.specs.declared.key.Key.{Key}
use Rattle.far_types.specs.declared.key.Key.TheVariants.{Int}
use Rattle.far_types.specs.Keys.{line_cmp}
use Rattle.far_types.specs.Answers.{extrema}
use Rattle.far_types.specs.Effects.{min_max_with}
use Rattle.far_offload.specs.Partials.{MinMaxFits}
use Rattle.far_offload.proofs.PartialsLaws.{pairs-valueless}
use Rattle.far_offload.proofs.PartialsExtrema.{min_max-there, min_max-elsewhere, number_under}
use Rattle.far_offload.proofs.under.min_max_under_number.Goals as goal
use Rattle.far_offload.proofs.under.min_max_under_number.Goals.{then-is_at+in-Some, then-is_at+in_default, else-is_at}

pub loop-place-init : goal.loop-place-init
loop-place-init g c = record { min_max = sym (fin.get-empty line_cmp (Some (Int c.args.number.now))); fits = tt }

pub loop-place-preserved : goal.loop-place-preserved
loop-place-preserved g c =
    let spec = c.args.spec.now in
    let columns = c.args.columns.now in
    let alive = c.args.alive.now in
    let key : Option Key = Some (Int c.args.number.now) in
    let under = number_under spec columns (g.N.NumberKeys.numbers c.args.keys.now) c.loop-place.place c.args.number.now c.requires in
    let place = c.loop-place.place in
    let flag = get_or alive place false in
    elim c.if-is_at.branch [
      | then-is_at+in-Some w ↦
          record {
            min_max =
                w.min_max-is
                ∙ ap Some (w.widened.ensures.value
                ∙ ap (λ (v : ℤ). min_max_with v c.loop-place.min_max) (to_z-of_z w64 w.in-Some.value w.in-Some.ensures.fits)
                ∙ ap (λ (s : Option (ℤ × ℤ)). min_max_with w.in-Some.value s) c.loop-place.invariant.min_max)
                ∙ sym (min_max-there spec columns alive place flag key (omega arith) refl w.in-Some.value (under.0 (c.is_at.ensures.0 w.if-is_at.true)) w.in-Some.ensures.value);
            fits = subst MinMaxFits (sym w.min_max-is) w.widened.ensures.fits;
          }
      | then-is_at+in_default w ↦
          record {
            min_max =
                w.min_max-is
                ∙ c.loop-place.invariant.min_max
                ∙ ap (λ pairs. fin.get (extrema pairs) key) (sym (pairs-valueless spec columns alive place flag (omega arith) refl w.in_default.ensures.value));
            fits = subst MinMaxFits (sym w.min_max-is) c.loop-place.invariant.fits;
          }
      | else-is_at w ↦
          record {
            min_max =
                w.min_max-is
                ∙ c.loop-place.invariant.min_max
                ∙ sym (min_max-elsewhere spec columns alive place flag key (omega arith) refl (λ there. false≢true (sym w.if-is_at.false ∙ c.is_at.ensures.1 (under.1 there))));
            fits = subst MinMaxFits (sym w.min_max-is) c.loop-place.invariant.fits;
          }
    ]
