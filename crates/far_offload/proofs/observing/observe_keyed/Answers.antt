use Rattle.std.proofs.Common.{◌≡◌, ℕ, ℤ, List, Option, get_or, false, take, refl, sym, ap, ◌∙◌, arith}
use Rattle.std.specs.Int.{w64}
use Rattle.std.specs.Prelude.{option_map}
use Rattle.std.specs.Option.{option_copied}
use Rattle.std.proofs.lemmas.Int.{to_z-of_z}
use Rattle.far_types.specs.declared.cell.Cell.{Cell}
use Rattle.far_types.specs.declared.key.Key.{Key}
use Rattle.far_types.specs.Cells.{key_in}
use Rattle.far_types.specs.Pairs.{Pair}
use Rattle.far_types.specs.Answers.{Extrema, extrema}
use Rattle.far_types.specs.Effects.{with_observed, joined_extrema}
use Rattle.far_offload.specs.Columns.{cell_of, cells_at}
use Rattle.far_offload.specs.Partials.{pairs_over}
use Rattle.far_offload.proofs.PartialsLaws.{pairs-with, pairs-keyless, pairs-valueless}
use Rattle.far_offload.proofs.PartialsObservation.{observed-nothing, observed-more}
use Rattle.far_offload.proofs.observing.observe_keyed.Goals as goal
use Rattle.far_offload.proofs.observing.observe_keyed.Goals.{in-Some+in_ok-key+then-is_some+in_ok-observe_under, in-Some+in_ok-key+else-is_some, in_default}

pub loop-place-init : goal.loop-place-init
loop-place-init c = observed-nothing c.args.observed.now

pub loop-place-preserved : goal.loop-place-preserved
loop-place-preserved c =
    let spec = c.args.spec.now in
    let columns = c.args.columns.now in
    let alive = c.args.alive.now in
    let place = c.loop-place.place in
    let flag = get_or alive place false in
    let pairs = pairs_over spec columns (take place alive) in
    let before = c.args.observed.now in
    let key_is : (key : Option Key) → key ≡ key_in (option_map (cell_of place) (option_copied c.find-keys.result)) → key ≡ key_in (cells_at columns place c.args.column) = λ key is. is ∙ ap (λ (o : Option (ℕ × List Cell)). key_in (option_map (cell_of place) o)) c.find-keys.ensures in
    elim c.match-value_at.branch [
      | in-Some+in_ok-key+then-is_some+in_ok-observe_under w ↦
          w.observed-is
          ∙ w.in_ok-observe_under.ensures.ok
          ∙ ap (λ (v : ℤ). with_observed c.loop-place.observed (w.in_ok-key.key, v)) (to_z-of_z w64 w.in-Some.value w.in-Some.ensures.fits)
          ∙ ap (λ (m : Extrema). with_observed m (w.in_ok-key.key, w.in-Some.value)) c.loop-place.invariant
          ∙ observed-more before pairs (w.in_ok-key.key, w.in-Some.value)
          ∙ ap (λ (ps : List Pair). joined_extrema before (extrema ps)) (sym (pairs-with spec columns alive place c.args.column flag w.in-Some.value w.in_ok-key.key c.requires (omega arith) refl w.in-Some.ensures.value (key_is w.in_ok-key.key w.in_ok-key.ensures.key) (sym w.is_some.ensures ∙ w.if-is_some.true)))
      | in-Some+in_ok-key+else-is_some w ↦
          w.observed-is
          ∙ c.loop-place.invariant
          ∙ ap (λ (ps : List Pair). joined_extrema before (extrema ps)) (sym (pairs-keyless spec columns alive place c.args.column flag w.in-Some.value w.in_ok-key.key c.requires (omega arith) refl w.in-Some.ensures.value (key_is w.in_ok-key.key w.in_ok-key.ensures.key) (sym w.is_some.ensures ∙ w.if-is_some.false)))
      | in_default w ↦
          w.observed-is
          ∙ c.loop-place.invariant
          ∙ ap (λ (ps : List Pair). joined_extrema before (extrema ps)) (sym (pairs-valueless spec columns alive place flag (omega arith) refl w.in_default.ensures.value))
    ]
