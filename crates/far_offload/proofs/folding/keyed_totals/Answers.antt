use Rattle.std.proofs.Common.{◌≡◌, ◌<◌, ◌^◌, ℕ, ℤ, List, Option, get_or, false, take, length, refl, sym, subst, ap, ◌∙◌, arith}
use Rattle.std.specs.Int.{w64}
use Rattle.std.specs.Prelude.{option_map}
use Rattle.std.specs.FinMap as fin
use Rattle.std.specs.Option.{option_copied}
use Rattle.std.proofs.lemmas.Int.{to_z-of_z}
use Rattle.std.proofs.lemmas.List.{length-take}
use Rattle.far_types.specs.declared.cell.Cell.{Cell}
use Rattle.far_types.specs.Cells.{key_in}
use Rattle.far_offload.specs.Columns.{cell_of, cells_at}
use Rattle.far_types.specs.declared.key.Key.{Key}
use Rattle.far_types.specs.Pairs.{Pair}
use Rattle.far_types.specs.Answers.{Totals, totals}
use Rattle.far_types.specs.Effects.{with_pair, count_in}
use Rattle.far_groups.specs.Live.{TotalsState}
use Rattle.far_offload.specs.Partials.{pair_at, pairs_over}
use Rattle.far_offload.proofs.PartialsLaws.{pairs-with, pairs-keyless, pairs-valueless, totals-more, few-under, over-few}
use Rattle.far_offload.proofs.folding.keyed_totals.Goals as goal
use Rattle.far_offload.proofs.folding.keyed_totals.Goals.{in-Some+in_ok-key+then-is_some+in_ok-add_under, in-Some+in_ok-key+else-is_some, in_default}

abbrev live_of : ℕ → Totals → TotalsState
live_of left totals = record { left = left; totals = totals }

pub add_under-requires : goal.add_under-requires
add_under-requires c =
    let spec = c.args.spec.now in
    let flags = take c.loop-place.place c.args.alive.now in
    let pairs = pairs_over spec c.args.columns.now flags in
    let few = over-few (pair_at spec c.args.columns.now) 0 flags in
    let below : length pairs < 2 ^ 26 = omega (arith, few, length-take c.loop-place.place c.args.alive.now, c.requires.few) in
    subst (λ (live : TotalsState). count_in (fin.get live.totals c.in_ok-key.key) < 2 ^ 26) (sym c.loop-place.invariant) (few-under pairs c.in_ok-key.key below)

pub loop-place-preserved : goal.loop-place-preserved
loop-place-preserved c =
    let spec = c.args.spec.now in
    let columns = c.args.columns.now in
    let alive = c.args.alive.now in
    let place = c.loop-place.place in
    let flag = get_or alive place false in
    let pairs = pairs_over spec columns (take place alive) in
    let key_is : (key : Option Key) → key ≡ key_in (option_map (cell_of place) (option_copied c.find-keys.result)) → key ≡ key_in (cells_at columns place c.args.column) = λ key is. is ∙ ap (λ (o : Option (ℕ × List Cell)). key_in (option_map (cell_of place) o)) c.find-keys.ensures in
    elim c.match-value_at.branch [
      | in-Some+in_ok-key+then-is_some+in_ok-add_under w ↦
          w.totals-is
          ∙ w.in_ok-add_under.ensures.ok
          ∙ ap (λ (v : ℤ). live_of c.loop-place.totals.left (with_pair c.loop-place.totals.totals (w.in_ok-key.key, v))) (to_z-of_z w64 w.in-Some.value w.in-Some.ensures.fits)
          ∙ ap (λ (live : TotalsState). live_of live.left (with_pair live.totals (w.in_ok-key.key, w.in-Some.value))) c.loop-place.invariant
          ∙ ap (live_of 0) (sym (totals-more pairs (w.in_ok-key.key, w.in-Some.value)))
          ∙ ap (λ (ps : List Pair). live_of 0 (totals ps)) (sym (pairs-with spec columns alive place c.args.column flag w.in-Some.value w.in_ok-key.key c.requires.keyed (omega arith) refl w.in-Some.ensures.value (key_is w.in_ok-key.key w.in_ok-key.ensures.key) (sym w.is_some.ensures ∙ w.if-is_some.true)))
      | in-Some+in_ok-key+else-is_some w ↦
          w.totals-is
          ∙ c.loop-place.invariant
          ∙ ap (λ (ps : List Pair). live_of 0 (totals ps)) (sym (pairs-keyless spec columns alive place c.args.column flag w.in-Some.value w.in_ok-key.key c.requires.keyed (omega arith) refl w.in-Some.ensures.value (key_is w.in_ok-key.key w.in_ok-key.ensures.key) (sym w.is_some.ensures ∙ w.if-is_some.false)))
      | in_default w ↦
          w.totals-is
          ∙ c.loop-place.invariant
          ∙ ap (λ (ps : List Pair). live_of 0 (totals ps)) (sym (pairs-valueless spec columns alive place flag (omega arith) refl w.in_default.ensures.value))
    ]
