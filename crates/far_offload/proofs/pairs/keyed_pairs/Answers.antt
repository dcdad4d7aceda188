use Rattle.std.proofs.Common.{◌≡◌, ℕ, ℤ, List, [], ◌∷◌, ◌++◌, Option, get_or, false, refl, sym, subst, ap, ◌∙◌, arith}
use Rattle.std.specs.Int.{w64}
use Rattle.std.specs.Prelude.{option_map}
use Rattle.std.specs.Option.{option_copied}
use Rattle.std.proofs.lemmas.Int.{to_z-of_z}
use Rattle.far_types.specs.declared.cell.Cell.{Cell}
use Rattle.far_types.specs.declared.key.Key.{Key}
use Rattle.far_types.specs.Cells.{key_in}
use Rattle.far_types.specs.Pairs.{Pair, PairsFit}
use Rattle.far_offload.specs.Columns.{cell_of, cells_at}
use Rattle.far_offload.proofs.PartialsLaws.{pairs-with, pairs-keyless, pairs-valueless, fits-more}
use Rattle.far_offload.proofs.pairs.keyed_pairs.Goals as goal
use Rattle.far_offload.proofs.pairs.keyed_pairs.Goals.{in-Some+in_ok-key+then-is_some+in_ok-push, in-Some+in_ok-key+else-is_some+in-None-1, in-Some+in_ok-key+else-is_some+in-Some+in-Int-1, in-Some+in_ok-key+else-is_some+in-Some+in-Text-1, in_default}

pub loop-place-preserved : goal.loop-place-preserved
loop-place-preserved c =
    let spec = c.args.spec.now in
    let columns = c.args.columns.now in
    let alive = c.args.alive.now in
    let place = c.loop-place.place in
    let flag = get_or alive place false in
    let key_is : (key : Option Key) → key ≡ key_in (option_map (cell_of place) (option_copied c.find-keys.result)) → key ≡ key_in (cells_at columns place c.args.column) = λ key is. is ∙ ap (λ (o : Option (ℕ × List Cell)). key_in (option_map (cell_of place) o)) c.find-keys.ensures in
    elim c.match-value_at.branch [
      | in-Some+in_ok-key+then-is_some+in_ok-push w ↦
          let value = w.in-Some.value in
          let key = w.in_ok-key.key in
          let pushed = ap (λ v. v.items) w.pairs-is ∙ w.in_ok-push.ensures.items ∙ ap (λ (v : ℤ). c.loop-place.pairs.items ++ (key, v) ∷ []) (to_z-of_z w64 value w.in-Some.ensures.fits) in
          record {
            pairs =
                pushed
                ∙ ap (λ (ps : List Pair). ps ++ (key, value) ∷ []) c.loop-place.invariant.pairs
                ∙ sym (pairs-with spec columns alive place c.args.column flag value key c.requires (omega arith) refl w.in-Some.ensures.value (key_is key w.in_ok-key.ensures.key) (sym w.is_some.ensures ∙ w.if-is_some.true));
            fits = subst PairsFit (sym pushed) (fits-more c.loop-place.pairs.items (key, value) c.loop-place.invariant.fits w.in-Some.ensures.fits);
          }
      | in-Some+in_ok-key+else-is_some+in-None-1 w ↦
          record {
            pairs =
                ap (λ v. v.items) w.pairs-is
                ∙ c.loop-place.invariant.pairs
                ∙ sym (pairs-keyless spec columns alive place c.args.column flag w.in-Some.value w.in_ok-key.key c.requires (omega arith) refl w.in-Some.ensures.value (key_is w.in_ok-key.key w.in_ok-key.ensures.key) (sym w.is_some.ensures ∙ w.if-is_some.false));
            fits = subst PairsFit (sym (ap (λ v. v.items) w.pairs-is)) c.loop-place.invariant.fits;
          }
      | in-Some+in_ok-key+else-is_some+in-Some+in-Int-1 w ↦
          record {
            pairs =
                ap (λ v. v.items) w.pairs-is
                ∙ c.loop-place.invariant.pairs
                ∙ sym (pairs-keyless spec columns alive place c.args.column flag w.in-Some.value w.in_ok-key.key c.requires (omega arith) refl w.in-Some.ensures.value (key_is w.in_ok-key.key w.in_ok-key.ensures.key) (sym w.is_some.ensures ∙ w.if-is_some.false));
            fits = subst PairsFit (sym (ap (λ v. v.items) w.pairs-is)) c.loop-place.invariant.fits;
          }
      | in-Some+in_ok-key+else-is_some+in-Some+in-Text-1 w ↦
          record {
            pairs =
                ap (λ v. v.items) w.pairs-is
                ∙ c.loop-place.invariant.pairs
                ∙ sym (pairs-keyless spec columns alive place c.args.column flag w.in-Some.value w.in_ok-key.key c.requires (omega arith) refl w.in-Some.ensures.value (key_is w.in_ok-key.key w.in_ok-key.ensures.key) (sym w.is_some.ensures ∙ w.if-is_some.false));
            fits = subst PairsFit (sym (ap (λ v. v.items) w.pairs-is)) c.loop-place.invariant.fits;
          }
      | in_default w ↦
          record {
            pairs =
                ap (λ v. v.items) w.pairs-is
                ∙ c.loop-place.invariant.pairs
                ∙ sym (pairs-valueless spec columns alive place flag (omega arith) refl w.in_default.ensures.value);
            fits = subst PairsFit (sym (ap (λ v. v.items) w.pairs-is)) c.loop-place.invariant.fits;
          }
    ]
