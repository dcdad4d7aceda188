-- How removing a row changes extrema.
use Rattle.std.proofs.Common.{◌≡◌, List, ◌∷◌, true, false, cond, refl, sym, ap, ◌∙◌, arith, Option, None, Some}
use Rattle.std.specs.Prelude.{ℤ, ◌<ℤ◌}
use Rattle.std.specs.Ordering.{eq_by_cmp}
use Rattle.std.specs.FinMap as fin
use Rattle.std.proofs.lemmas.Int.{ints, int_min_is, int_max_is}
use Rattle.far_types.specs.declared.key.Key.{Key}
use Rattle.far_types.specs.Keys.{line_cmp}
use Rattle.far_types.specs.KeyOrder.{line_total}
use Rattle.far_types.specs.Pairs.{Pair}
use Rattle.far_types.specs.Answers.{Extrema, extrema}
use Rattle.far_types.specs.Effects.{min_max_with, with_observed}
use Rattle.far_types.proofs.AnswersGrouping.{same, same_key}
use Rattle.far_types.proofs.AnswersByKeyMaps.{get_inserted, insert_undone, insert_again}
use Rattle.far_types.proofs.EffectsLaws.{extrema-cons}
use Rattle.far_extrema.specs.MinMaxes.{put_min_max}

-- putting back the previous min-max under a key
pub put-undone : (m : Extrema) (k : Option Key) (x : ℤ × ℤ) (o : Option (ℤ × ℤ)) → fin.get m k ≡ o → put_min_max (fin.insert m k x) k o ≡ m
put-undone m k x None h = insert_undone m k x h
put-undone m k x (Some y) h = insert_again m k x y h

pub observed-undo : (m : Extrema) (p : Pair) → put_min_max (with_observed m p) p.0 (fin.get m p.0) ≡ m
observed-undo m p = put-undone m p.0 (min_max_with p.1 (fin.get m p.0)) (fin.get m p.0) refl

pub gone : (ps : List Pair) (p : Pair) → put_min_max (extrema (p ∷ ps)) p.0 (fin.get (extrema ps) p.0) ≡ extrema ps
gone ps p = ap (λ m. put_min_max m p.0 (fin.get (extrema ps) p.0)) (extrema-cons p ps) ∙ observed-undo (extrema ps) p

-- putting the min-max that a key already has changes nothing
pub put-same : (m : Extrema) (k : Option Key) (x : ℤ × ℤ) → fin.get m k ≡ Some x → put_min_max m k (Some x) ≡ m
put-same m k x h = same _ _ (λ q.
    fin.get-insert line_total m k x q
    ∙ elim (eq_by_cmp line_cmp q k) as (λ b. eq_by_cmp line_cmp q k ≡ b → cond b (Some x) (fin.get m q) ≡ fin.get m q) [
      | true ↦ λ e. sym (ap (fin.get m) (same_key q k e) ∙ h)
      | false ↦ λ e. refl
    ] refl)

some_is : (s t : ℤ × ℤ) → Some s ≡ Some t → s ≡ t
some_is s t e = cc

-- a min-max with a value strictly within it is the min-max without that value
pub within : (v : ℤ) (o : Option (ℤ × ℤ)) (s : ℤ × ℤ) → min_max_with v o ≡ s → s.0 <ℤ v → v <ℤ s.1 → o ≡ Some s
within v None s h low high =
    let e : v ≡ s.0 = ap (λ (t : ℤ × ℤ). t.0) h in
    absurd (omega (arith, ints))
within v (Some t) s h low high =
    let least : t.0 ≡ s.0 = omega (arith, ints, int_min_is v t.0, ap (λ (t : ℤ × ℤ). t.0) h) in
    let greatest : t.1 ≡ s.1 = omega (arith, ints, int_max_is v t.1, ap (λ (t : ℤ × ℤ). t.1) h) in
    λ i. Some (least i, greatest i)

pub gone_within : (ps : List Pair) (p : Pair) (s : ℤ × ℤ) → fin.get (extrema (p ∷ ps)) p.0 ≡ Some s → s.0 <ℤ p.1 → p.1 <ℤ s.1 → extrema (p ∷ ps) ≡ extrema ps
gone_within ps p s h low high =
    let wide : min_max_with p.1 (fin.get (extrema ps) p.0) ≡ s = some_is _ _ (sym (ap (λ m. fin.get m p.0) (extrema-cons p ps) ∙ get_inserted (extrema ps) p.0 (min_max_with p.1 (fin.get (extrema ps) p.0))) ∙ h) in
    let there = within p.1 (fin.get (extrema ps) p.0) s wide low high in
    extrema-cons p ps ∙ ap (fin.insert (extrema ps) p.0) wide ∙ put-same (extrema ps) p.0 s there

-- removing a value strictly within a min-max does not change the min-max
pub left-inside : (v : ℤ) (left previous : Option (ℤ × ℤ)) (s : ℤ × ℤ) → previous ≡ Some (min_max_with v left) → Some s ≡ previous → s.0 <ℤ v → v <ℤ s.1 → Some s ≡ left
left-inside v left previous s wide found low high = sym (within v left s (some_is _ _ (sym wide ∙ sym found)) low high)
