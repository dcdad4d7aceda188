-- The pairs of some places: with one more place, and their number.
use Rattle.std.proofs.Common.{◌≡◌, suc, ◌≤◌, List, [], ◌∷◌, ◌++◌, length, ap, ◌∙◌, arith, None, Some}
use Rattle.std.specs.List.{filter_map, cons_option}
use Rattle.std.proofs.lemmas.List.{append-nil}
use Rattle.far_types.specs.declared.spec.Spec.{Spec}
use Rattle.far_types.specs.Answers.{extrema}
use Rattle.far_types.specs.Effects.{with_observed}
use Rattle.far_types.specs.Pairs.{Pair}
use Rattle.far_types.specs.Table.{Place, place_pair}
use Rattle.far_types.proofs.EffectsLaws.{extrema-cons, extrema-among}
use Rattle.far_aggregates.specs.Accumulators.{Change}
use Rattle.far_aggregates.specs.Pairs.{with_observed_change}

extrema-last : (xs : List Pair) (p : Pair) → extrema (xs ++ p ∷ []) ≡ with_observed (extrema xs) p
extrema-last xs p = extrema-among xs p [] ∙ ap (λ l. extrema (p ∷ l)) (append-nil xs) ∙ extrema-cons p xs

-- extrema of pairs with one more pair at the end, if there is one
pub extrema-joined : (xs : List Pair) (o : Change) → extrema (xs ++ cons_option o []) ≡ with_observed_change (extrema xs) o
extrema-joined xs None = ap extrema (append-nil xs)
extrema-joined xs (Some p) = extrema-last xs p

-- there are no more pairs than places
pub pairs-few : (spec : Spec) (ps : List Place) → length (filter_map (place_pair spec) ps) ≤ length ps
pairs-few spec [] = omega arith
pairs-few spec (p ∷ ps) =
    let rest = pairs-few spec ps in
    elim (place_pair spec p) as (λ o. length (cons_option o (filter_map (place_pair spec) ps)) ≤ suc (length ps)) [ None ↦ omega arith | Some q ↦ omega arith ]
