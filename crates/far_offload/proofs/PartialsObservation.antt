-- Extrema with the rows of one more row group.
use Rattle.std.proofs.Common.{◌≡◌, true, false, cond, List, [], ◌∷◌, ◌++◌, map, Option, None, Some, refl, sym, ap, ◌∙◌, arith}
use Rattle.std.specs.Prelude.{ℤ}
use Rattle.std.specs.Int.{int_min, int_max}
use Rattle.std.specs.FinMap as fin
use Rattle.std.specs.Ordering.{eq_by_cmp}
use Rattle.std.proofs.lemmas.Int.{ints, int_min_is, int_max_is}
use Rattle.far_types.specs.Keys.{line_cmp}
use Rattle.far_types.specs.KeyOrder.{line_total}
use Rattle.far_types.specs.Pairs.{Pair}
use Rattle.far_types.specs.Answers.{Extrema, extrema}
use Rattle.far_types.specs.Effects.{min_max_with, with_observed, merge_two, join_min_maxes, joined_extrema}
use Rattle.far_types.proofs.AnswersGrouping.{same, same_key, get-joined}
use Rattle.far_types.proofs.AnswersByKeyMaps.{joined-empty}
use Rattle.far_types.proofs.EffectsLaws.{extrema-append}
use Rattle.far_offload.specs.Partials.{min_max_in}
use Rattle.far_offload.proofs.PartialsLaws.{extrema-more, plain-extrema, no-extrema}

-- widening the second of two joined min-maxes widens the result
join-widened : (v : ℤ) (one other : Option (ℤ × ℤ)) → Some (min_max_with v (merge_two join_min_maxes one other)) ≡ merge_two join_min_maxes one (Some (min_max_with v other))
join-widened v None None = refl
join-widened v None (Some y) = refl
join-widened v (Some x) None =
    let least : int_min v x.0 ≡ int_min x.0 v = omega (arith, ints, int_min_is v x.0, int_min_is x.0 v) in
    let greatest : int_max v x.1 ≡ int_max x.1 v = omega (arith, ints, int_max_is v x.1, int_max_is x.1 v) in
    λ i. Some (least i, greatest i)
join-widened v (Some x) (Some y) =
    let least : int_min v (int_min x.0 y.0) ≡ int_min x.0 (int_min v y.0) = omega (arith, ints, int_min_is x.0 y.0, int_min_is v y.0, int_min_is v (int_min x.0 y.0), int_min_is x.0 (int_min v y.0)) in
    let greatest : int_max v (int_max x.1 y.1) ≡ int_max x.1 (int_max v y.1) = omega (arith, ints, int_max_is x.1 y.1, int_max_is v y.1, int_max_is v (int_max x.1 y.1), int_max_is x.1 (int_max v y.1)) in
    λ i. Some (least i, greatest i)

-- a pair may be observed before or after two extrema are joined
observed-joined : (m n : Extrema) (p : Pair) → with_observed (joined_extrema m n) p ≡ joined_extrema m (with_observed n p)
observed-joined m n p = same _ _ (λ q.
    fin.get-insert line_total (joined_extrema m n) p.0 (min_max_with p.1 (fin.get (joined_extrema m n) p.0)) q
    ∙ elim (eq_by_cmp line_cmp q p.0) as (λ b. eq_by_cmp line_cmp q p.0 ≡ b → cond b (Some (min_max_with p.1 (fin.get (joined_extrema m n) p.0))) (fin.get (joined_extrema m n) q) ≡ merge_two join_min_maxes (fin.get m q) (cond b (Some (min_max_with p.1 (fin.get n p.0))) (fin.get n q))) [
      | true ↦ λ h.
          ap (λ o. Some (min_max_with p.1 o)) (get-joined join_min_maxes m n p.0)
          ∙ join-widened p.1 (fin.get m p.0) (fin.get n p.0)
          ∙ ap (λ k. merge_two join_min_maxes (fin.get m k) (Some (min_max_with p.1 (fin.get n p.0)))) (sym (same_key q p.0 h))
      | false ↦ λ h. get-joined join_min_maxes m n q
    ] refl
    ∙ ap (merge_two join_min_maxes (fin.get m q)) (sym (fin.get-insert line_total n p.0 (min_max_with p.1 (fin.get n p.0)) q))
    ∙ sym (get-joined join_min_maxes m (with_observed n p) q))

-- joining extrema of no rows changes nothing
pub observed-nothing : (m : Extrema) → m ≡ joined_extrema m (extrema [])
observed-nothing m = sym (joined-empty join_min_maxes m)

-- observing one more row after a join, or before it
pub observed-more : (m : Extrema) (pairs : List Pair) (pair : Pair) → with_observed (joined_extrema m (extrema pairs)) pair ≡ joined_extrema m (extrema (pairs ++ pair ∷ []))
observed-more m pairs pair = observed-joined m (extrema pairs) pair ∙ ap (joined_extrema m) (sym (extrema-more pairs pair))

-- joining rows without a key, given their least and greatest value
pub observed-plain : (m : Extrema) (values : List ℤ) (least greatest : ℤ) → Some (least, greatest) ≡ min_max_in values → joined_extrema m (fin.insert fin.empty None (least, greatest)) ≡ joined_extrema m (extrema (map (λ value. (None, value)) values))
observed-plain m values least greatest h = ap (joined_extrema m) (sym (plain-extrema values least greatest h))

-- without such rows nothing changes
pub observed-none : (m : Extrema) (values : List ℤ) → None ≡ min_max_in values → m ≡ joined_extrema m (extrema (map (λ value. (None, value)) values))
observed-none m values h = sym (joined-empty join_min_maxes m) ∙ ap (joined_extrema m) (sym (no-extrema values h))

-- joining rows to empty extrema
pub observed-first : (pairs : List Pair) → joined_extrema fin.empty (extrema pairs) ≡ extrema pairs
observed-first pairs = sym (extrema-append [] pairs)
