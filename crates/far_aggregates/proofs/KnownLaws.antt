-- The cache of the min-max under no key, as the min-max changes.
use Rattle.std.proofs.Common.{inl, inr, ◌≡◌, true, false, cond, ℕ, ◌+◌, ◌-◌, ◌<◌, List, length, sym, ap, ◌∙◌, subst, Option, None, Some, slice_set}
use Rattle.std.specs.Prelude.{ℤ, is_some, IfSome, slice_get}
use Rattle.std.specs.Ordering.{eq_by_cmp}
use Rattle.std.specs.FinMap as fin
use Rattle.std.proofs.lemmas.List.{get_or-set_same, get_or-set_other}
use Rattle.far_types.specs.declared.key.Key.{Key}
use Rattle.far_types.specs.Keys.{line_cmp}
use Rattle.far_types.specs.KeyOrder.{line_total}
use Rattle.far_types.specs.Answers.{Extrema}
use Rattle.far_types.specs.Effects.{with_observed, min_max_with}
use Rattle.far_types.proofs.AnswersByKeyMaps.{get_inserted}
use Rattle.far_extrema.specs.Live.{group_at, after_reserve}
use Rattle.far_extrema.specs.MinMaxes.{put_min_max}
use Rattle.far_aggregates.specs.Known.{AreKnown, IsNoted}
use Rattle.far_aggregates.proofs.AccumulatorsExtrema.{same_or_not}
use Rattle.far_aggregates.proofs.ListLaws.{index-replicate}

pub known-reserved : (plain : List (Option (ℤ × ℤ))) (groups new : List Extrema) (g : ℕ) → new ≡ after_reserve g groups → AreKnown plain groups → AreKnown plain new
known-reserved plain groups new g is known h min_max noted =
    ap (λ (gs : List Extrema). fin.get (group_at gs h) None) is
    ∙ ap (λ (m : Extrema). fin.get m None) (index-replicate groups (g + 1 - length groups) h fin.empty)
    ∙ known h min_max noted

pub known-same : (plain : List (Option (ℤ × ℤ))) (groups new : List Extrema) → new ≡ groups → AreKnown plain groups → AreKnown plain new
known-same plain groups new is known = subst (AreKnown plain) (sym is) known

-- the cached min-max of a row group, if there is one
pub known-at : (plain : List (Option (ℤ × ℤ))) (groups : List Extrema) (g : ℕ) (o : Option (ℤ × ℤ)) → AreKnown plain groups → IfSome o (λ min_max. slice_get plain g ≡ Some (Some min_max)) → IfSome o (λ min_max. fin.get (group_at groups g) None ≡ Some min_max)
known-at plain groups g None known h = tt
known-at plain groups g (Some min_max) known h = known g min_max h

-- row groups that change: the min-max under no key is unchanged, or is cached anew

pub known-elsewhere : (plain : List (Option (ℤ × ℤ))) (groups : List Extrema) (g : ℕ) (m : Extrema) → g < length groups → fin.get m None ≡ fin.get (group_at groups g) None → AreKnown plain groups → AreKnown plain (slice_set groups g m)
known-elsewhere plain groups g m within same known h min_max noted = elim (same_or_not h g) [
  | inl e ↦
      ap (λ k. fin.get (group_at (slice_set groups g m) k) None) e
      ∙ ap (λ (x : Extrema). fin.get x None) (get_or-set_same groups g m fin.empty within)
      ∙ same ∙ ap (λ k. fin.get (group_at groups k) None) (sym e) ∙ known h min_max noted
  | inr e ↦ ap (λ (x : Extrema). fin.get x None) (get_or-set_other groups g h m fin.empty e) ∙ known h min_max noted
]

pub known-noted : (plain more : List (Option (ℤ × ℤ))) (groups : List Extrema) (g : ℕ) (m : Extrema) (o : Option (ℤ × ℤ)) → g < length groups → o ≡ fin.get m None → AreKnown plain groups → IsNoted plain g o more → AreKnown more (slice_set groups g m)
known-noted plain more groups g m o within is known note h min_max noted = elim (note h min_max noted) [
  | inl e ↦
      ap (λ k. fin.get (group_at (slice_set groups g m) k) None) e.0
      ∙ ap (λ (x : Extrema). fin.get x None) (get_or-set_same groups g m fin.empty within)
      ∙ sym is ∙ e.1
  | inr e ↦ ap (λ (x : Extrema). fin.get x None) (get_or-set_other groups g h m fin.empty e.0) ∙ known h min_max e.1
]

-- the min-max under no key, if a key changes

get_put : (m : Extrema) (k : Option Key) (o : Option (ℤ × ℤ)) (q : Option Key) → fin.get (put_min_max m k o) q ≡ cond (eq_by_cmp line_cmp q k) o (fin.get m q)
get_put m k None q = fin.get-remove line_total m k q
get_put m k (Some x) q = fin.get-insert line_total m k x q

pub put-plain : (m : Extrema) (key : Option Key) (o : Option (ℤ × ℤ)) → is_some key ≡ false → o ≡ fin.get (put_min_max m key o) None
put-plain m None o is = sym (get_put m None o None)
put-plain m (Some k) o is = absurd cc

pub put-elsewhere : (m : Extrema) (key : Option Key) (o : Option (ℤ × ℤ)) → is_some key ≡ true → fin.get (put_min_max m key o) None ≡ fin.get m None
put-elsewhere m None o is = absurd cc
put-elsewhere m (Some k) o is = get_put m (Some k) o None

pub observed-plain : (m : Extrema) (key : Option Key) (v : ℤ) (previous : Option (ℤ × ℤ)) → is_some key ≡ false → previous ≡ fin.get m key → Some (min_max_with v previous) ≡ fin.get (with_observed m (key, v)) None
observed-plain m None v previous is there = ap (λ o. Some (min_max_with v o)) there ∙ sym (get_inserted m None (min_max_with v (fin.get m None)))
observed-plain m (Some k) v previous is there = absurd cc

pub observed-elsewhere : (m : Extrema) (key : Option Key) (v : ℤ) → is_some key ≡ true → fin.get (with_observed m (key, v)) None ≡ fin.get m None
observed-elsewhere m None v is = absurd cc
observed-elsewhere m (Some k) v is = fin.get-insert line_total m (Some k) (min_max_with v (fin.get m (Some k))) None
