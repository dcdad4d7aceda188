-- One run apart from all other runs.
use Rattle.std.proofs.Common.{◌≡◌, ℕ, zero, suc, ◌<◌, ◌≤◌, ◌+◌, [], ◌∷◌, ◌++◌, List, refl, sym, ap, ◌∙◌, arith, Option, None, Some, subst, length, get_or, set, take, drop}
use Rattle.std.specs.Prelude.{ℤ, IfSome}
use Rattle.std.proofs.lemmas.List.{length-set, set-set, set-get_or, get_or-set_same, take-set-le, drop-set-lt, append_assoc}
use Rattle.far_types.specs.Effects.{join_min_maxes, merge_two}
use Rattle.far_extrema.specs.Spreads.{at, IsFrom, IsBelow, IsTopOf}
use Rattle.far_extrema.specs.Runs.{RunState, RiseFrom, whole, AreParts, IsBeforeNext, JoinsOthers, IsApartFrom}
use Rattle.far_extrema.proofs.SpreadsLaws.{at-append, first_of, top-both, regroup, swap}
use Rattle.far_extrema.proofs.RunsLaws.{floor, lower}
use Rattle.far_extrema.proofs.PartsLaws.{whole_from, top_parts, parts_length}

-- the first runs
pub rise_take : (low : ℕ) (fs : List ℕ) (i : ℕ) → RiseFrom low fs → RiseFrom low (take i fs)
rise_take low fs zero up = tt
rise_take low [] (suc i) up = tt
rise_take low (f ∷ fs) (suc i) up = (up.0, rise_take (f + 1) fs i up.1)

pub parts_take : (fs : List ℕ) (rs : List RunState) (i : ℕ) → AreParts fs rs → AreParts (take i fs) (take i rs)
parts_take fs rs zero p = tt
parts_take [] [] (suc i) p = tt
parts_take [] (r ∷ rs) (suc i) p = absurd p
parts_take (f ∷ fs) [] (suc i) p = absurd p
parts_take (f ∷ fs) (r ∷ rs) (suc i) p = (p.0, next fs i p.1, parts_take fs rs i p.2) where
  next : (fs : List ℕ) (i : ℕ) → IsBeforeNext fs r.min_maxes → IsBeforeNext (take i fs) r.min_maxes
  next fs zero b = tt
  next [] (suc i) b = tt
  next (h ∷ fs) (suc i) b = b

-- the runs after them
pub rise_drop : (low : ℕ) (fs : List ℕ) (i : ℕ) → RiseFrom low fs → RiseFrom low (drop i fs)
rise_drop low fs zero up = up
rise_drop low [] (suc i) up = tt
rise_drop low (f ∷ fs) (suc i) up = rise_drop low fs i (lower (f + 1) low fs (omega (arith, up.0)) up.1)

pub parts_drop : (fs : List ℕ) (rs : List RunState) (i : ℕ) → AreParts fs rs → AreParts (drop i fs) (drop i rs)
parts_drop fs rs zero p = p
parts_drop [] [] (suc i) p = tt
parts_drop [] (r ∷ rs) (suc i) p = absurd p
parts_drop (f ∷ fs) [] (suc i) p = absurd p
parts_drop (f ∷ fs) (r ∷ rs) (suc i) p = parts_drop fs rs i p.2

-- both together are all runs
split_whole : (rs : List RunState) (i : ℕ) → whole (take i rs) ++ whole (drop i rs) ≡ whole rs
split_whole rs zero = refl
split_whole [] (suc i) = refl
split_whole (r ∷ rs) (suc i) = append_assoc r.min_maxes (whole (take i rs)) (whole (drop i rs)) ∙ ap (λ mm. r.min_maxes ++ mm) (split_whole rs i)

-- both meet at the bound of a run
below_take : (low : ℕ) (fs : List ℕ) (rs : List RunState) (i : ℕ) → RiseFrom low fs → AreParts fs rs → i < length fs → IsBelow (get_or fs i 0) (whole (take i rs))
below_take low fs rs zero up p l q m = refl
below_take low [] rs (suc i) up p l q m = absurd (omega (arith, l))
below_take low (f ∷ fs) [] (suc i) up p l q m = absurd p
below_take low (f ∷ []) (r ∷ rs) (suc i) up p l q m = absurd (omega (arith, l))
below_take low (f ∷ h ∷ fs) (r ∷ rs) (suc i) up p l q m =
    let first : h ≤ get_or (h ∷ fs) i 0 = floor h (h ∷ fs) i (omega arith, up.1.1) (omega (arith, l)) in
    let there : get_or (h ∷ fs) i 0 ≤ q = m in
    at-append r.min_maxes (whole (take i rs)) q ∙ ap (λ o. first_of o (at (whole (take i rs)) q)) (p.1 q (omega (arith, first, there)))
    ∙ below_take (f + 1) (h ∷ fs) rs i up.1 p.2 (omega (arith, l)) q there

from_drop : (low : ℕ) (fs : List ℕ) (rs : List RunState) (i : ℕ) → RiseFrom low fs → AreParts fs rs → i < length fs → IsFrom (get_or fs i 0) (whole (drop i rs))
from_drop low [] rs i up p l q m = absurd (omega (arith, l))
from_drop low (f ∷ fs) rs zero up p l q m = whole_from low f fs rs q up p m
from_drop low (f ∷ fs) [] (suc i) up p l q m = absurd p
from_drop low (f ∷ fs) (r ∷ rs) (suc i) up p l q m = from_drop (f + 1) fs rs i up.1 p.2 (omega (arith, l)) q m

turned : (a b c : Option (ℤ × ℤ)) → merge_two join_min_maxes a (merge_two join_min_maxes b c) ≡ merge_two join_min_maxes (merge_two join_min_maxes a c) b
turned a b c = ap (merge_two join_min_maxes a) (swap b c) ∙ sym (regroup a c b)

-- the runs before one and the runs after it, joined, are the others
pub joins_others : (fs : List ℕ) (rs : List RunState) (i : ℕ) (a b : Option (ℤ × ℤ)) → RiseFrom 0 fs → AreParts fs rs → i < length rs → IsTopOf (whole (take i rs)) a → IsTopOf (whole (drop (suc i) rs)) b → JoinsOthers fs rs i (merge_two join_min_maxes a b)
joins_others fs rs i a b up p l before behind run parts is =
    let rs' = set rs i run in
    let within : i < length rs' = omega (arith, l, length-set rs i run) in
    let in_firsts : i < length fs = omega (arith, l, parts_length fs rs p) in
    let own : IsTopOf (get_or rs' i run).min_maxes run.top = subst (λ (r : RunState). IsTopOf r.min_maxes run.top) (sym (get_or-set_same rs i run run l)) is in
    let rest : IsTopOf (whole (drop (suc i) rs')) b = subst (λ ss. IsTopOf (whole ss) b) (sym (drop-set-lt (suc i) rs i run (omega arith))) behind in
    let first : IsTopOf (whole (take i rs')) a = subst (λ ss. IsTopOf (whole ss) a) (sym (take-set-le i rs i run (omega arith))) before in
    let joined = top-both (get_or fs i 0) (whole (take i rs')) (whole (drop i rs')) a (merge_two join_min_maxes run.top b)
    (below_take 0 fs rs' i up parts in_firsts) (from_drop 0 fs rs' i up parts in_firsts) first (top_parts 0 fs rs' i run run.top b up parts within own rest) in
    subst (IsTopOf (whole rs')) (turned a run.top b) (subst (λ mm. IsTopOf mm (merge_two join_min_maxes a (merge_two join_min_maxes run.top b))) (split_whole rs' i) joined)

-- changing the run does not change the others
pub others_stay : (fs : List ℕ) (rs : List RunState) (i : ℕ) (r : RunState) (others : Option (ℤ × ℤ)) → JoinsOthers fs rs i others → JoinsOthers fs (set rs i r) i others
others_stay fs rs i r others joins run parts is =
    subst (λ ss. IsTopOf (whole ss) (merge_two join_min_maxes others run.top)) (sym (set-set rs i r run)) (joins run (subst (AreParts fs) (set-set rs i r run) parts) is)

-- the run and the others, joined, are all runs joined
pub with_others : (fs : List ℕ) (rs : List RunState) (i : ℕ) (r : RunState) (others : Option (ℤ × ℤ)) → AreParts fs rs → r ≡ get_or rs i r → IsTopOf r.min_maxes r.top → JoinsOthers fs rs i others → IsTopOf (whole rs) (merge_two join_min_maxes others r.top)
with_others fs rs i r others p is top joins =
    let same : set rs i r ≡ rs = ap (set rs i) is ∙ set-get_or rs i r in
    subst (λ ss. IsTopOf (whole ss) (merge_two join_min_maxes others r.top)) same (joins r (subst (AreParts fs) (sym same) p) top)

module _ (fs : List ℕ) (rs : List RunState) (i : ℕ) (r : RunState) (old found : Option (ℕ × Option (ℤ × ℤ))) where
  -- the joined min-max of the others stays valid, if it belongs to the run that changes
  pub apart_stays : IfSome found (λ one. old ≡ Some one) → IfSome found (λ one. one.0 ≡ i) → IsApartFrom fs rs old → IsApartFrom fs (set rs i r) found
  apart_stays same place apart = of_found found same place where
    of_found : (o : Option (ℕ × Option (ℤ × ℤ))) → IfSome o (λ one. old ≡ Some one) → IfSome o (λ one. one.0 ≡ i) → IsApartFrom fs (set rs i r) o
    of_found None s p = tt
    of_found (Some one) s p =
        let joins : JoinsOthers fs rs one.0 one.1 = subst (IsApartFrom fs rs) s apart in
        subst (λ k. JoinsOthers fs (set rs i r) k one.1) (sym p) (others_stay fs rs i r one.1 (subst (λ k. JoinsOthers fs rs k one.1) p joins))

  -- it is the joined min-max of the other runs
  pub apart_hand : IfSome found (λ one. old ≡ Some one) → IfSome found (λ one. one.0 ≡ i) → IsApartFrom fs rs old → IfSome found (λ one. JoinsOthers fs (set rs i r) i one.1)
  apart_hand same place apart = of_found found same place where
    of_found : (o : Option (ℕ × Option (ℤ × ℤ))) → IfSome o (λ one. old ≡ Some one) → IfSome o (λ one. one.0 ≡ i) → IfSome o (λ one. JoinsOthers fs (set rs i r) i one.1)
    of_found None s p = tt
    of_found (Some one) s p =
        let joins : JoinsOthers fs rs one.0 one.1 = subst (IsApartFrom fs rs) s apart in
        others_stay fs rs i r one.1 (subst (λ k. JoinsOthers fs rs k one.1) p joins)
