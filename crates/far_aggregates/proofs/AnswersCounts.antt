-- The number of values under a key, each of which can be retracted from totals.
use Rattle.std.proofs.Common.{refl, ◌≡◌, ℕ, suc, ◌-◌, ◌*◌, ◌≤◌, ◌^◌, true, false, cond, List, [], ◌∷◌, length, sym, ap, ◌∙◌, subst, arith, Option, Some}
use Rattle.std.specs.Prelude.{ℤ, pos, ◌+ℤ◌, ◌-ℤ◌, ◌≤ℤ◌, neg_ℤ, FitsSigned}
use Rattle.std.specs.Int.{w64}
use Rattle.std.specs.List.{AllByRecursion}
use Rattle.std.specs.FinMap as fin
use Rattle.std.proofs.lemmas.Int.{ints}
use Rattle.far_types.specs.declared.key.Key.{Key}
use Rattle.far_types.specs.Answers.{is_under, values_of, int_sum, count_sum, totals}
use Rattle.far_types.specs.Effects.{count_in}
use Rattle.far_types.specs.Pairs.{Pair, PairsFit}
use Rattle.far_types.proofs.AnswersGrouping.{own_key, if_any, get-grouped, values_of-cons}
use Rattle.far_types.proofs.AnswersLines.{int_sum-low, int_sum-high}
use Rattle.far_groups.specs.Live.{CanRetract}

abbrev ValuesFit : List ℤ → Type 0
ValuesFit values = AllByRecursion (FitsSigned w64) values

values_of-fit : (q : Option Key) (ps : List Pair) → PairsFit ps → ValuesFit (values_of q ps)
values_of-fit q [] h = tt
values_of-fit q (p ∷ ps) h = subst ValuesFit (sym (values_of-cons q p ps)) (elim (is_under q p) as (λ b. ValuesFit (cond b (p.1 ∷ values_of q ps) (values_of q ps))) [ true ↦ (h.0, values_of-fit q ps h.1) | false ↦ values_of-fit q ps h.1 ])

length-values_of : (q : Option Key) (ps : List Pair) → length (values_of q ps) ≤ length ps
length-values_of q [] = omega arith
length-values_of q (p ∷ ps) =
    let rest = length-values_of q ps in
    let P : List ℤ → Type 0 = λ vs. length vs ≤ suc (length ps) in
    subst P (sym (values_of-cons q p ps)) (elim (is_under q p) as (λ b. length (cond b (p.1 ∷ values_of q ps) (values_of q ps)) ≤ suc (length ps)) [ true ↦ omega arith | false ↦ omega arith ])

counted : (vs : List ℤ) → count_in (if_any vs (count_sum vs)) ≡ length vs
counted [] = refl
counted (v ∷ vs) = refl

pub few_under : (ps : List Pair) (q : Option Key) → count_in (fin.get (totals ps) q) ≤ length ps
few_under ps q =
    let is : count_in (fin.get (totals ps) q) ≡ length (values_of q ps) = ap count_in (get-grouped count_sum ps q) ∙ counted (values_of q ps) in
    let few = length-values_of q ps in
    omega arith

low : (n : ℕ) (s v : ℤ) → neg_ℤ (pos (n * 2 ^ 63)) ≤ℤ s → neg_ℤ (pos ((suc n - 1) * 2 ^ 63)) ≤ℤ ((v +ℤ s) -ℤ v)
low n s v h = omega (arith, ints)

high : (n : ℕ) (s v : ℤ) → s ≤ℤ pos (n * (2 ^ 63 - 1)) → ((v +ℤ s) -ℤ v) ≤ℤ pos ((suc n - 1) * (2 ^ 63 - 1))
high n s v h = omega (arith, ints)

own : (p : Pair) (ps : List Pair) → fin.get (totals (p ∷ ps)) p.0 ≡ Some (count_sum (p.1 ∷ values_of p.0 ps))
own p ps =
    get-grouped count_sum (p ∷ ps) p.0
    ∙ ap (λ vs. if_any vs (count_sum vs)) (values_of-cons p.0 p ps ∙ ap (λ b. cond b (p.1 ∷ values_of p.0 ps) (values_of p.0 ps)) (own_key p.0))

pub can_retract : (p : Pair) (ps : List Pair) → PairsFit ps → CanRetract p.1 (fin.get (totals (p ∷ ps)) p.0)
can_retract p ps h =
    let vs = values_of p.0 ps in
    let fits = values_of-fit p.0 ps h in
    subst (CanRetract p.1) (sym (own p ps)) (omega arith, (low (length vs) (int_sum vs) p.1 (int_sum-low vs fits), high (length vs) (int_sum vs) p.1 (int_sum-high vs fits)))
