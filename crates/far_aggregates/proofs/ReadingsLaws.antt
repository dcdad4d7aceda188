-- The results of the methods that read an aggregate.
use Rattle.std.proofs.Common.{◌≡◌, ℕ, Bool, true, false, cond, List, [], ◌∷◌, map, refl, sym, ap, ◌∙◌, subst, Option, None, Some}
use Rattle.std.specs.Prelude.{ℤ, pos, unwrap_or, is_none, ◌&&◌, ◌==◌}
use Rattle.std.specs.List.{filter_map, cons_option}
use Rattle.std.specs.FinMap as fin
use Rattle.far_types.specs.declared.spec.Spec.{Spec}
use Rattle.far_types.specs.declared.spec.Fold.{Fold}
use Rattle.far_types.specs.declared.spec.Fold.TheVariants as fold
use Rattle.far_types.specs.Answers.{is_under, values_of, count_sum, totals}
use Rattle.far_types.specs.Cells.{cells_of, number_in}
use Rattle.far_types.specs.Filters.{keeps}
use Rattle.far_types.specs.Pairs.{Pair, key_under, paired, pair_in, pair_of}
use Rattle.far_types.specs.Table.{Place, place_pair, left}
use Rattle.far_types.proofs.AnswersGrouping.{own_key, if_any, get-grouped, values_of-cons}
use Rattle.far_types.proofs.TablePairs.{pairs_of-rows}
use Rattle.far_groups.specs.Live as groups
use Rattle.far_aggregates.specs.declared.aggregate.Aggregate.{Aggregate}
use Rattle.far_aggregates.specs.declared.aggregate.Accumulator.TheVariants as accumulator
use Rattle.far_aggregates.specs.Accumulators.{Change, registered_in, fold_of, IsUpToDate, KeepsEntry}
use Rattle.far_aggregates.specs.Readings.{is_totals, all_values, plain_in}
use Rattle.far_aggregates.proofs.AccumulatorsTotals.{scanned-all}

-- without a key column each pair has the key `None`

abbrev pub Keyless : Change → Type 0
Keyless None = Unit {0}
Keyless (Some pair) = pair.0 ≡ None

keyless-paired : (v : Option ℤ) → Keyless (paired (Some None) v)
keyless-paired None = tt
keyless-paired (Some v) = refl

keyless-when : (b : Bool) (c : Change) → Keyless c → Keyless (cond b c None)
keyless-when true c h = h
keyless-when false c h = tt

pub keyless : (spec : Spec) (p : Place) → spec.key ≡ None → Keyless (place_pair spec p)
keyless spec p h =
    let cells = cells_of p.cells in
    keyless-when p.alive (pair_of spec cells) (keyless-when (keeps spec.filter cells) (pair_in spec cells)
    (subst (λ k. Keyless (paired (key_under k cells) (number_in (cells spec.value)))) (sym h) (keyless-paired (number_in (cells spec.value)))))

under_none : (c : Change) (ps : List Pair) → Keyless c → values_of None ps ≡ map (λ (pair : Pair). pair.1) ps → values_of None (cons_option c ps) ≡ map (λ (pair : Pair). pair.1) (cons_option c ps)
under_none None ps h k = k
under_none (Some pair) ps h k =
    let own : is_under None pair ≡ true = ap (λ key. is_under None (key, pair.1)) h ∙ own_key None in
    values_of-cons None pair ps ∙ ap (λ b. cond b (pair.1 ∷ values_of None ps) (values_of None ps)) own ∙ ap (λ l. pair.1 ∷ l) k

all_under_none : (spec : Spec) (ps : List Place) → spec.key ≡ None → values_of None (filter_map (place_pair spec) ps) ≡ map (λ (pair : Pair). pair.1) (filter_map (place_pair spec) ps)
all_under_none spec [] h = refl
all_under_none spec (p ∷ ps) h = under_none (place_pair spec p) (filter_map (place_pair spec) ps) (keyless spec p h) (all_under_none spec ps h)

count_sum_or_zero : (vs : List ℤ) → unwrap_or (if_any vs (count_sum vs)) (0, pos 0) ≡ count_sum vs
count_sum_or_zero [] = refl
count_sum_or_zero (v ∷ vs) = refl

plain-values : (spec : Spec) (ps : List Place) → spec.key ≡ None → unwrap_or (fin.get (totals (filter_map (place_pair spec) ps)) None) (0, pos 0) ≡ all_values spec ps
plain-values spec ps h =
    let pairs = filter_map (place_pair spec) ps in
    ap (λ o. unwrap_or o (0, pos 0)) (get-grouped count_sum pairs None)
    ∙ count_sum_or_zero (values_of None pairs)
    ∙ ap count_sum (all_under_none spec ps h)
    ∙ ap (λ l. count_sum (map (λ (pair : Pair). pair.1) l)) (sym (pairs_of-rows spec ps))

no_key : (o : Option ℕ) → is_none o ≡ true → o ≡ None
no_key None h = refl
no_key (Some c) h = cc

all_three : (f : Fold) (key : Option ℕ) (n : ℕ) (x : ℕ × ℤ) → fold.Totals ≡ f → is_none key ≡ true → n ≡ 0 → Some x ≡ cond (is_totals f && is_none key && n == 0) (Some x) None
all_three f key n x e k z = rw (← e, k, z) refl

pub plain-now : (size : ℕ) (ps : List Place) (a : Aggregate) (live : groups.TotalsState) → a.accumulator ≡ accumulator.Totals live → KeepsEntry size ps (Some a) → is_none a.spec.key ≡ true → live.left ≡ 0
    → Some (unwrap_or (fin.get live.totals None) (0, pos 0)) ≡ plain_in ps (registered_in (Some a))
plain-now size ps a live is h k z =
    let here = subst (λ x. (fold_of x ≡ a.spec.fold) × IsUpToDate size ps a x) is h in
    let none : left a.pending ≡ 0 = sym here.1.1 ∙ z in
    ap (λ t. Some (unwrap_or (fin.get t None) (0, pos 0))) (here.1.0 ∙ ap totals (scanned-all a.spec size a.pending 0 ps none))
    ∙ ap Some (plain-values a.spec ps (no_key a.spec.key k))
    ∙ all_three a.spec.fold a.spec.key (left a.pending) (all_values a.spec ps) here.0 k none
