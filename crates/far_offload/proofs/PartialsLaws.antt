-- How the aggregate of the first places changes with one more place.
use Rattle.std.proofs.Common.{◌≡◌, ℕ, zero, suc, ◌+◌, ◌<◌, ◌≤◌, ◌^◌, Bool, true, false, cond, List, [], ◌∷◌, ◌++◌, length, get_or, map, take, Option, None, Some, refl, sym, ap, ◌∙◌, arith}
use Rattle.std.specs.Prelude.{ℤ, ◌+ℤ◌, option_map, is_some, FitsSigned}
use Rattle.std.specs.Int.{w64}
use Rattle.std.specs.FinMap as fin
use Rattle.std.specs.Option.{option_and_then}
use Rattle.std.proofs.lemmas.Bool.{false≢true}
use Rattle.std.specs.List.{filter_map, cons_option, enumerate_from}
use Rattle.std.proofs.lemmas.Int.{ints}
use Rattle.std.proofs.lemmas.List.{append-nil, take_more}
use Rattle.std.proofs.lemmas.List.Elements.{filter_map-append}
use Rattle.far_types.specs.declared.key.Key.{Key}
use Rattle.far_types.specs.declared.spec.Spec.{Spec}
use Rattle.far_types.specs.Cells.{number_in, key_in}
use Rattle.far_types.specs.Filters.{keeps}
use Rattle.far_types.specs.Pairs.{Pair, PairsFit, key_under, paired}
use Rattle.far_types.specs.Answers.{count_sum, int_sum, min_max, totals, extrema}
use Rattle.far_types.specs.Effects.{min_max_with, with_pair, with_observed, count_in, joined_totals}
use Rattle.far_types.proofs.AnswersByKeyMaps.{grouped-one}
use Rattle.far_types.proofs.AnswersValues.{count_sum-among, min_max-among, min_max-cons}
use Rattle.far_types.proofs.EffectsLaws.{totals-cons, totals-among, totals-append, extrema-cons, extrema-among}
use Rattle.far_extrema.proofs.HoldersLaws.{widened_within}
use Rattle.far_groups.proofs.LivePairs.{counted}
use Rattle.far_offload.specs.Columns.{Columns, cells_at}
use Rattle.far_offload.specs.Partials.{pair_at, pairs_over, value_at, values_over, min_max_in, IsWithin}

enumerate-more : (n : ℕ) (flags : List Bool) (i : ℕ) → i < length flags → enumerate_from n (take i flags ++ get_or flags i false ∷ []) ≡ enumerate_from n (take i flags) ++ (n + i, get_or flags i false) ∷ []
enumerate-more n [] i h = absurd (omega arith)
enumerate-more n (flag ∷ flags) zero h = ap (λ k. (k, flag) ∷ []) (omega arith)
enumerate-more n (flag ∷ flags) (suc i) h =
    ap (λ l. (n, flag) ∷ l) (enumerate-more (n + 1) flags i (omega arith)
    ∙ ap (λ k. enumerate_from (n + 1) (take i flags) ++ (k, get_or flags i false) ∷ []) (omega arith))

-- the pairs of places, with one more place
pub over-more : {Y : Type 0} (h : ℕ × Bool → Option Y) (flags : List Bool) (i : ℕ) (flag : Bool) → i < length flags → get_or flags i false ≡ flag → filter_map h (enumerate_from 0 (take (i + 1) flags)) ≡ filter_map h (enumerate_from 0 (take i flags)) ++ cons_option (h (i, flag)) []
over-more h flags i flag within is =
    ap (λ l. filter_map h (enumerate_from 0 l)) (take_more flags i false within)
    ∙ ap (filter_map h) (enumerate-more 0 flags i within)
    ∙ filter_map-append h (enumerate_from 0 (take i flags)) ((0 + i, get_or flags i false) ∷ [])
    ∙ ap (λ k. filter_map h (enumerate_from 0 (take i flags)) ++ cons_option (h (k, get_or flags i false)) []) (omega arith)
    ∙ ap (λ f. filter_map h (enumerate_from 0 (take i flags)) ++ cons_option (h (i, f)) []) is

pub over-few : {Y : Type 0} (h : ℕ × Bool → Option Y) (n : ℕ) (flags : List Bool) → length (filter_map h (enumerate_from n flags)) ≤ length flags
over-few h n [] = omega arith
over-few h n (flag ∷ flags) = few (h (n, flag)) (filter_map h (enumerate_from (n + 1) flags)) (over-few h (n + 1) flags)
  where
    few : {Y : Type 0} (o : Option Y) (ys : List Y) → length ys ≤ length flags → length (cons_option o ys) ≤ length (flag ∷ flags)
    few None ys h = omega arith
    few (Some y) ys h = omega arith

pub count_sum-more : (values : List ℤ) (value : ℤ) → count_sum (values ++ value ∷ []) ≡ ((count_sum values).0 + 1, (count_sum values).1 +ℤ value)
count_sum-more values value =
    let count : length (value ∷ values) ≡ length values + 1 = omega arith in
    let sum : value +ℤ int_sum values ≡ int_sum values +ℤ value = omega (arith, ints) in
    count_sum-among values value [] ∙ ap (λ l. count_sum (value ∷ l)) (append-nil values) ∙ (λ i. (count i, sum i))

pub min_max-more : (values : List ℤ) (value : ℤ) → min_max_in (values ++ value ∷ []) ≡ Some (min_max_with value (min_max_in values))
min_max-more [] value = refl
min_max-more (v ∷ values) value =
    ap Some (min_max-among (v ∷ values) value [] ∙ ap (λ l. min_max (value ∷ l)) (append-nil (v ∷ values)) ∙ min_max-cons value (v ∷ values))

pub totals-more : (pairs : List Pair) (pair : Pair) → totals (pairs ++ pair ∷ []) ≡ with_pair (totals pairs) pair
totals-more pairs pair = totals-among pairs pair [] ∙ ap (λ l. totals (pair ∷ l)) (append-nil pairs) ∙ totals-cons pair pairs

pub extrema-more : (pairs : List Pair) (pair : Pair) → extrema (pairs ++ pair ∷ []) ≡ with_observed (extrema pairs) pair
extrema-more pairs pair = extrema-among pairs pair [] ∙ ap (λ l. extrema (pair ∷ l)) (append-nil pairs) ∙ extrema-cons pair pairs

-- one more pair can be counted for a key
pub few-under : (pairs : List Pair) (key : Option Key) → length pairs < 2 ^ 26 → count_in (fin.get (totals pairs) key) < 2 ^ 26
few-under pairs key few = let h = counted pairs key in omega (arith, h)

-- the values of the first places, with one more place
pub values-with : (spec : Spec) (columns : Columns) (flags : List Bool) (i : ℕ) (flag : Bool) (value : ℤ) → i < length flags → get_or flags i false ≡ flag → Some value ≡ value_at spec columns (i, flag) → values_over spec columns (take (i + 1) flags) ≡ values_over spec columns (take i flags) ++ value ∷ []
values-with spec columns flags i flag value within is there =
    over-more (value_at spec columns) flags i flag within is
    ∙ ap (λ (o : Option ℤ). values_over spec columns (take i flags) ++ cons_option o []) (sym there)

pub values-same : (spec : Spec) (columns : Columns) (flags : List Bool) (i : ℕ) (flag : Bool) → i < length flags → get_or flags i false ≡ flag → None ≡ value_at spec columns (i, flag) → values_over spec columns (take (i + 1) flags) ≡ values_over spec columns (take i flags)
values-same spec columns flags i flag within is none =
    over-more (value_at spec columns) flags i flag within is
    ∙ ap (λ (o : Option ℤ). values_over spec columns (take i flags) ++ cons_option o []) (sym none)
    ∙ append-nil (values_over spec columns (take i flags))

-- a value between the least and the greatest changes neither
pub within-unchanged : (value : ℤ) (min_max there : Option (ℤ × ℤ)) → min_max ≡ there → IsWithin min_max (Some value) → Some (min_max_with value there) ≡ there
within-unchanged value None there before h = absurd h
within-unchanged value (Some s) there before h = ap (λ o. Some (min_max_with value o)) (sym before) ∙ ap Some (widened_within value s h.0 h.1) ∙ before

pub values-within : (spec : Spec) (columns : Columns) (flags : List Bool) (i : ℕ) (flag : Bool) (observed : Option (ℤ × ℤ)) → i < length flags → get_or flags i false ≡ flag → observed ≡ min_max_in (values_over spec columns (take i flags)) → IsWithin observed (value_at spec columns (i, flag)) → min_max_in (values_over spec columns (take (i + 1) flags)) ≡ min_max_in (values_over spec columns (take i flags))
values-within spec columns flags i flag observed within is before = elim (value_at spec columns (i, flag)) as (λ (o : Option ℤ). o ≡ value_at spec columns (i, flag) → IsWithin observed o → min_max_in (values_over spec columns (take (i + 1) flags)) ≡ min_max_in (values_over spec columns (take i flags))) [
  | None ↦ λ e h. ap min_max_in (values-same spec columns flags i flag within is e)
  | Some value ↦ λ e h. ap min_max_in (values-with spec columns flags i flag value within is e) ∙ min_max-more (values_over spec columns (take i flags)) value ∙ within-unchanged value observed (min_max_in (values_over spec columns (take i flags))) before h
] refl

-- a place with a value contributes a pair if it has a key
paired-is : (under : Option (Option Key)) (number : Option ℤ) → paired under number ≡ option_and_then (λ value. option_map (λ key. (key, value)) under) number
paired-is None None = refl
paired-is None (Some value) = refl
paired-is (Some key) None = refl
paired-is (Some key) (Some value) = refl

pub pair-is : (spec : Spec) (columns : Columns) (place : ℕ × Bool) → pair_at spec columns place ≡ option_and_then (λ value. option_map (λ key. (key, value)) (key_under spec.key (cells_at columns place.0))) (value_at spec columns place)
pair-is spec columns place =
    let under = key_under spec.key (cells_at columns place.0) in
    let number = number_in (cells_at columns place.0 spec.value) in
    elim place.1 as (λ a. cond a (cond (keeps spec.filter (cells_at columns place.0)) (paired under number) None) None ≡ option_and_then (λ value. option_map (λ key. (key, value)) under) (cond a (cond (keeps spec.filter (cells_at columns place.0)) number None) None)) [
      | true ↦ elim (keeps spec.filter (cells_at columns place.0)) as (λ k. cond k (paired under number) None ≡ option_and_then (λ value. option_map (λ key. (key, value)) under) (cond k number None)) [ true ↦ paired-is under number | false ↦ refl ]
      | false ↦ refl
    ]

-- the pairs of the first places, with one more place
pub pairs-next : (spec : Spec) (columns : Columns) (flags : List Bool) (i : ℕ) (flag : Bool) (pair : Option Pair) → i < length flags → get_or flags i false ≡ flag → pair_at spec columns (i, flag) ≡ pair → pairs_over spec columns (take (i + 1) flags) ≡ pairs_over spec columns (take i flags) ++ cons_option pair []
pairs-next spec columns flags i flag pair within is there =
    over-more (pair_at spec columns) flags i flag within is
    ∙ ap (λ (o : Option Pair). pairs_over spec columns (take i flags) ++ cons_option o []) there

pub pairs-valueless : (spec : Spec) (columns : Columns) (flags : List Bool) (i : ℕ) (flag : Bool) → i < length flags → get_or flags i false ≡ flag → None ≡ value_at spec columns (i, flag) → pairs_over spec columns (take (i + 1) flags) ≡ pairs_over spec columns (take i flags)
pairs-valueless spec columns flags i flag within is none =
    pairs-next spec columns flags i flag None within is (pair-is spec columns (i, flag) ∙ ap (λ (o : Option ℤ). option_and_then (λ value. option_map (λ key. (key, value)) (key_under spec.key (cells_at columns i))) o) (sym none))
    ∙ append-nil (pairs_over spec columns (take i flags))

-- pairs whose values fit 64 bits, with one more such pair
pub fits-more : (pairs : List Pair) (pair : Pair) → PairsFit pairs → FitsSigned w64 pair.1 → PairsFit (pairs ++ pair ∷ [])
fits-more [] pair fits fit = (fit, tt)
fits-more (p ∷ pairs) pair fits fit = (fits.0, fits-more pairs pair fits.1 fit)

-- the pair of a place with a value, in an aggregate with a key column
keyed-pair : (spec : Spec) (columns : Columns) (i column : ℕ) (flag : Bool) (value : ℤ) (key : Option Key) → spec.key ≡ Some column → Some value ≡ value_at spec columns (i, flag) → key ≡ key_in (cells_at columns i column) → pair_at spec columns (i, flag) ≡ option_map {U = Pair} (λ k. (Some k, value)) key
keyed-pair spec columns i column flag value key keyed there is =
    pair-is spec columns (i, flag)
    ∙ ap (λ (o : Option ℤ). option_and_then (λ value. option_map (λ key. (key, value)) (key_under spec.key (cells_at columns i))) o) (sym there)
    ∙ ap (λ (o : Option ℕ). option_map (λ key. (key, value)) (key_under o (cells_at columns i))) keyed
    ∙ ap (λ (o : Option Key). option_map {U = Pair} (λ k. (k, value)) (option_map Some o)) (sym is)
    ∙ twice key
  where
    twice : (o : Option Key) → option_map {U = Pair} (λ k. (k, value)) (option_map Some o) ≡ option_map (λ k. (Some k, value)) o
    twice None = refl
    twice (Some k) = refl

some-key : (key : Option Key) (value : ℤ) → is_some key ≡ true → option_map {U = Pair} (λ k. (Some k, value)) key ≡ Some (key, value)
some-key None value h = absurd (false≢true h)
some-key (Some k) value h = refl

no-key : (key : Option Key) (value : ℤ) → is_some key ≡ false → option_map {U = Pair} (λ k. (Some k, value)) key ≡ None
no-key None value h = refl
no-key (Some k) value h = absurd (false≢true (sym h))

pub pairs-with : (spec : Spec) (columns : Columns) (flags : List Bool) (i column : ℕ) (flag : Bool) (value : ℤ) (key : Option Key) → spec.key ≡ Some column → i < length flags → get_or flags i false ≡ flag → Some value ≡ value_at spec columns (i, flag) → key ≡ key_in (cells_at columns i column) → is_some key ≡ true → pairs_over spec columns (take (i + 1) flags) ≡ pairs_over spec columns (take i flags) ++ (key, value) ∷ []
pairs-with spec columns flags i column flag value key keyed within is there key_is some =
    pairs-next spec columns flags i flag (Some (key, value)) within is (keyed-pair spec columns i column flag value key keyed there key_is ∙ some-key key value some)

pub pairs-keyless : (spec : Spec) (columns : Columns) (flags : List Bool) (i column : ℕ) (flag : Bool) (value : ℤ) (key : Option Key) → spec.key ≡ Some column → i < length flags → get_or flags i false ≡ flag → Some value ≡ value_at spec columns (i, flag) → key ≡ key_in (cells_at columns i column) → is_some key ≡ false → pairs_over spec columns (take (i + 1) flags) ≡ pairs_over spec columns (take i flags)
pairs-keyless spec columns flags i column flag value key keyed within is there key_is none =
    pairs-next spec columns flags i flag None within is (keyed-pair spec columns i column flag value key keyed there key_is ∙ no-key key value none)
    ∙ append-nil (pairs_over spec columns (take i flags))

-- without a key column each value has no key
plain-pair : (spec : Spec) (columns : Columns) (place : ℕ × Bool) → spec.key ≡ None → pair_at spec columns place ≡ option_map (λ value. (None, value)) (value_at spec columns place)
plain-pair spec columns place plain =
    pair-is spec columns place
    ∙ ap (λ (o : Option ℕ). option_and_then (λ value. option_map (λ key. (key, value)) (key_under o (cells_at columns place.0))) (value_at spec columns place)) plain
    ∙ once (value_at spec columns place)
  where
    once : (o : Option ℤ) → option_and_then {U = Pair} (λ value. Some (None, value)) o ≡ option_map (λ value. (None, value)) o
    once None = refl
    once (Some value) = refl

pub plain-pairs : (spec : Spec) (columns : Columns) (places : List (ℕ × Bool)) → spec.key ≡ None → filter_map (pair_at spec columns) places ≡ map (λ value. (None, value)) (filter_map (value_at spec columns) places)
plain-pairs spec columns [] plain = refl
plain-pairs spec columns (place ∷ places) plain =
    ap (cons_option (pair_at spec columns place)) (plain-pairs spec columns places plain)
    ∙ ap (λ (o : Option Pair). cons_option o (map (λ value. (None, value)) (filter_map (value_at spec columns) places))) (plain-pair spec columns place plain)
    ∙ each (value_at spec columns place) (filter_map (value_at spec columns) places)
  where
    each : (o : Option ℤ) (values : List ℤ) → cons_option {X = Pair} (option_map (λ value. (None, value)) o) (map (λ value. (None, value)) values) ≡ map (λ value. (None, value)) (cons_option o values)
    each None values = refl
    each (Some value) values = refl

-- the totals of values without a key
plain-totals : (values : List ℤ) → (length values ≡ 0 → ⊥) → totals (map (λ value. (None, value)) values) ≡ fin.insert fin.empty None (count_sum values)
plain-totals [] some = absurd (some refl)
plain-totals (value ∷ values) some = grouped-one count_sum None value values

pub no-totals : (values : List ℤ) → length values ≡ 0 → totals (map (λ value. (None, value)) values) ≡ fin.empty
no-totals [] none = refl
no-totals (value ∷ values) none = absurd (omega arith)

pub plain-extrema : (values : List ℤ) (least greatest : ℤ) → Some (least, greatest) ≡ min_max_in values → extrema (map (λ value. (None, value)) values) ≡ fin.insert fin.empty None (least, greatest)
plain-extrema [] least greatest h = absurd cc
plain-extrema (value ∷ values) least greatest h = grouped-one min_max None value values ∙ ap (fin.insert fin.empty None) (sym (some_same h))
  where
    some_same : {a b : ℤ × ℤ} → Some a ≡ Some b → a ≡ b
    some_same e = cc

pub no-extrema : (values : List ℤ) → None ≡ min_max_in values → extrema (map (λ value. (None, value)) values) ≡ fin.empty
no-extrema [] h = refl
no-extrema (value ∷ values) h = absurd cc

-- the result of `add_rows`, if no row was added yet
pub added-totals : (values : List ℤ) → (length values ≡ 0 → ⊥) → joined_totals fin.empty (fin.insert fin.empty None (count_sum values)) ≡ totals (map (λ value. (None, value)) values)
added-totals values some = ap (joined_totals fin.empty) (sym (plain-totals values some)) ∙ sym (totals-append [] (map (λ value. (None, value)) values))
