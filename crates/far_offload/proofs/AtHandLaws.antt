-- Available columns contribute the pairs of their places: an aggregate reads only the columns that it needs.
use Rattle.std.proofs.Common.{◌≡◌, ℕ, suc, ◌+◌, Bool, true, false, ◌||◌, cond, List, [], ◌∷◌, map, Option, None, Some, refl, ap, ◌∙◌, arith}
use Rattle.std.specs.Prelude.{◌==◌, option_map, slice_get}
use Rattle.std.specs.Cmp.Lexicographic.{pointwise}
use Rattle.std.specs.List.{filter_map, cons_option, enumerate_from, list_any, starts_with}
use Rattle.std.specs.Option.{option_map_or}
use Rattle.std.proofs.lemmas.Bool.{or_left, or_right, eq-eqb}
use Rattle.far_types.specs.declared.filter.Test.{Test}
use Rattle.far_types.specs.declared.filter.Test.TheVariants as test
use Rattle.far_types.specs.declared.spec.Spec.{Spec}
use Rattle.far_types.specs.Bounds.{column_of, needs}
use Rattle.far_types.specs.Cells.{Cells, cells_of, number_in, key_in}
use Rattle.far_types.specs.Filters.{compares, number_passes, text_passes, passes, keeps}
use Rattle.far_types.specs.Pairs.{key_under, paired, pair_of}
use Rattle.far_types.specs.Table.{Place, place_pair}
use Rattle.far_offload.specs.AtHand.{AreAtHand}
use Rattle.far_offload.specs.Columns.{Columns, cells_at}
use Rattle.far_offload.specs.Partials.{pair_at, pairs_over}

-- a test reads only its own column
passes-same : (t : Test) (f g : Cells) → f (column_of t) ≡ g (column_of t) → passes t f ≡ passes t g
passes-same (test.Int column op value) f g h = ap (number_passes (λ number. compares op number value)) h
passes-same (test.TextIs column constant) f g h = ap (text_passes (λ text. pointwise ◌==◌ text constant)) h
passes-same (test.TextBegins column constant) f g h = ap (text_passes (λ text. starts_with ◌==◌ text constant)) h

keeps-same : (tests : List Test) (f g : Cells) → ((c : ℕ) → list_any (λ t. column_of t == c) tests ≡ true → f c ≡ g c) → keeps tests f ≡ keeps tests g
keeps-same [] f g h = refl
keeps-same (t ∷ tests) f g h =
    let here : passes t f ≡ passes t g = passes-same t f g (h (column_of t) (or_left (column_of t == column_of t) (list_any (λ u. column_of u == column_of t) tests) (eq-eqb (column_of t) (column_of t) refl))) in
    let rest : keeps tests f ≡ keeps tests g = keeps-same tests f g (λ c some. h c (or_right (column_of t == c) (list_any (λ u. column_of u == c) tests) some)) in
    cc

key-same : (key : Option ℕ) (f g : Cells) → ((c : ℕ) → option_map_or (λ k. k == c) key false ≡ true → f c ≡ g c) → key_under key f ≡ key_under key g
key-same None f g h = refl
key-same (Some k) f g h = ap (λ o. option_map Some (key_in o)) (h k (eq-eqb k k refl))

pub pair-same : (spec : Spec) (f g : Cells) → ((c : ℕ) → needs spec c ≡ true → f c ≡ g c) → pair_of spec f ≡ pair_of spec g
pair-same spec f g h =
    let tested : ℕ → Bool = λ c. list_any (λ t. column_of t == c) spec.filter in
    let keyed : ℕ → Bool = λ c. option_map_or (λ k. k == c) spec.key false in
    let passing = keeps-same spec.filter f g (λ c some. h c (or_left (tested c || keyed c) (spec.value == c) (or_left (tested c) (keyed c) some))) in
    let under = key-same spec.key f g (λ c some. h c (or_left (tested c || keyed c) (spec.value == c) (or_right (tested c) (keyed c) some))) in
    let value = h spec.value (or_right (tested spec.value || keyed spec.value) (spec.value == spec.value) (eq-eqb spec.value spec.value refl)) in
    ap (λ b. cond b (paired (key_under spec.key f) (number_in (f spec.value))) None) passing
    ∙ ap (λ u. cond (keeps spec.filter g) (paired u (number_in (f spec.value))) None) under
    ∙ ap (λ o. cond (keeps spec.filter g) (paired (key_under spec.key g) (number_in o)) None) value

over-places : (spec : Spec) (columns : Columns) (n : ℕ) (places : List Place) → ((c i : ℕ) (place : Place) → needs spec c ≡ true → slice_get places i ≡ Some place → cells_at columns (n + i) c ≡ cells_of place.cells c) → filter_map (pair_at spec columns) (enumerate_from n (map (λ (place : Place). place.alive) places)) ≡ filter_map (place_pair spec) places
over-places spec columns n [] h = refl
over-places spec columns n (p ∷ places) h =
    let first : n ≡ n + 0 = omega arith in
    let here : pair_at spec columns (n, p.alive) ≡ place_pair spec p =
    ap (λ o. cond p.alive o None) (pair-same spec (cells_at columns n) (cells_of p.cells) (λ c needed. ap (λ k. cells_at columns k c) first ∙ h c 0 p needed refl)) in
    let rest = over-places spec columns (n + 1) places (λ c i place needed is. let next : n + 1 + i ≡ n + suc i = omega arith in ap (λ k. cells_at columns k c) next ∙ h c (suc i) place needed is) in
    λ i. cons_option (here i) (rest i)

pub at-hand : (spec : Spec) (columns : Columns) (places : List Place) → AreAtHand spec columns places → pairs_over spec columns (map (λ (place : Place). place.alive) places) ≡ filter_map (place_pair spec) places
at-hand spec columns places h = over-places spec columns 0 places (λ c i place needed is. let same : 0 + i ≡ i = omega arith in ap (λ k. cells_at columns k c) same ∙ h c i place needed is)
