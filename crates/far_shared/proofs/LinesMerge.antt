-- Merging the lines of answers.
use Rattle.std.proofs.Common.{◌≡◌, ℕ, ◌≤◌, ◌==◌, false, cond, List, [], ◌∷◌, ◌++◌, length, map, refl, sym, ap, ◌∙◌, subst, arith, Option, None, Some}
use Rattle.std.specs.Prelude.{ℤ, option_map}
use Rattle.std.specs.List.{AllByRecursion, filter_map}
use Rattle.std.proofs.lemmas.Bool.Decides.{nat_tests}
use Rattle.std.specs.FinMap as fin
use Rattle.far_types.specs.declared.key.Key.{Key}
use Rattle.far_types.specs.KeyOrder.{line_total}
use Rattle.std.proofs.lemmas.List.Elements.{filter-append, filter_map-append}
use Rattle.far_types.specs.declared.answer.Answer.{Answer}
use Rattle.far_types.specs.declared.answer.Answer.TheVariants as answer
use Rattle.far_types.specs.declared.cell.Cell.{Cell}
use Rattle.far_types.specs.declared.spec.Fold.{Fold}
use Rattle.far_types.specs.declared.spec.Fold.TheVariants as fold
use Rattle.far_types.specs.declared.spec.Spec.{Spec}
use Rattle.far_types.specs.Cells.{cells_of}
use Rattle.far_types.specs.Filters.{keeps}
use Rattle.far_types.specs.Pairs.{Pair, pair_in, pairs_of}
use Rattle.far_types.proofs.TablePairs.{kept}
use Rattle.far_types.specs.Answers.{ByKey, values_of, count_sum, totals, extrema, lines_by_key, or_zero, answer_of, answer_over}
use Rattle.far_types.specs.Table.{Place, Registered, rows_of}
use Rattle.far_aggregates.specs.Aggregates.{Answers}
use Rattle.far_types.specs.Effects.{add_count_sums, join_min_maxes, joined}
use Rattle.far_types.proofs.AnswersGrouping.{same}
use Rattle.far_types.proofs.AnswersByKeyMaps.{HaveDistinctKeys, by_key, sorted_distinct, with_all, with_all-joined}
use Rattle.far_types.proofs.AnswersLines.{keys-ascend, entries-folded}
use Rattle.far_types.proofs.EffectsLaws.{totals-append, extrema-append}
use Rattle.far_shared.specs.Fours.{IsOf, pending_in}
use Rattle.far_shared.specs.Lines.{count_sums_in, min_maxes_in}

of_entries : {V : Type 0} (m : ByKey V) → by_key (fin.entries m) ≡ m
of_entries m = same _ _ (λ q. fin.get-from_entries line_total (fin.entries m) q ∙ sym (fin.get-entries m q))

entries_distinct : {V : Type 0} (m : ByKey V) → HaveDistinctKeys (fin.entries m)
entries_distinct m = sorted_distinct (fin.entries m) (keys-ascend m)

-- adding all entries of a map to another joins the two maps
with_map : {V : Type 0} (join : V → V → V) (m n : ByKey V) → with_all join m (fin.entries n) ≡ joined join m n
with_map join m n = with_all-joined join m (fin.entries n) (entries_distinct n) ∙ ap (joined join m) (of_entries n)

some_rows : (n m : ℕ) → n ≡ m → 1 ≤ m → (n == 0) ≡ false
some_rows n m e h = grind (arith, nat_tests)

-- each line of totals counts at least one row
counted : (ps : List Pair) (es : List (Option Key × (ℕ × ℤ))) → AllByRecursion (λ (e : Option Key × (ℕ × ℤ)). (e.1 ≡ count_sum (values_of e.0 ps)) × (1 ≤ length (values_of e.0 ps))) es → count_sums_in (map (λ (entry : Option Key × (ℕ × ℤ)). (entry.0, entry.1.0, entry.1.1)) es) ≡ es
counted ps [] h = refl
counted ps (e ∷ es) h =
    ap (λ b. cond b (count_sums_in (map (λ (entry : Option Key × (ℕ × ℤ)). (entry.0, entry.1.0, entry.1.1)) es)) ((e.0, (e.1.0, e.1.1)) ∷ count_sums_in (map (λ (entry : Option Key × (ℕ × ℤ)). (entry.0, entry.1.0, entry.1.1)) es)))
    (some_rows e.1.0 (length (values_of e.0 ps)) (ap (λ t. t.0) h.0.0) h.0.1)
    ∙ ap (λ rest. e ∷ rest) (counted ps es h.1)

-- the line for no rows adds nothing
without_zero : (key : Option ℕ) (lines : List (Option Key × ℕ × ℤ)) → count_sums_in (or_zero key lines) ≡ count_sums_in lines
without_zero None [] = refl
without_zero None (line ∷ lines) = refl
without_zero (Some column) lines = refl

-- adding the lines of an answer to the totals of some pairs makes the totals of all
pub with_totals : (key : Option ℕ) (some others : List Pair) (m : ByKey (ℕ × ℤ)) (lines : List (Option Key × ℕ × ℤ)) → m ≡ totals some → lines ≡ or_zero key (lines_by_key (totals others)) → with_all add_count_sums m (count_sums_in lines) ≡ totals (some ++ others)
with_totals key some others m lines e h =
    (λ i. with_all add_count_sums (e i) (count_sums_in (h i)))
    ∙ ap (with_all add_count_sums (totals some)) (without_zero key (lines_by_key (totals others)) ∙ counted others (fin.entries (totals others)) (entries-folded count_sum others))
    ∙ with_map add_count_sums (totals some) (totals others)
    ∙ sym (totals-append some others)

lines_round_trip : (es : List (Option Key × (ℤ × ℤ))) → min_maxes_in (map (λ (entry : Option Key × (ℤ × ℤ)). (entry.0, entry.1.0, entry.1.1)) es) ≡ es
lines_round_trip [] = refl
lines_round_trip (e ∷ es) = ap (λ rest. e ∷ rest) (lines_round_trip es)

-- adding the lines of an answer to the extrema of some pairs makes the extrema of all
pub with_extrema : (some others : List Pair) (m : ByKey (ℤ × ℤ)) (lines : List (Option Key × ℤ × ℤ)) → m ≡ extrema some → lines ≡ lines_by_key (extrema others) → with_all join_min_maxes m (min_maxes_in lines) ≡ extrema (some ++ others)
with_extrema some others m lines e h =
    (λ i. with_all join_min_maxes (e i) (min_maxes_in (h i)))
    ∙ ap (with_all join_min_maxes (extrema some)) (lines_round_trip (fin.entries (extrema others)))
    ∙ with_map join_min_maxes (extrema some) (extrema others)
    ∙ sym (extrema-append some others)

pub four_lists : {A : Type 0} (a b c d : List A) → (((([] ++ a) ++ b) ++ c) ++ d) ≡ a ++ (b ++ (c ++ d))
four_lists [] b c d = three b c d where
  two : {A : Type 0} (c d : List A) → ([] ++ c) ++ d ≡ c ++ d
  two c d = refl

  three : {A : Type 0} (b c d : List A) → (([] ++ b) ++ c) ++ d ≡ b ++ (c ++ d)
  three [] c d = refl
  three (x ∷ b) c d = ap (λ l. x ∷ l) (three b c d)
four_lists (x ∷ a) b c d = ap (λ l. x ∷ l) (four_lists a b c d)

-- a list of length 0 is empty
pub nothing : {A : Type 0} (n : ℕ) (xs : List A) → n ≡ length xs → n ≡ 0 → xs ≡ []
nothing n [] e z = refl
nothing n (x ∷ xs) e z = absurd (omega (arith, e, z))

pairs-append : (spec : Spec) (a b : List (List Cell)) → pairs_of spec (a ++ b) ≡ pairs_of spec a ++ pairs_of spec b
pairs-append spec a b =
    ap (filter_map (λ row. pair_in spec (cells_of row))) (filter-append (λ row. keeps spec.filter (cells_of row)) a b)
    ∙ filter_map-append (λ row. pair_in spec (cells_of row)) (kept spec a) (kept spec b)

-- the answer over four lists of rows is the answer over their pairs
pub over_four : (spec : Spec) (f : Fold) (a b c d : List (List Cell)) → spec.fold ≡ f → answer_of f spec.key (pairs_of spec a ++ (pairs_of spec b ++ (pairs_of spec c ++ pairs_of spec d))) ≡ answer_over spec (a ++ (b ++ (c ++ d)))
over_four spec f a b c d e =
    ap (answer_of f spec.key)
    (sym (pairs-append spec a (b ++ (c ++ d))
    ∙ ap (λ ps. pairs_of spec a ++ ps) (pairs-append spec b (c ++ d) ∙ ap (λ ps. pairs_of spec b ++ ps) (pairs-append spec c d))))
    ∙ ap (λ g. answer_of g spec.key (pairs_of spec (a ++ (b ++ (c ++ d))))) (sym e)

total_lines_in : Answer → List (Option Key × ℕ × ℤ)
total_lines_in (answer.Totals lines) = lines
total_lines_in (answer.Extrema lines) = []

extrema_lines_in : Answer → List (Option Key × ℤ × ℤ)
extrema_lines_in (answer.Totals lines) = []
extrema_lines_in (answer.Extrema lines) = lines

pub totals_given : (spec : Spec) (rows : List (List Cell)) (given : Answer) (lines : List (Option Key × ℕ × ℤ)) → spec.fold ≡ fold.Totals → given ≡ answer.Totals lines → given ≡ answer_over spec rows → lines ≡ or_zero spec.key (lines_by_key (totals (pairs_of spec rows)))
unfolding total_lines_in
totals_given spec rows given lines f e returned = ap total_lines_in (sym e ∙ returned ∙ ap (λ g. answer_of g spec.key (pairs_of spec rows)) f)

pub extrema_given : (spec : Spec) (rows : List (List Cell)) (given : Answer) (lines : List (Option Key × ℤ × ℤ)) → spec.fold ≡ fold.Extrema → given ≡ answer.Extrema lines → given ≡ answer_over spec rows → lines ≡ lines_by_key (extrema (pairs_of spec rows))
unfolding extrema_lines_in
extrema_given spec rows given lines f e returned = ap extrema_lines_in (sym e ∙ returned ∙ ap (λ g. answer_of g spec.key (pairs_of spec rows)) f)

kind_of : (f : Fold) (key : Option ℕ) (pairs : List Pair) → IsOf f (answer_of f key pairs)
kind_of fold.Totals key pairs = tt
kind_of fold.Extrema key pairs = tt

-- an answer is of its aggregate's kind
pub is_of : (spec : Spec) (rows : List (List Cell)) (given : Answer) → given ≡ answer_over spec rows → IsOf spec.fold given
is_of spec rows given e = subst (IsOf spec.fold) (sym e) (kind_of spec.fold spec.key (pairs_of spec rows))

-- the answer of a registered aggregate is the answer over the rows
pub answers_spec : (places : List Place) (aggregate : Option Registered) (spec : Spec) (given : Answer) → option_map (λ (r : Registered). r.spec) aggregate ≡ Some spec → Answers places aggregate given → given ≡ answer_over spec (rows_of places)
answers_spec places None spec given e h = absurd h
answers_spec places (Some r) spec given e h = let same : r.spec ≡ spec = cc in h.1 ∙ ap (λ s. answer_over s (rows_of places)) same

-- an aggregate that answers has no pending row group
pub answers_scanned : (places : List Place) (aggregate : Option Registered) (given : Answer) → Answers places aggregate given → 0 ≡ pending_in aggregate
answers_scanned places None given h = absurd h
answers_scanned places (Some r) given h = sym h.0
