-- An answer as a term that computes, for the worked examples.
use Rattle.std.proofs.Common.{◌≡◌, ℕ, List, [], ◌∷◌, length, map, refl, sym, ap, ◌∙◌}
use Rattle.std.specs.Prelude.{ℤ, Option}
use Rattle.std.specs.FinMap as fin
use Rattle.std.specs.FinMap.Entries.{put}
use Rattle.far_types.specs.declared.key.Key.{Key}
use Rattle.far_types.specs.declared.cell.Cell.{Cell}
use Rattle.far_types.specs.declared.spec.Spec.{Spec}
use Rattle.far_types.specs.declared.spec.Fold.{Fold}
use Rattle.far_types.specs.declared.spec.Fold.TheVariants as fold
use Rattle.far_types.specs.declared.answer.Answer.{Answer}
use Rattle.far_types.specs.declared.answer.Answer.TheVariants as answer
use Rattle.far_types.specs.Keys.{line_cmp}
use Rattle.far_types.specs.KeyOrder.{line_total}
use Rattle.far_types.specs.Pairs.{Pair, pairs_of}
use Rattle.far_types.specs.Answers.{values_of, count_sum, min_max, or_zero, answer_of, answer_over}

abbrev put_all : {V : Type 0} → List (Option Key × V) → List (Option Key × V)
put_all [] = []
put_all (e ∷ es) = put line_cmp e.0 e.1 (put_all es)

no_length : {A : Type 0} (es : List A) → length es ≡ 0 → es ≡ []
no_length [] h = refl
no_length (e ∷ es) h = cc

entries-from_entries : {V : Type 0} (es : List (Option Key × V)) → fin.entries (fin.from_entries {R = line_cmp} es) ≡ put_all es
entries-from_entries {V} [] = no_length _ (sym (fin.len-entries (fin.empty {X = V} {R = line_cmp})) ∙ fin.len-empty line_cmp V)
entries-from_entries (e ∷ es) = fin.entries-insert line_total (fin.from_entries es) e.0 e.1 ∙ ap (put line_cmp e.0 e.1) (entries-from_entries es)

abbrev put_pairs : {V : Type 0} → (List ℤ → V) → List Pair → List (Option Key × V)
put_pairs f ps = put_all (map (λ (p : Pair). (p.0, f (values_of p.0 ps))) ps)

abbrev computed_of : Fold → Option ℕ → List Pair → Answer
computed_of fold.Totals k ps = answer.Totals (or_zero k (map (λ (e : Option Key × (ℕ × ℤ)). (e.0, e.1.0, e.1.1)) (put_pairs count_sum ps)))
computed_of fold.Extrema k ps = answer.Extrema (map (λ (e : Option Key × (ℤ × ℤ)). (e.0, e.1.0, e.1.1)) (put_pairs min_max ps))

answer_of-computed : (f : Fold) (k : Option ℕ) (ps : List Pair) → answer_of f k ps ≡ computed_of f k ps
answer_of-computed fold.Totals k ps = ap (λ es. answer.Totals (or_zero k (map (λ (e : Option Key × (ℕ × ℤ)). (e.0, e.1.0, e.1.1)) es))) (entries-from_entries (map (λ (p : Pair). (p.0, count_sum (values_of p.0 ps))) ps))
answer_of-computed fold.Extrema k ps = ap (λ es. answer.Extrema (map (λ (e : Option Key × (ℤ × ℤ)). (e.0, e.1.0, e.1.1)) es)) (entries-from_entries (map (λ (p : Pair). (p.0, min_max (values_of p.0 ps))) ps))

abbrev pub computed : Spec → List (List Cell) → Answer
computed spec rows = computed_of spec.fold spec.key (pairs_of spec rows)

pub answer_over-computed : (spec : Spec) (rows : List (List Cell)) → answer_over spec rows ≡ computed spec rows
answer_over-computed spec rows = answer_of-computed spec.fold spec.key (pairs_of spec rows)
