-- An aggregate in which no row group is pending answers for the current rows.
use Rattle.std.proofs.Common.{◌≡◌, ℕ, zero, suc, ◌+◌, ◌*◌, ◌<◌, ◌≤◌, cond, List, [], ◌∷◌, ◌++◌, length, take, refl, sym, ap, ◌∙◌, arith, Option, None, Some, slice_index_or, replicate, length-append}
use Rattle.std.specs.Prelude.{fold, ℤ}
use Rattle.std.specs.List.{filter_map}
use Rattle.std.specs.FinMap as fin
use Rattle.std.proofs.Math.Nat.{le-mul_of_pos_right}
use Rattle.std.proofs.Math.Seq.{take-add}
use Rattle.std.proofs.lemmas.List.{take_all, length-replicate}
use Rattle.std.proofs.lemmas.List.Sums.{fold-append}
use Rattle.std.proofs.lemmas.List.Elements.{filter_map-append}
use Rattle.far_types.specs.declared.answer.Answer.TheVariants as answer
use Rattle.far_types.specs.declared.spec.Spec.{Spec}
use Rattle.far_types.specs.declared.spec.Fold.{Fold}
use Rattle.far_types.specs.Answers.{Extrema, totals, extrema, or_zero, lines_by_key, answer_of, answer_over}
use Rattle.far_types.specs.Effects.{merge_two, join_min_maxes, joined_extrema}
use Rattle.far_types.specs.Keys.{line_cmp}
use Rattle.far_types.specs.Pairs.{Pair, pairs_of}
use Rattle.far_types.specs.Table.{Place, rows_of, place_pair, in_group, left}
use Rattle.far_types.proofs.AnswersGrouping.{same, get-joined}
use Rattle.far_types.proofs.TablePairs.{pairs_of-rows}
use Rattle.far_types.proofs.EffectsLaws.{extrema-append}
use Rattle.far_extrema.specs.Live.{all_groups}
use Rattle.far_aggregates.specs.declared.aggregate.Aggregate.{Aggregate}
use Rattle.far_aggregates.specs.declared.aggregate.Accumulator.{Accumulator}
use Rattle.far_aggregates.specs.declared.aggregate.Accumulator.TheVariants as accumulator
use Rattle.far_aggregates.specs.Accumulators.{group_pairs, fold_of, pending_in, accumulator_answer, IsUpToDate, KeepsEntry}
use Rattle.far_aggregates.proofs.AccumulatorsTotals.{none_left, scanned-all}
use Rattle.far_aggregates.proofs.ListLaws.{index-replicate}

abbrev none : Extrema
none = fin.empty

alone : (o : Option (ℤ × ℤ)) → merge_two join_min_maxes o None ≡ o
alone None = refl
alone (Some min_max) = refl

-- joining empty extrema changes nothing
joined-none : (m : Extrema) → joined_extrema m none ≡ m
joined-none m = same _ _ (λ q. get-joined join_min_maxes m none q ∙ ap (merge_two join_min_maxes (fin.get m q)) (fin.get-empty line_cmp q) ∙ alone (fin.get m q))

fold-none : (n : ℕ) (m : Extrema) → fold joined_extrema m (replicate n none) ≡ m
fold-none zero m = refl
fold-none (suc n) m = ap (λ x. fold joined_extrema x (replicate n none)) (joined-none m) ∙ fold-none n m

module _ (spec : Spec) (size : ℕ) (ps : List Place) where
  -- the pairs of the first places
  abbrev first_pairs : ℕ → List Pair
  first_pairs n = filter_map (place_pair spec) (take n ps)

  next-group : (h : ℕ) → first_pairs (suc h * size) ≡ first_pairs (h * size) ++ group_pairs spec size h ps
  next-group h =
      let e : suc h * size ≡ h * size + size = omega arith in
      ap first_pairs e ∙ ap (filter_map (place_pair spec)) (take-add (h * size) size ps) ∙ filter_map-append (place_pair spec) (take (h * size) ps) (in_group size h ps)

  -- the row groups from number h on, joined to the row groups before
  joined-on : (h : ℕ) (gs : List Extrema) → ((k : ℕ) → slice_index_or gs k none ≡ extrema (group_pairs spec size (h + k) ps)) → fold joined_extrema (extrema (first_pairs (h * size))) gs ≡ extrema (first_pairs ((h + length gs) * size))
  joined-on h [] kept = let e : h * size ≡ (h + 0) * size = omega arith in ap (λ n. extrema (first_pairs n)) e
  joined-on h (g ∷ gs) kept =
      let e : h + suc (length gs) ≡ suc h + length gs = omega arith in
      let z : h + 0 ≡ h = omega arith in
      ap (λ m. fold joined_extrema m gs) (
      ap (joined_extrema (extrema (first_pairs (h * size)))) (kept 0 ∙ ap (λ k. extrema (group_pairs spec size k ps)) z)
      ∙ sym (extrema-append (first_pairs (h * size)) (group_pairs spec size h ps))
      ∙ ap extrema (sym (next-group h)))
      ∙ joined-on (suc h) gs (λ k. kept (suc k) ∙ (let f : h + suc k ≡ suc h + k = omega arith in ap (λ n. extrema (group_pairs spec size n ps)) f))
      ∙ ap (λ n. extrema (first_pairs (n * size))) (sym e)

  -- all row groups joined
  pub joined-all : (gs : List Extrema) → 0 < size → ((k : ℕ) → slice_index_or gs k none ≡ extrema (group_pairs spec size k ps)) → all_groups gs ≡ extrema (filter_map (place_pair spec) ps)
  joined-all gs pos kept =
      let n = length ps in
      let more = gs ++ replicate n none in
      let long : length more ≡ length gs + n = length-append gs (replicate n none) ∙ ap (λ k. length gs + k) (length-replicate n none) in
      let start : 0 ≡ 0 * size = omega arith in
      let enough : n ≤ (0 + length more) * size = far (length gs) n size (length more) pos long in
      sym (fold-append joined_extrema none gs (replicate n none) ∙ fold-none n (all_groups gs))
      ∙ ap (λ k. fold joined_extrema (extrema (first_pairs k)) more) start
      ∙ joined-on 0 more (λ k. index-replicate gs n k none ∙ kept k ∙ (let e : k ≡ 0 + k = omega arith in ap (λ i. extrema (group_pairs spec size i ps)) e))
      ∙ ap (λ l. extrema (filter_map (place_pair spec) l)) (take_all ((0 + length more) * size) ps enough) where
        far : (a b s m : ℕ) → 0 < s → m ≡ a + b → b ≤ (0 + m) * s
        far a b s m p e =
            let many = le-mul_of_pos_right m p in
            omega arith

answers : (f : Fold) (size : ℕ) (places : List Place) (a : Aggregate) (k : Accumulator) → 0 < size → fold_of k ≡ f → IsUpToDate size places a k → left a.pending ≡ 0 → accumulator_answer a.spec.key k ≡ answer_of f a.spec.key (pairs_of a.spec (rows_of places))
answers f size places a (accumulator.Totals live) pos e h z =
    ap (λ m. answer.Totals (or_zero a.spec.key (lines_by_key m))) (h.0 ∙ ap totals (scanned-all a.spec size a.pending 0 places z ∙ sym (pairs_of-rows a.spec places)))
    ∙ ap (λ x. answer_of x a.spec.key (pairs_of a.spec (rows_of places))) e
answers f size places a (accumulator.Extrema live) pos e h z =
    ap (λ m. answer.Extrema (lines_by_key m)) (joined-all a.spec size places live.groups pos (λ k. h.0 k ∙ ap (λ b. cond b fin.empty (extrema (group_pairs a.spec size k places))) (none_left a.pending k z)) ∙ ap extrema (sym (pairs_of-rows a.spec places)))
    ∙ ap (λ x. answer_of x a.spec.key (pairs_of a.spec (rows_of places))) e

pub answers-now : (size : ℕ) (places : List Place) (a : Aggregate) → 0 < size → KeepsEntry size places (Some a) → left a.pending ≡ 0 → accumulator_answer a.spec.key a.accumulator ≡ answer_over a.spec (rows_of places)
answers-now size places a pos h z = answers a.spec.fold size places a a.accumulator pos h.0 h.1 z

accumulator-left : (size : ℕ) (places : List Place) (a : Aggregate) (k : Accumulator) → IsUpToDate size places a k → pending_in k ≡ left a.pending
accumulator-left size places a (accumulator.Totals live) h = h.1
accumulator-left size places a (accumulator.Extrema live) h = h.1

pub left-now : (size : ℕ) (places : List Place) (a : Aggregate) → KeepsEntry size places (Some a) → pending_in a.accumulator ≡ left a.pending
left-now size places a h = accumulator-left size places a a.accumulator h.1
