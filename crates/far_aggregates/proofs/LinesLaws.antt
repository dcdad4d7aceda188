-- The line of one key is its line in the whole answer.
use Rattle.std.proofs.Common.{◌≡◌, ℕ, ◌<◌, ◌==◌, Bool, true, false, cond, arith, List, [], ◌∷◌, map, refl, sym, ap, ◌∙◌, subst, Option, None, Some}
use Rattle.std.specs.Prelude.{ℤ, pos, option_map, is_some, not}
use Rattle.std.specs.List.{filter_map, cons_option}
use Rattle.std.specs.List.Sorted.{IsStrictlySortedBy}
use Rattle.std.specs.Ordering.{eq_by_cmp}
use Rattle.std.specs.FinMap as fin
use Rattle.std.proofs.lemmas.Bool.Decides.{nat_tests}
use Rattle.far_types.specs.declared.answer.Answer.TheVariants as answer
use Rattle.far_types.specs.declared.key.Key.{Key}
use Rattle.far_types.specs.declared.refusal.Refusal.TheVariants as refusal
use Rattle.far_types.specs.declared.spec.Spec.{Spec}
use Rattle.far_types.specs.Answers.{is_under, values_of, count_sum, ByKey, Totals, totals, lines_by_key, Extrema, or_zero, answer_over}
use Rattle.far_types.specs.Keys.{line_cmp}
use Rattle.far_types.specs.Pairs.{Pair}
use Rattle.far_types.specs.MayRefuse.{MayRefuse}
use Rattle.far_types.specs.Table.{Place, place_pair, rows_of, left}
use Rattle.far_types.proofs.AnswersGrouping.{same, if_any, get-grouped, values_of-cons}
use Rattle.far_types.proofs.AnswersByKeyMaps.{by_key, entries-by_key}
use Rattle.far_groups.specs.Live as groups
use Rattle.far_aggregates.specs.declared.aggregate.Aggregate.{Aggregate}
use Rattle.far_aggregates.specs.declared.aggregate.Accumulator.TheVariants as accumulator
use Rattle.far_aggregates.specs.declared.line.Line.{Line}
use Rattle.far_aggregates.specs.declared.line.Line.TheVariants as line
use Rattle.far_aggregates.specs.Accumulators.{Change, registered_in, fold_of, pending_in, accumulator_answer, IsUpToDate, KeepsEntry}
use Rattle.far_aggregates.specs.Aggregates.{ask_refusal}
use Rattle.far_aggregates.specs.Lines.{found_in, line_in, AnswersKey, KeysFit}
use Rattle.far_aggregates.proofs.AccumulatorsAnswers.{answers-now, left-now}
use Rattle.far_aggregates.proofs.AccumulatorsTotals.{scanned-all}
use Rattle.far_aggregates.proofs.ReadingsLaws.{Keyless, keyless}

-- finding a key in the lines finds its value in the entries
found_entry : {A B : Type 0} (es : List (Option Key × (A × B))) (q : Option Key) → found_in (map {B = Option Key × A × B} (λ (e : Option Key × (A × B)). (e.0, e.1.0, e.1.1)) es) q ≡ fin.find line_cmp q es
found_entry [] q = refl
found_entry (e ∷ es) q = ap (cond (eq_by_cmp line_cmp q e.0) (Some e.1)) (found_entry es q)

pub found-totals : (m : Totals) (q : Option Key) → found_in (lines_by_key m) q ≡ fin.get m q
found-totals m q = found_entry (fin.entries m) q ∙ sym (fin.get-entries m q)

pub found-extrema : (m : Extrema) (q : Option Key) → found_in (lines_by_key m) q ≡ fin.get m q
found-extrema m q = found_entry (fin.entries m) q ∙ sym (fin.get-entries m q)

-- `or_zero` changes no line
or_zero-there : (column : Option ℕ) (lines : List (Option Key × ℕ × ℤ)) (q : Option Key) (x : ℕ × ℤ) → found_in lines q ≡ Some x → found_in (or_zero column lines) q ≡ Some x
or_zero-there None [] q x h = cc
or_zero-there None (one ∷ lines) q x h = h
or_zero-there (Some column) lines q x h = h

-- `or_zero` adds no line for a key, or with a key column
or_zero-key : (lines : List (Option Key × ℕ × ℤ)) (k : Key) → found_in (or_zero None lines) (Some k) ≡ found_in lines (Some k)
or_zero-key [] k = refl
or_zero-key (one ∷ lines) k = refl

no_entries : fin.entries (by_key {V = ℕ × ℤ} []) ≡ []
unfolding IsStrictlySortedBy
no_entries = entries-by_key [] tt

-- empty totals have no line
no_lines : (m : Totals) → ((q : Option Key) → fin.get m q ≡ None) → lines_by_key m ≡ []
no_lines m none =
    let empty : m ≡ fin.empty = same m fin.empty (λ q. none q ∙ sym (fin.get-empty line_cmp q)) in
    ap lines_by_key empty ∙ ap (map {B = Option Key × ℕ × ℤ} (λ (e : Option Key × (ℕ × ℤ)). (e.0, e.1.0, e.1.1))) no_entries

abbrev total_of : ℕ × ℤ → Line
total_of found = line.Totals found.0 found.1

-- the count and the sum under a key are its line
pub line-there : (column : Option ℕ) (m : Totals) (q : Option Key) (x : ℕ × ℤ) → fin.get m q ≡ Some x → Some (line.Totals x.0 x.1) ≡ line_in (answer.Totals (or_zero column (lines_by_key m))) q
line-there column m q x there = sym (ap (option_map total_of) (or_zero-there column (lines_by_key m) q x (found-totals m q ∙ there)))

-- without a key column, totals of no row have a line of count 0
line-zero : (m : Totals) → KeysFit None m → fin.get m None ≡ None → Some (line.Totals 0 (pos 0)) ≡ line_in (answer.Totals (or_zero None (lines_by_key m))) None
line-zero m fit none = sym (ap (λ (lines : List (Option Key × ℕ × ℤ)). line_in (answer.Totals (or_zero None lines)) None) (no_lines m each)) where
  each : (q : Option Key) → fin.get m q ≡ None
  each None = none
  each (Some k) = fit refl k

pub zero-line : (column : Option ℕ) (m : Totals) (q : Option Key) → column ≡ None → q ≡ None → KeysFit column m → fin.get m q ≡ None → Some (line.Totals 0 (pos 0)) ≡ line_in (answer.Totals (or_zero column (lines_by_key m))) q
zero-line None m None plain none fit absent = line-zero m fit absent
zero-line None m (Some k) plain none fit absent = cc
zero-line (Some column) m q plain none fit absent = cc

-- otherwise a key without a value has no line
pub line-none : (column : Option ℕ) (m : Totals) (q : Option Key) → fin.get m q ≡ None → ((column ≡ None) → q ≡ None → ⊥) → None ≡ line_in (answer.Totals (or_zero column (lines_by_key m))) q
line-none (Some column) m q none not = sym (ap (option_map total_of) (found-totals m q ∙ none))
line-none None m None none not = absurd (not refl refl)
line-none None m (Some k) none not = sym (ap (option_map total_of) (or_zero-key (lines_by_key m) k ∙ found-totals m (Some k) ∙ none))

-- an option is `None` if a test for `None` says so
pub none_of : {A : Type 0} (o : Option A) (b : Bool) → is_some o ≡ not b → b ≡ true → o ≡ None
none_of None b h k = refl
none_of (Some x) true h k = cc
none_of (Some x) false h k = cc

pub some_of : {A : Type 0} (o : Option A) (b : Bool) → is_some o ≡ not b → b ≡ false → o ≡ None → ⊥
some_of None true h k e = cc
some_of None false h k e = cc
some_of (Some x) b h k e = cc

-- a pair without a key adds no value under a key
under_key : (c : Change) (ps : List Pair) (k : Key) → Keyless c → values_of (Some k) ps ≡ [] → values_of (Some k) (cons_option c ps) ≡ []
under_key None ps k h none = none
under_key (Some pair) ps k h none =
    let other : is_under (Some k) pair ≡ false = ap (λ (key : Option Key). is_under (Some k) (key, pair.1)) h in
    values_of-cons (Some k) pair ps ∙ ap (λ b. cond b (pair.1 ∷ values_of (Some k) ps) (values_of (Some k) ps)) other ∙ none

none_under_key : (spec : Spec) (ps : List Place) (k : Key) → spec.key ≡ None → values_of (Some k) (filter_map (place_pair spec) ps) ≡ []
none_under_key spec [] k h = refl
none_under_key spec (p ∷ ps) k h = under_key (place_pair spec p) (filter_map (place_pair spec) ps) k (keyless spec p h) (none_under_key spec ps k h)

-- an aggregate without a key column has no value under a key
pub keys-fit : (size : ℕ) (ps : List Place) (a : Aggregate) (live : groups.TotalsState) → a.accumulator ≡ accumulator.Totals live → KeepsEntry size ps (Some a) → left a.pending ≡ 0 → KeysFit a.spec.key live.totals
keys-fit size ps a live is h z plain k =
    let here = subst (λ x. (fold_of x ≡ a.spec.fold) × IsUpToDate size ps a x) is h in
    let pairs = filter_map (place_pair a.spec) ps in
    ap (λ (m : Totals). fin.get m (Some k)) (here.1.0 ∙ ap totals (scanned-all a.spec size a.pending 0 ps z))
    ∙ get-grouped count_sum pairs (Some k)
    ∙ ap (λ vs. if_any vs (count_sum vs)) (none_under_key a.spec ps k plain)

-- the line that is looked up is the line in the answer
pub answers-key : (size : ℕ) (ps : List Place) (a : Aggregate) (q : Option Key) (found : Option Line) → 0 < size → KeepsEntry size ps (Some a) → left a.pending ≡ 0
    → found ≡ line_in (accumulator_answer a.spec.key a.accumulator) q → AnswersKey ps (registered_in (Some a)) q found
answers-key size ps a q found some kept none is = (answer_over a.spec (rows_of ps), (none, refl), is ∙ ap (λ all. line_in all q) (answers-now size ps a some kept none))

not_zero : (n : ℕ) → (n ≡ 0 → ⊥) → (n == 0) ≡ false
not_zero n h = grind (arith, nat_tests)

-- while row groups are pending, `Building` is due
pub building-due : (size : ℕ) (ps : List Place) (a : Aggregate) (n : ℕ) → n ≡ pending_in a.accumulator → (n ≡ 0 → ⊥) → KeepsEntry size ps (Some a) → MayRefuse (ask_refusal (registered_in (Some a))) false (refusal.Building n)
building-due size ps a n is some kept =
    let same : n ≡ left a.pending = is ∙ left-now size ps a kept in
    let test = not_zero (left a.pending) (λ none. some (same ∙ none)) in
    subst (λ b. MayRefuse (cond b None (Some (refusal.Building (left a.pending)))) false (refusal.Building n)) (sym test) (ap refusal.Building same)

-- the least and the greatest value under a key are its line in extrema
pub range-there : (m : Extrema) (q : Option Key) (x : ℤ × ℤ) → fin.get m q ≡ Some x → Some (line.Extrema x.0 x.1) ≡ line_in (answer.Extrema (lines_by_key m)) q
range-there m q x there = sym (ap (option_map (λ (found : ℤ × ℤ). line.Extrema found.0 found.1)) (found-extrema m q ∙ there))

pub range-none : (m : Extrema) (q : Option Key) → fin.get m q ≡ None → None ≡ line_in (answer.Extrema (lines_by_key m)) q
range-none m q none = sym (ap (option_map (λ (found : ℤ × ℤ). line.Extrema found.0 found.1)) (found-extrema m q ∙ none))
