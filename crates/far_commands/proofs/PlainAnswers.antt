-- Answers without a key column have one line.
use Rattle.std.proofs.Common.{◌≡◌, ℕ, true, false, cond, List, [], ◌∷◌, map, refl, sym, ap, ◌∙◌, subst, Option, None, Some, arith, append-nil}
use Rattle.std.specs.Prelude.{ℤ, is_none, ◌&&◌, ◌==◌, option_map, IsSomeAnd}
use Rattle.std.specs.List.{filter_map, cons_option}
use Rattle.std.specs.List.Sorted.{IsStrictlySortedBy}
use Rattle.std.specs.Map.{keys_of}
use Rattle.std.specs.FinMap as fin
use Rattle.std.proofs.lemmas.Bool.Decides.{nat_tests}
use Rattle.far_store.specs.declared.store.FarTickets.{Ghosts as Tickets}
use Rattle.far_types.specs.declared.answer.Answer.{Answer}
use Rattle.far_types.specs.declared.answer.Answer.TheVariants as answer
use Rattle.far_types.specs.declared.cell.Cell.{Cell}
use Rattle.far_types.specs.declared.key.Key.{Key}
use Rattle.far_types.specs.declared.refusal.Refusal.TheVariants as refusal
use Rattle.far_types.specs.declared.spec.Spec.{Spec}
use Rattle.far_types.specs.declared.spec.Fold.{Fold}
use Rattle.far_types.specs.declared.spec.Fold.TheVariants as fold
use Rattle.far_types.specs.Answers.{is_under, values_of, grouped, count_sum, min_max, totals, lines_by_key, extrema, or_zero, answer_of, answer_over}
use Rattle.far_types.specs.Cells.{cells_of, number_in}
use Rattle.far_types.specs.Keys.{line_cmp}
use Rattle.far_types.specs.Pairs.{Pair, key_under, paired, pair_in, pairs_of}
use Rattle.far_types.proofs.TablePairs.{kept}
use Rattle.far_types.specs.Table.{Place, Registered, Table, answer_now, rows_of, left}
use Rattle.far_types.proofs.AnswersGrouping.{same, own_key, if_any, get-grouped, values_of-cons}
use Rattle.far_types.proofs.AnswersByKeyMaps.{Entries, by_key, get_at, entries-by_key}
use Rattle.far_aggregates.specs.Aggregates.{Answers, ask_refusal}
use Rattle.far_aggregates.specs.declared.line.Line.TheVariants as line
use Rattle.far_aggregates.specs.Lines.{found_in, line_in, AnswersKey}
use Rattle.far_aggregates.specs.Readings.{is_totals, all_values, plain_in}
use Rattle.far_table.specs.Watching.{aggregate_at}
use Rattle.far_frame.specs.declared.step.Reply.TheVariants as reply
use Rattle.far_frame.specs.declared.step.Step.TheVariants as step
use Rattle.far_frame.specs.Worlds.{World}
use Rattle.far_script.specs.Printing.{answer_text, total_text, extrema_text}
use Rattle.far_commands.specs.Replies.{Takes}
use Rattle.far_commands.specs.WorldRules.{both_rules}

-- each pair is without a key
AreKeyless : List Pair → Type 0
AreKeyless [] = Unit {0}
AreKeyless (pair ∷ pairs) = (pair.0 ≡ None) × AreKeyless pairs

values : List Pair → List ℤ
values pairs = map (λ (pair : Pair). pair.1) pairs

-- so all values are grouped under no key
under_none : (pairs : List Pair) → AreKeyless pairs → values_of None pairs ≡ values pairs
unfolding AreKeyless values
under_none [] h = refl
under_none (pair ∷ pairs) h =
    let own : is_under None pair ≡ true = ap (λ key. is_under None (key, pair.1)) h.0 ∙ own_key None in
    values_of-cons None pair pairs ∙ ap (λ b. cond b (pair.1 ∷ values_of None pairs) (values_of None pairs)) own ∙ ap (λ l. pair.1 ∷ l) (under_none pairs h.1)

under_key : (k : Key) (pairs : List Pair) → AreKeyless pairs → values_of (Some k) pairs ≡ []
unfolding AreKeyless
under_key k [] h = refl
under_key k (pair ∷ pairs) h =
    let other : is_under (Some k) pair ≡ false = ap (λ key. is_under (Some k) (key, pair.1)) h.0 in
    values_of-cons (Some k) pair pairs ∙ ap (λ b. cond b (pair.1 ∷ values_of (Some k) pairs) (values_of (Some k) pairs)) other ∙ under_key k pairs h.1

one_line : {V : Type 0} → V → Entries V
one_line t = (None, t) ∷ []

ascends : {V : Type 0} (t : V) → IsStrictlySortedBy line_cmp (keys_of (one_line t))
unfolding IsStrictlySortedBy one_line
ascends t = (tt, tt)

none_ascends : IsStrictlySortedBy line_cmp []
unfolding IsStrictlySortedBy
none_ascends = tt

one_group : {V : Type 0} (fold : List ℤ → V) (pair : Pair) (pairs : List Pair) → AreKeyless (pair ∷ pairs) → grouped fold (pair ∷ pairs) ≡ by_key (one_line (fold (values (pair ∷ pairs))))
unfolding values one_line
one_group {V} fold pair pairs h = same _ _ alike where
  t : V
  t = fold (map (λ (pair : Pair). pair.1) (pair ∷ pairs))

  alike : (q : Option Key) → fin.get (grouped fold (pair ∷ pairs)) q ≡ fin.get (by_key (one_line t)) q
  alike None = get-grouped fold (pair ∷ pairs) None ∙ ap (λ vs. if_any vs (fold vs)) (under_none (pair ∷ pairs) h) ∙ sym (get_at (one_line t) None)
  alike (Some k) = get-grouped fold (pair ∷ pairs) (Some k) ∙ ap (λ vs. if_any vs (fold vs)) (under_key k (pair ∷ pairs) h) ∙ sym (get_at (one_line t) (Some k))

plain_lines : (pairs : List Pair) → AreKeyless pairs → or_zero None (lines_by_key (totals pairs)) ≡ (None, (count_sum (values pairs)).0, (count_sum (values pairs)).1) ∷ []
unfolding values one_line
plain_lines [] h = ap (λ (es : Entries (ℕ × ℤ)). or_zero None (map (λ (entry : Option Key × (ℕ × ℤ)). (entry.0, entry.1.0, entry.1.1)) es)) (entries-by_key [] none_ascends)
plain_lines (pair ∷ pairs) h =
    let t = count_sum (values (pair ∷ pairs)) in
    ap (λ m. or_zero None (lines_by_key m)) (one_group count_sum pair pairs h)
    ∙ ap (λ (es : Entries (ℕ × ℤ)). or_zero None (map (λ (entry : Option Key × (ℕ × ℤ)). (entry.0, entry.1.0, entry.1.1)) es)) (entries-by_key (one_line t) (ascends t))

-- if the specification has no key column, each pair is without a key
keyless_one : (spec : Spec) (cells : List Cell) (pairs : List Pair) → spec.key ≡ None → AreKeyless pairs → AreKeyless (cons_option (pair_in spec (cells_of cells)) pairs)
unfolding AreKeyless
keyless_one spec cells pairs none h =
    subst (λ key. AreKeyless (cons_option (paired (key_of key) (number_in (cells_of cells spec.value))) pairs)) (sym none) (of_value (number_in (cells_of cells spec.value))) where
      key_of : Option ℕ → Option (Option Key)
      key_of key = key_under key (cells_of cells)

      of_value : (value : Option ℤ) → AreKeyless (cons_option (paired (Some None) value) pairs)
      of_value None = h
      of_value (Some value) = (refl, h)

keyless : (spec : Spec) (rows : List (List Cell)) → spec.key ≡ None → AreKeyless (filter_map (λ row. pair_in spec (cells_of row)) rows)
unfolding AreKeyless
keyless spec [] none = tt
keyless spec (row ∷ rows) none = keyless_one spec row (filter_map (λ row. pair_in spec (cells_of row)) rows) none (keyless spec rows none)

plain_answer : (spec : Spec) (rows : List (List Cell)) → spec.fold ≡ fold.Totals → spec.key ≡ None
    → answer_over spec rows ≡ answer.Totals ((None, (count_sum (values (pairs_of spec rows))).0, (count_sum (values (pairs_of spec rows))).1) ∷ [])
plain_answer spec rows totals_kept none =
    (λ i. answer_of (totals_kept i) (none i) (pairs_of spec rows))
    ∙ ap answer.Totals (plain_lines (pairs_of spec rows) (keyless spec (kept spec rows) none))

-- an aggregate whose count and sum can be read directly answers with one line of totals
decoded_left : (n : ℕ) (x y : ℕ × ℤ) → Some x ≡ cond (n == 0) (Some y) None → (n ≡ 0) × (x ≡ y)
decoded_left n x y e = elim (n == 0) as (λ b. (n == 0) ≡ b → Some x ≡ cond b (Some y) None → (n ≡ 0) × (x ≡ y)) [
  | true ↦ λ zero_left is. (grind (arith, nat_tests), cc)
  | false ↦ λ more is. cc
] refl e

decoded : (f : Fold) (key : Option ℕ) (n : ℕ) (x y : ℕ × ℤ) → Some x ≡ cond (is_totals f && is_none key && n == 0) (Some y) None → (f ≡ fold.Totals) × (key ≡ None) × (n ≡ 0) × (x ≡ y)
decoded fold.Extrema key n x y e = cc
decoded fold.Totals (Some column) n x y e = cc
decoded fold.Totals None n x y e =
    let both = decoded_left n x y e in
    (refl, refl, both.0, both.1)

plain_answers : (places : List Place) (found : Option Registered) (x : ℕ × ℤ) → Some x ≡ plain_in places found → Answers places found (answer.Totals ((None, x.0, x.1) ∷ []))
unfolding values
plain_answers places None x e = cc
plain_answers places (Some a) x e =
    let parts = decoded a.spec.fold a.spec.key (left a.pending) x (all_values a.spec places) e in
    (parts.2, sym (plain_answer a.spec (rows_of places) parts.0 parts.1 ∙ ap (λ (t : ℕ × ℤ). answer.Totals ((None, t.0, t.1) ∷ [])) (sym parts.3)))

may_ask : (table : Table) (found : Option Registered) (all : Answer) → Answers table.places found all → (ask_refusal found ≡ None) × IsSomeAnd found (λ aggregate. reply.Answer all ≡ reply.Answer (answer_now aggregate.spec table))
may_ask table None all answers = absurd answers
may_ask table (Some a) all answers = (ap (λ (n : ℕ). cond (n == 0) None (Some (refusal.Building n))) answers.0, ap reply.Answer answers.1)

-- printing an answer is the reply to `Ask`
asked : {S K : Type 0} (tickets : Tickets S K) (old : World K) (a : ℕ) (all : Answer) (text : List ℕ)
    → Answers old.state.table.places (aggregate_at old.state.table a) all → text ≡ answer_text all → Takes (both_rules tickets) old (step.Ask a) text old
asked tickets old a all text answers printed =
    let may = may_ask old.state.table (aggregate_at old.state.table a) all answers in
    (reply.Answer all, (((all, refl, answers, refl), refl), ((may.0, (may.1, refl)), tt)), printed)

-- printing the count and the sum that the aggregate holds is the reply to `Ask`
pub asks : {S K : Type 0} (tickets : Tickets S K) (old : World K) (a : ℕ) (x : ℕ × ℤ) (text : List ℕ)
    → Some x ≡ plain_in old.state.table.places (aggregate_at old.state.table a) → text ≡ total_text (None, x.0, x.1) → Takes (both_rules tickets) old (step.Ask a) text old
asks tickets old a x text plain printed =
    asked tickets old a (answer.Totals ((None, x.0, x.1) ∷ [])) text (plain_answers old.state.table.places (aggregate_at old.state.table a) x plain) (printed ∙ sym (append-nil (total_text (None, x.0, x.1))))

-- extrema without a key column have at most one line
no_extrema : lines_by_key (extrema []) ≡ []
unfolding one_line
no_extrema = ap (λ (es : Entries (ℤ × ℤ)). map (λ (entry : Option Key × (ℤ × ℤ)). (entry.0, entry.1.0, entry.1.1)) es) (entries-by_key [] none_ascends)

one_extrema : (pair : Pair) (pairs : List Pair) → AreKeyless (pair ∷ pairs)
    → lines_by_key (extrema (pair ∷ pairs)) ≡ (None, (min_max (values (pair ∷ pairs))).0, (min_max (values (pair ∷ pairs))).1) ∷ []
unfolding one_line
one_extrema pair pairs h =
    let t = min_max (values (pair ∷ pairs)) in
    ap lines_by_key (one_group min_max pair pairs h)
    ∙ ap (λ (es : Entries (ℤ × ℤ)). map (λ (entry : Option Key × (ℤ × ℤ)). (entry.0, entry.1.0, entry.1.1)) es) (entries-by_key (one_line t) (ascends t))

line_of_extrema : (pairs : List Pair) (m n : ℤ) → AreKeyless pairs → Some (line.Extrema m n) ≡ line_in (answer.Extrema (lines_by_key (extrema pairs))) None
    → lines_by_key (extrema pairs) ≡ (None, m, n) ∷ []
line_of_extrema [] m n h is =
    let none : Some (line.Extrema m n) ≡ None = is ∙ ap (λ lines. line_in (answer.Extrema lines) None) no_extrema in
    cc
line_of_extrema (pair ∷ pairs) m n h is =
    let t = min_max (values (pair ∷ pairs)) in
    let one : Some (line.Extrema m n) ≡ Some (line.Extrema t.0 t.1) = is ∙ ap (λ lines. line_in (answer.Extrema lines) None) (one_extrema pair pairs h) in
    let least_is : m ≡ t.0 = cc in
    let greatest_is : n ≡ t.1 = cc in
    one_extrema pair pairs h ∙ (λ i. (None, sym least_is i, sym greatest_is i) ∷ [])

no_totals : (found : Option (ℕ × ℤ)) (m n : ℤ) → Some (line.Extrema m n) ≡ option_map (λ (found : ℕ × ℤ). line.Totals found.0 found.1) found → ⊥
no_totals None m n is = cc
no_totals (Some found) m n is = cc

answer_of_extrema : (f : Fold) (pairs : List Pair) (m n : ℤ) → AreKeyless pairs → Some (line.Extrema m n) ≡ line_in (answer_of f None pairs) None
    → answer_of f None pairs ≡ answer.Extrema ((None, m, n) ∷ [])
answer_of_extrema fold.Totals pairs m n h is = absurd (no_totals (found_in (or_zero None (lines_by_key (totals pairs))) None) m n is)
answer_of_extrema fold.Extrema pairs m n h is = ap answer.Extrema (line_of_extrema pairs m n h is)

extrema_answers : (places : List Place) (found : Option Registered) (spec : Spec) (all : Answer) (m n : ℤ)
    → Some spec ≡ option_map (λ (aggregate : Registered). aggregate.spec) found → spec.key ≡ None → Answers places found all
    → Some (line.Extrema m n) ≡ line_in all None → all ≡ answer.Extrema ((None, m, n) ∷ [])
extrema_answers places None spec all m n is none answers line_is = cc
extrema_answers places (Some a) spec all m n is none answers line_is =
    let own : a.spec ≡ spec = cc in
    let keyless_spec : a.spec.key ≡ None = ap (λ (s : Spec). s.key) own ∙ none in
    let pairs = pairs_of a.spec (rows_of places) in
    let all_is : all ≡ answer_of a.spec.fold None pairs = answers.1 ∙ ap (λ key. answer_of a.spec.fold key pairs) keyless_spec in
    all_is ∙ answer_of_extrema a.spec.fold pairs m n (keyless a.spec (kept a.spec (rows_of places)) keyless_spec) (line_is ∙ ap (λ (all : Answer). line_in all None) all_is)

-- printing the least and the greatest value that the aggregate holds is the reply to `Ask`
pub asks_extrema : {S K : Type 0} (tickets : Tickets S K) (old : World K) (a : ℕ) (spec : Spec) (m n : ℤ) (text : List ℕ)
    → Some spec ≡ option_map (λ (aggregate : Registered). aggregate.spec) (aggregate_at old.state.table a) → spec.key ≡ None
    → AnswersKey old.state.table.places (aggregate_at old.state.table a) None (Some (line.Extrema m n))
    → text ≡ extrema_text (None, m, n) → Takes (both_rules tickets) old (step.Ask a) text old
asks_extrema tickets old a spec m n text is none answers printed =
    let found = answer.Extrema ((None, m, n) ∷ []) in
    let all_is = extrema_answers old.state.table.places (aggregate_at old.state.table a) spec answers.0 m n is none answers.1 answers.2 in
    let right = subst (Answers old.state.table.places (aggregate_at old.state.table a)) all_is answers.1 in
    asked tickets old a found text right (printed ∙ sym (append-nil (extrema_text (None, m, n))))
