-- The answer of the gauge over four stripes whose histories consist of inserts.
use Rattle.std.proofs.Common.{◌≡◌, inl, inr, ℕ, zero, suc, ◌+◌, ◌*◌, ◌<◌, ◌≤◌, ◌%◌, ℤ, pos, List, [], ◌∷◌, ◌++◌, map, length, replicate, None, refl, sym, ap, ◌∙◌, arith, not-suc-le-zero}
use Rattle.std.specs.Prelude.{Option}
use Rattle.std.specs.FinMap as fin
use Rattle.std.specs.FinMap.Entries.{put}
use Rattle.std.proofs.lemmas.Bool.{cases_lt}
use Rattle.std.proofs.lemmas.List.{replicate-append-replicate}
use Rattle.far_types.specs.declared.answer.Answer.TheVariants as answer
use Rattle.far_types.specs.declared.cell.Cell.{Cell}
use Rattle.far_types.specs.declared.key.Key.{Key}
use Rattle.far_types.specs.Answers.{answer_over, or_zero, count_sum, lines_by_key, totals, values_of}
use Rattle.far_types.specs.KeyOrder.{line_total}
use Rattle.far_types.specs.Keys.{line_cmp}
use Rattle.far_types.specs.Pairs.{Pair, pairs_of}
use Rattle.far_types.specs.Table.{empty_table, rows_of}
use Rattle.far_sessions.specs.Histories.{Planned, replay}
use Rattle.far_sessions.specs.declared.view.Entry.{Entry}
use Rattle.far_shared.specs.Fours.{all_rows}
use Rattle.far_shell.specs.Runs.{IsHistory, inserts, row_of_one, sum_of_rows, total_of}
use Rattle.far_shell.proofs.RunsGauge.{insert-places, one_place, count_sum-of-ones}
use Rattle.far_shell.proofs.HistoriesOneSession.{AreBy, by-none, by-one, by-others}

-- ---- the rows of a stripe
-- the number of rows on stripe k, if each session has a stripe of its own and inserts n rows there
abbrev share : ℕ → ℕ → ℕ → ℕ
share zero k n = 0
share (suc m) zero n = n
share (suc m) (suc k) n = share m k n

share-in : (m k n : ℕ) → k < m → share m k n ≡ n
share-in zero k n low = absurd (not-suc-le-zero low)
share-in (suc m) zero n low = refl
share-in (suc m) (suc k) n low = share-in m k n (omega (arith, low))

share-out : (m k n : ℕ) → m ≤ k → share m k n ≡ 0
share-out zero k n past = refl
share-out (suc m) zero n past = absurd (omega (arith, past))
share-out (suc m) (suc k) n past = share-out m k n (omega (arith, past))

-- the shares of the four stripes are all rows
all-shares : (m n : ℕ) → m ≤ 4 → share m 0 n + (share m 1 n + (share m 2 n + share m 3 n)) ≡ m * n
all-shares zero n few = omega arith
all-shares (suc zero) n few = omega arith
all-shares (suc (suc zero)) n few = omega arith
all-shares (suc (suc (suc zero))) n few = omega arith
all-shares (suc (suc (suc (suc zero)))) n few = omega arith
all-shares (suc (suc (suc (suc (suc m))))) n few = absurd (omega (arith, few))

module _ (p : Planned) (n : ℕ) (few : p.sessions ≤ 4) (k : ℕ) (log : List Entry) (is : IsHistory p n k log) (low : k < 4) where
  -- a session below 4 whose home is stripe k is session k
  at-home : (t : ℕ) → t < p.sessions → t % 4 ≡ k → t ≡ k
  at-home t below same = omega (arith, below, same, few)

  own-inserts : k < p.sessions → log ≡ inserts k n
  own-inserts here =
      let by : AreBy k log = by-others p.sessions k log is.below (λ t below other. is.away t below (λ same. other (at-home t below same))) in
      sym (by-one k log by) ∙ is.home k here (omega (arith, low))

  no-inserts : p.sessions ≤ k → log ≡ []
  no-inserts past = by-none p.sessions log is.below (λ t below. is.away t below (λ same. let e = at-home t below same in absurd (omega (arith, e, below, past))))

  -- a stripe has the inserts of its own session, if it has one
  log-is : log ≡ inserts k (share p.sessions k n)
  log-is = elim (cases_lt k p.sessions) [
    | inl here ↦ own-inserts here ∙ ap (inserts k) (sym (share-in p.sessions k n here))
    | inr past ↦ no-inserts past ∙ ap (inserts k) (sym (share-out p.sessions k n past))
  ]

rows-of-ones : (m : ℕ) → rows_of (replicate m one_place) ≡ replicate m row_of_one
rows-of-ones zero = refl
rows-of-ones (suc m) = ap (λ (rows : List (List Cell)). row_of_one ∷ rows) (rows-of-ones m)

rows-there : (p : Planned) (n k : ℕ) (log : List Entry) → p.sessions ≤ 4 → k < 4 → IsHistory p n k log → rows_of (replay p log).places ≡ replicate (share p.sessions k n) row_of_one
rows-there p n k log few low is =
    let m : ℕ = share p.sessions k n in
    ap (λ (l : List Entry). rows_of (replay p l).places) (log-is p n few k log is low)
    ∙ ap rows_of (insert-places (empty_table p.schema p.limits) k m refl)
    ∙ rows-of-ones m

four-parts : {A : Type 0} (a b c d : ℕ) (x : A) → replicate a x ++ (replicate b x ++ (replicate c x ++ replicate d x)) ≡ replicate (a + (b + (c + d))) x
four-parts a b c d x =
    ap (λ l. replicate a x ++ l) (ap (λ l. replicate b x ++ l) (replicate-append-replicate c d x) ∙ replicate-append-replicate b (c + d) x)
    ∙ replicate-append-replicate a (b + (c + d)) x

-- ---- the answer over the stripes
abbrev one_pair : Pair
one_pair = (None, pos 1)

pairs-of-ones : (m : ℕ) → pairs_of sum_of_rows (replicate m row_of_one) ≡ replicate m one_pair
pairs-of-ones zero = refl
pairs-of-ones (suc m) = ap (λ (pairs : List Pair). one_pair ∷ pairs) (pairs-of-ones m)

values-of-ones : (m : ℕ) → values_of None (replicate m one_pair) ≡ replicate m (pos 1)
values-of-ones zero = refl
values-of-ones (suc m) = ap (λ (values : List ℤ). pos 1 ∷ values) (values-of-ones m)

mapped : {A B : Type 0} (f : A → B) (m : ℕ) (x : A) → map f (replicate m x) ≡ replicate m (f x)
mapped f zero x = refl
mapped f (suc m) x = ap (λ l. f x ∷ l) (mapped f m x)

no-length : {A : Type 0} (xs : List A) → length xs ≡ 0 → xs ≡ []
no-length [] is = refl
no-length (x ∷ xs) is = cc

-- many pairs under one key make one line
no-entry : (V : Type 0) → fin.entries (fin.from_entries {K = Option Key} {X = V} {R = line_cmp} []) ≡ []
no-entry V = no-length _ (sym (fin.len-entries (fin.empty {X = V} {R = line_cmp})) ∙ fin.len-empty line_cmp V)

one-entry : {V : Type 0} (m : ℕ) (v : V) → fin.entries (fin.from_entries {R = line_cmp} (replicate (suc m) (None, v))) ≡ (None, v) ∷ []
one-entry {V = V} zero v = fin.entries-insert line_total (fin.from_entries {R = line_cmp} []) None v ∙ ap (put line_cmp None v) (no-entry V)
one-entry (suc m) v = fin.entries-insert line_total (fin.from_entries {R = line_cmp} (replicate (suc m) (None, v))) None v ∙ ap (put line_cmp None v) (one-entry m v)

abbrev line_of : Option Key × (ℕ × ℤ) → Option Key × ℕ × ℤ
line_of entry = (entry.0, entry.1.0, entry.1.1)

lines-of-ones : (m : ℕ) → or_zero None (lines_by_key (totals (replicate m one_pair))) ≡ (None, m, pos m) ∷ []
lines-of-ones zero = ap (λ entries. or_zero None (map line_of entries)) (no-entry (ℕ × ℤ))
lines-of-ones (suc m) =
    let pairs : List Pair = replicate (suc m) one_pair in
    ap (λ entries. or_zero None (map line_of (fin.entries (fin.from_entries {R = line_cmp} entries)))) (mapped (λ (pair : Pair). (pair.0, count_sum (values_of pair.0 pairs))) (suc m) one_pair)
    ∙ ap (λ entries. or_zero None (map line_of entries)) (one-entry m (count_sum (values_of None pairs)))
    ∙ ap (λ (returned : ℕ × ℤ). (None, returned.0, returned.1) ∷ []) (ap count_sum (values-of-ones (suc m)) ∙ count_sum-of-ones (suc m))

answer-of-ones : (m : ℕ) → answer_over sum_of_rows (replicate m row_of_one) ≡ total_of m
answer-of-ones m = ap (λ (pairs : List Pair). answer.Totals (or_zero None (lines_by_key (totals pairs)))) (pairs-of-ones m) ∙ ap answer.Totals (lines-of-ones m)

-- the gauge counts exactly the rows of all sessions
pub total-is : (p : Planned) (n : ℕ) (zeroth first second third : List Entry) → p.sessions ≤ 4 → p.gauge ≡ sum_of_rows
    → IsHistory p n 0 zeroth → IsHistory p n 1 first → IsHistory p n 2 second → IsHistory p n 3 third
    → answer_over p.gauge (all_rows (replay p zeroth) (replay p first) (replay p second) (replay p third)) ≡ total_of (p.sessions * n)
total-is p n zeroth first second third few gauge is0 is1 is2 is3 =
    let rows : List (List Cell) = all_rows (replay p zeroth) (replay p first) (replay p second) (replay p third) in
    let r0 = rows-there p n 0 zeroth few (omega arith) is0 in
    let r1 = rows-there p n 1 first few (omega arith) is1 in
    let r2 = rows-there p n 2 second few (omega arith) is2 in
    let r3 = rows-there p n 3 third few (omega arith) is3 in
    let all : rows ≡ replicate (p.sessions * n) row_of_one =
    (λ i. r0 i ++ (r1 i ++ (r2 i ++ r3 i)))
    ∙ four-parts (share p.sessions 0 n) (share p.sessions 1 n) (share p.sessions 2 n) (share p.sessions 3 n) row_of_one
    ∙ ap (λ (m : ℕ). replicate m row_of_one) (all-shares p.sessions n few) in
    ap (λ spec. answer_over spec rows) gauge ∙ ap (answer_over sum_of_rows) all ∙ answer-of-ones (p.sessions * n)
