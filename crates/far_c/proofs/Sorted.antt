-- A binary search by key among lines whose keys ascend, and that the keys of an answer ascend.
use Rattle.std.proofs.Common.{◌≡◌, ◌≢◌, ◌∙◌, ℕ, ℤ, ◌+◌, ◌<◌, ◌≤◌, false, List, [], ◌∷◌, length, get_or, Option, None, Some, Result, Ok, Err, MatchOption, IsSomeAnd, Less, Equal, Greater, is_lt, inl, inr, sym, ap, ap₂, subst, arith}
use Rattle.std.specs.Cmp.{tied_itself}
use Rattle.std.specs.Result.{result_ok}
use Rattle.std.specs.List.Sorted.{IsBinarySearchResult, IsNonDecreasingBy, IsSearchInRange, IsSortedBy, IsStrictlySortedBy}
use Rattle.std.specs.Ordering.{ordering_index, ordering_reverse}
use Rattle.std.specs.Prelude.{slice_get, option_map}
use Rattle.std.proofs.lemmas.Bool.{cases_lt}
use Rattle.std.proofs.lemmas.List.{get_or-map, length-map}
use Rattle.std.proofs.lemmas.List.Sorted.{searchable_from_sorted}
use Rattle.std.proofs.lemmas.Map.Keys.{Less-from_sorted}
use Rattle.std.proofs.lemmas.Option.{slice_get-map, slice_get_within, slice_get_cases}
use Rattle.far_types.specs.declared.answer.Answer.{Answer}
use Rattle.far_types.specs.declared.key.Key.{Key}
use Rattle.far_types.specs.declared.spec.Fold.{Fold}
use Rattle.far_types.specs.declared.spec.Fold.TheVariants as fold
use Rattle.far_types.specs.Answers.{answer_of, or_zero, lines_by_key, totals}
use Rattle.far_types.specs.KeyOrder.{exact_line, line_total}
use Rattle.far_types.specs.Keys.{line_cmp}
use Rattle.far_types.specs.Pairs.{Pair, pairs_of}
use Rattle.far_types.specs.Table.{Place, Registered, Table, answer_now, rows_of}
use Rattle.far_types.proofs.AnswersLines.{extrema_lines-ascend, total_lines-ascend}
use Rattle.far_aggregates.specs.Aggregates.{Answers}
use Rattle.far_host.specs.HostTickets.{TicketState}
use Rattle.far_table.specs.Recounting.{IsAnswerNow}
use Rattle.far_table.specs.Watching.{aggregate_at}
use Rattle.far_frame.specs.declared.step.Step.TheVariants as step
use Rattle.far_frame.specs.declared.step.Reply.TheVariants as reply
use Rattle.far_frame.specs.Steps.{IsStep}
use Rattle.far_frame.specs.Worlds.{World}
use Rattle.far_c.specs.Contents.{content, number_of}
use Rattle.far_c.specs.Keys.{Ascend, IsKeyAt, IsNoKeyOf, keys_in, keys_of}

above : (x y : Option Key) → line_cmp x y ≡ Less → is_lt (line_cmp y x) ≡ false
above x y less = ap is_lt (line_total.antisymm y x ∙ ap ordering_reverse less)

module _ {A B : Type 0} (lines : List (Option Key × A × B)) (ascend : Ascend (keys_in lines)) (key : Option Key) where
  key-at : (k : ℕ) (d : Option Key × A × B) → k < length lines → get_or (keys_in lines) k d.0 ≡ (get_or lines k d).0
  key-at k d below = get_or-map (λ (line : Option Key × A × B). line.0) lines k d d.0 below

  -- the lines are sorted as a binary search requires
  sorted : IsSortedBy (λ (a b : Option Key × A × B). is_lt (line_cmp a.0 b.0)) lines
  sorted k d low high =
      let inside : k + 1 < length (keys_in lines) = rw (length-map lines (λ (line : Option Key × A × B). line.0)) high in
      let less = Less-from_sorted line_cmp (keys_in lines) k (k + 1) d.0 ascend (omega arith) inside in
      above (get_or lines k d).0 (get_or lines (k + 1) d).0 (ap₂ line_cmp (sym (key-at k d (omega (arith, high)))) (sym (key-at (k + 1) d high)) ∙ less)

  rises : IsNonDecreasingBy (λ (line : Option Key × A × B). ordering_index (line_cmp line.0 key)) lines
  rises = searchable_from_sorted line_total (λ (line : Option Key × A × B). line.0) lines key sorted

  -- a line with this key is neither before nor after it
  other : (found : Option Key) → found ≡ key → line_cmp found key ≢ Less
  other found is less = (let tied : line_cmp key key ≡ Equal = tied_itself line_total key in let less' = subst (λ (k : Option Key). line_cmp k key ≡ Less) is less in cc)

  other' : (found : Option Key) → found ≡ key → line_cmp found key ≢ Greater
  other' found is more = (let tied : line_cmp key key ≡ Equal = tied_itself line_total key in let more' = subst (λ (k : Option Key). line_cmp k key ≡ Greater) is more in cc)

  -- the key of the line at an index
  line-key : (k : ℕ) (line : Option Key × A × B) → slice_get lines k ≡ Some line → slice_get (keys_in lines) k ≡ Some line.0
  line-key k line at = slice_get-map (λ (line : Option Key × A × B). line.0) lines k ∙ ap (option_map (λ (line : Option Key × A × B). line.0)) at

  absent : (at k : ℕ) → ((i : ℕ) (d : Option Key × A × B) → 0 ≤ i → i < at → line_cmp (get_or lines i d).0 key ≡ Less) → ((i : ℕ) (d : Option Key × A × B) → at ≤ i → i < length lines → line_cmp (get_or lines i d).0 key ≡ Greater)
      → (line : Option Key × A × B) → k < length lines → get_or lines k line ≡ line → line.0 ≡ key → ⊥
  absent at k before behind line inside read is =
      let is' : (get_or lines k line).0 ≡ key = ap (λ (l : Option Key × A × B). l.0) read ∙ is in
      elim (cases_lt k at) [
        | inl below ↦ other (get_or lines k line).0 is' (before k line (omega arith) below)
        | inr past ↦ other' (get_or lines k line).0 is' (behind k line past inside)
      ]

  pub found-at : (r : Result ℕ ℕ) → IsSearchInRange r (length lines) → IsBinarySearchResult (λ (line : Option Key × A × B). line_cmp line.0 key) lines r → MatchOption (result_ok r) (IsNoKeyOf (keys_in lines) key) (λ index. IsKeyAt (keys_in lines) index key)
  found-at (Ok at) inside equal = elim ((slice_get_cases lines at).1) [
    | inl there ↦ line-key at there.0 there.2 ∙ ap Some (ap (λ (l : Option Key × A × B). l.0) (sym there.3) ∙ exact_line _ _ (equal there.0))
    | inr past ↦ absurd (omega (arith, inside, past.0))
  ]
  found-at (Err at) inside parted = λ index is. elim ((slice_get_cases lines index).1) [
    | inl there ↦ absent at index (parted rises).0 (parted rises).1 there.0 there.1 there.3 (let here = line-key index there.0 there.2 in cc)
    | inr past ↦ (let within = slice_get_within (keys_in lines) index key is in let long = length-map lines (λ (line : Option Key × A × B). line.0) in absurd (omega (arith, within, long, past.0)))
  ]

-- the keys of an answer ascend
with-zero : (column : Option ℕ) (lines : List (Option Key × ℕ × ℤ)) → Ascend (keys_in lines) → Ascend (keys_in (or_zero column lines))
unfolding IsStrictlySortedBy
with-zero (Some column) lines h = h
with-zero None [] h = (tt, tt)
with-zero None (line ∷ lines) h = h

answer-ascends : (f : Fold) (column : Option ℕ) (pairs : List Pair) → Ascend (keys_of (answer_of f column pairs))
answer-ascends fold.Totals column pairs = with-zero column (lines_by_key (totals pairs)) (total_lines-ascend pairs)
answer-ascends fold.Extrema column pairs = extrema_lines-ascend pairs

answers-ascend : (places : List Place) (found : Option Registered) (answer : Answer) → Answers places found answer → Ascend (keys_of answer)
answers-ascend places None answer h = absurd h
answers-ascend places (Some aggregate) answer h = subst (λ (a : Answer). Ascend (keys_of a)) (sym h.1) (answer-ascends aggregate.spec.fold aggregate.spec.key (pairs_of aggregate.spec (rows_of places)))

pub asked-ascends : (old new : World TicketState) (a : ℕ) (answer : Answer) → IsStep content number_of old (step.Ask a) (reply.Answer answer) new → Ascend (keys_of answer)
asked-ascends old new a answer h =
    let of = h.0 in
    let same : answer ≡ of.0 = (let is = of.1 in cc) in
    subst (λ (x : Answer). Ascend (keys_of x)) (sym same) (answers-ascend old.state.table.places (aggregate_at old.state.table a) of.0 of.2)

recount-ascends : (table : Table) (found : Option Registered) (answer : Answer) → IsSomeAnd found (λ aggregate. answer ≡ answer_now aggregate.spec table) → Ascend (keys_of answer)
recount-ascends table None answer h = absurd h
recount-ascends table (Some aggregate) answer h = subst (λ (a : Answer). Ascend (keys_of a)) (sym h) (answer-ascends aggregate.spec.fold aggregate.spec.key (pairs_of aggregate.spec (rows_of table.places)))

pub recounted-ascends : (table : Table) (a : ℕ) (answer : Answer) → IsAnswerNow table a answer → Ascend (keys_of answer)
recounted-ascends table a = recount-ascends table (aggregate_at table a)
