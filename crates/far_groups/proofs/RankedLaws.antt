-- The entries of a list in ascending order of their numbers: lookups, and that the numbers ascend.
use Rattle.std.proofs.Common.{◌≡◌, ℕ, zero, suc, ◌+◌, ◌-◌, ◌/◌, ◌≤◌, ◌<◌, ◌==◌, Bool, true, false, cond, List, [], ◌∷◌, ◌++◌, length, get_or, refl, sym, ap, ◌∙◌, subst, Option, None, Some, arith, inl, inr}
use Rattle.std.specs.Prelude.{ℤ, pos, ◌<ℤ◌}
use Rattle.std.specs.List.{AllByRecursion}
use Rattle.std.specs.List.Sorted.{IsStrictlySortedBy}
use Rattle.std.specs.Map.{keys_of}
use Rattle.std.specs.BTreeMap.{is_at}
use Rattle.std.specs.Cmp.{int_cmp_is}
use Rattle.std.specs.declared.cmp.Ordering.TheVariants.{Less}
use Rattle.std.specs.FinMap as fin
use Rattle.std.proofs.lemmas.Int.{ints}
use Rattle.std.proofs.lemmas.List.{append_assoc}
use Rattle.far_types.specs.declared.key.Key.{Key}
use Rattle.far_types.specs.declared.key.Key.TheVariants.{Int, Text}
use Rattle.far_types.specs.Keys.{line_cmp}
use Rattle.far_types.proofs.AnswersGrouping.{same, own_key}
use Rattle.far_types.proofs.AnswersByKeyMaps.{at, get_at}
use Rattle.far_groups.specs.KeyTree.{numbered, number_key, by_number, number_lines}
use Rattle.far_groups.specs.Dense.{place_number, place_key, standing, by_place, rank_place, entry_of, ranked, in_order}
use Rattle.far_groups.proofs.KeyTreeLaws.{get_other}
use Rattle.far_groups.proofs.DenseLaws.{Places, lines_from, other_place, none_behind, none_elsewhere, at_place}
use Rattle.far_groups.proofs.PlaceNumbers.{number_place, number_there, side, rank_within, rank_apart, ranked_place, rank_number_low, rank_number_high}

-- the count and the sum at a rank
abbrev pub of_rank : Places → ℕ → ℕ × ℤ
of_rank ts rank = get_or ts (rank_place (length ts / 2) rank) (0, pos 0)

at_entry : (place : ℕ) (t : ℕ × ℤ) (es : List (ℤ × (ℕ × ℤ))) (q : Option Key) → at (numbered (entry_of place t ++ es)) q ≡ cond (t.0 == 0) (at (numbered es) q) (cond (is_at (line_cmp q) (place_key place)) (Some t) (at (numbered es) q))
at_entry place t es q = elim (t.0 == 0) as (λ b. at (numbered (cond b [] ((place_number place, t) ∷ []) ++ es)) q ≡ cond b (at (numbered es) q) (cond (is_at (line_cmp q) (place_key place)) (Some t) (at (numbered es) q))) [ true ↦ refl | false ↦ refl ]

either : (b : Bool) (o : Option (ℕ × ℤ)) → cond b o o ≡ o
either true o = refl
either false o = refl

-- a place that has none of these ranks finds nothing
module _ (ts : Places) (k : ℕ) where
  none_ranked : (rank more : ℕ) → ((j : ℕ) → rank ≤ j → j < rank + more → k ≡ rank_place (length ts / 2) j → ⊥) → at (numbered (ranked ts rank more)) (place_key k) ≡ None
  none_ranked rank zero other = refl
  none_ranked rank (suc more) other =
      let place = rank_place (length ts / 2) rank in
      at_entry place (of_rank ts rank) (ranked ts (rank + 1) more) (place_key k)
      ∙ ap (λ b. cond ((of_rank ts rank).0 == 0) (at (numbered (ranked ts (rank + 1) more)) (place_key k)) (cond b (Some (of_rank ts rank)) (at (numbered (ranked ts (rank + 1) more)) (place_key k)))) (other_place k place (other rank (omega arith) (omega arith)))
      ∙ either ((of_rank ts rank).0 == 0) (at (numbered (ranked ts (rank + 1) more)) (place_key k))
      ∙ none_ranked (rank + 1) more (λ j l m. other j (omega (arith, l)) (omega (arith, m)))

  found_ranked : (rank more j : ℕ) → rank ≤ j → j < rank + more → k ≡ rank_place (length ts / 2) j → at (numbered (ranked ts rank more)) (place_key k) ≡ standing (of_rank ts j)
  found_ranked rank zero j l m is = absurd (omega (arith, l, m))
  found_ranked rank (suc more) j l m is = elim (side (suc rank) j) [
    | inl low ↦
        let first : rank ≡ j = omega (arith, low, l) in
        let here : place_key k ≡ place_key (rank_place (length ts / 2) rank) = ap place_key (is ∙ ap (rank_place (length ts / 2)) (sym first)) in
        let rest = none_ranked (rank + 1) more (λ i a b same. rank_apart (length ts / 2) j i (omega (arith, low, a)) (sym is ∙ same)) in
        at_entry (rank_place (length ts / 2) rank) (of_rank ts rank) (ranked ts (rank + 1) more) (place_key k)
        ∙ ap (λ o. cond ((of_rank ts rank).0 == 0) o (cond (is_at (line_cmp (place_key k)) (place_key (rank_place (length ts / 2) rank))) (Some (of_rank ts rank)) o)) rest
        ∙ ap (λ (key : Option Key). cond ((of_rank ts rank).0 == 0) None (cond (is_at (line_cmp key) (place_key (rank_place (length ts / 2) rank))) (Some (of_rank ts rank)) None)) here
        ∙ ap (λ b. cond ((of_rank ts rank).0 == 0) None (cond b (Some (of_rank ts rank)) None)) (own_key (place_key (rank_place (length ts / 2) rank)))
        ∙ ap (λ (i : ℕ). standing (of_rank ts i)) first
    | inr high ↦
        at_entry (rank_place (length ts / 2) rank) (of_rank ts rank) (ranked ts (rank + 1) more) (place_key k)
        ∙ ap (λ b. cond ((of_rank ts rank).0 == 0) (at (numbered (ranked ts (rank + 1) more)) (place_key k)) (cond b (Some (of_rank ts rank)) (at (numbered (ranked ts (rank + 1) more)) (place_key k)))) (other_place k (rank_place (length ts / 2) rank) (λ same. rank_apart (length ts / 2) rank j (omega (arith, high)) (sym same ∙ is)))
        ∙ either ((of_rank ts rank).0 == 0) (at (numbered (ranked ts (rank + 1) more)) (place_key k))
        ∙ found_ranked (rank + 1) more j (omega (arith, high)) (omega (arith, m)) is
  ]

  -- a lookup finds the same in the order of numbers as in the order of places
  found_alike : at (numbered (in_order ts)) (place_key k) ≡ at (lines_from 0 ts) (place_key k)
  found_alike = elim (side (length ts) k) [
    | inl within ↦
        let rank = ranked_place (length ts) k within in
        found_ranked 0 (length ts) rank.0 (omega arith) (omega (arith, rank.1)) rank.2
        ∙ ap (λ (place : ℕ). standing (get_or ts place (0, pos 0))) (sym rank.2)
        ∙ sym (at_place 0 k k ts (0, pos 0) (omega arith) within)
    | inr behind ↦
        none_ranked 0 (length ts) (λ j l m same. let inside = rank_within (length ts) j (omega (arith, m)) in omega (arith, inside, same, behind))
        ∙ sym (none_behind 0 k ts (omega (arith, behind)))
  ]

-- entries in ascending order have the totals of the list
pub in_order_totals : (ts : Places) → by_number (in_order ts) ≡ by_place ts
in_order_totals ts = same _ _ alike where
  alike : (q : Option Key) → fin.get (by_number (in_order ts)) q ≡ fin.get (by_place ts) q
  alike None = get_other Int (in_order ts) None (λ n e. cc) ∙ sym (get_at (lines_from 0 ts) None ∙ none_elsewhere 0 ts None (λ place e. cc))
  alike (Some (Text t)) = get_other Int (in_order ts) (Some (Text t)) (λ n e. cc) ∙ sym (get_at (lines_from 0 ts) (Some (Text t)) ∙ none_elsewhere 0 ts (Some (Text t)) (λ place e. cc))
  alike (Some (Int n)) =
      get_at (numbered (in_order ts)) (Some (Int n))
      ∙ subst (λ (m : ℤ). at (numbered (in_order ts)) (number_key m) ≡ at (lines_from 0 ts) (number_key m)) (number_there n) (found_alike ts (number_place n))
      ∙ sym (get_at (lines_from 0 ts) (Some (Int n)))

-- an earlier rank has a lower number
less_rank : (below i j : ℕ) → i < j → line_cmp (place_key (rank_place below i)) (place_key (rank_place below j)) ≡ Less
less_rank below i j l = sym (int_cmp_is (place_number (rank_place below i)) (place_number (rank_place below j)) Less less) where
  less : place_number (rank_place below i) <ℤ place_number (rank_place below j)
  less = elim (side below i) [
    | inl low ↦ elim (side below j) [
      | inl low_too ↦ let a = rank_number_low below i low in let b = rank_number_low below j low_too in omega (arith, ints, a, b, l, low, low_too)
      | inr high ↦ let a = rank_number_low below i low in let b = rank_number_high below j high in omega (arith, ints, a, b, l, low, high)
    ]
    | inr high ↦ let a = rank_number_high below i high in let b = rank_number_high below j (omega (arith, high, l)) in omega (arith, ints, a, b, l, high)
  ]

below_ranked : (ts : Places) (i rank more : ℕ) → i < rank → AllByRecursion (λ k. line_cmp (place_key (rank_place (length ts / 2) i)) k ≡ Less) (keys_of (numbered (ranked ts rank more)))
below_ranked ts i rank zero l = tt
below_ranked ts i rank (suc more) l =
    elim ((of_rank ts rank).0 == 0) as (λ b. AllByRecursion (λ k. line_cmp (place_key (rank_place (length ts / 2) i)) k ≡ Less) (keys_of (numbered (cond b [] ((place_number (rank_place (length ts / 2) rank), of_rank ts rank) ∷ []) ++ ranked ts (rank + 1) more)))) [
      | true ↦ below_ranked ts i (rank + 1) more (omega (arith, l))
      | false ↦ (less_rank (length ts / 2) i rank l, below_ranked ts i (rank + 1) more (omega (arith, l)))
    ]

ranked_ascend : (ts : Places) (rank more : ℕ) → IsStrictlySortedBy line_cmp (keys_of (numbered (ranked ts rank more)))
unfolding IsStrictlySortedBy
ranked_ascend ts rank zero = tt
ranked_ascend ts rank (suc more) =
    elim ((of_rank ts rank).0 == 0) as (λ b. IsStrictlySortedBy line_cmp (keys_of (numbered (cond b [] ((place_number (rank_place (length ts / 2) rank), of_rank ts rank) ∷ []) ++ ranked ts (rank + 1) more)))) [
      | true ↦ ranked_ascend ts (rank + 1) more
      | false ↦ (below_ranked ts rank (rank + 1) more (omega arith), ranked_ascend ts (rank + 1) more)
    ]

-- the lines ascend
pub in_order_ascends : (ts : Places) → IsStrictlySortedBy line_cmp (keys_of (numbered (in_order ts)))
in_order_ascends ts = ranked_ascend ts 0 (length ts)

-- whether these are the lines of all lower ranks
abbrev pub LinesBefore : Places → ℕ → List (Option Key × ℕ × ℤ) → Type 0
LinesBefore ts rank lines = lines ++ number_lines (ranked ts rank (length ts - rank)) ≡ number_lines (in_order ts)

next_ranked : (ts : Places) (rank : ℕ) → rank < length ts → ranked ts rank (length ts - rank) ≡ entry_of (rank_place (length ts / 2) rank) (of_rank ts rank) ++ ranked ts (rank + 1) (length ts - (rank + 1))
next_ranked ts rank l = let more : length ts - rank ≡ suc (length ts - (rank + 1)) = omega (arith, l) in ap (ranked ts rank) more

-- a place whose count is 0 has no line
pub no_line : (ts : Places) (rank : ℕ) (lines : List (Option Key × ℕ × ℤ)) → rank < length ts → (of_rank ts rank).0 ≡ 0 → LinesBefore ts rank lines → LinesBefore ts (rank + 1) lines
no_line ts rank lines l none before =
    let entry : entry_of (rank_place (length ts / 2) rank) (of_rank ts rank) ≡ [] = ap (λ (n : ℕ). cond (n == 0) [] ((place_number (rank_place (length ts / 2) rank), of_rank ts rank) ∷ [])) none in
    sym (ap (λ es. lines ++ number_lines es) (next_ranked ts rank l ∙ ap (λ es. es ++ ranked ts (rank + 1) (length ts - (rank + 1))) entry)) ∙ before

-- a place with another count has one line
pub one_line_more : (ts : Places) (rank : ℕ) (t : ℕ × ℤ) (lines : List (Option Key × ℕ × ℤ)) → rank < length ts → of_rank ts rank ≡ t → (t.0 == 0) ≡ false → LinesBefore ts rank lines → LinesBefore ts (rank + 1) (lines ++ (place_key (rank_place (length ts / 2) rank), t.0, t.1) ∷ [])
one_line_more ts rank t lines l is some before =
    let place = rank_place (length ts / 2) rank in
    let rest = ranked ts (rank + 1) (length ts - (rank + 1)) in
    let entry : entry_of place (of_rank ts rank) ≡ (place_number place, t) ∷ [] = ap (entry_of place) is ∙ ap (λ b. cond b [] ((place_number place, t) ∷ [])) some in
    append_assoc lines ((place_key place, t.0, t.1) ∷ []) (number_lines rest)
    ∙ sym (ap (λ es. lines ++ number_lines es) (next_ranked ts rank l ∙ ap (λ es. es ++ rest) entry)) ∙ before
