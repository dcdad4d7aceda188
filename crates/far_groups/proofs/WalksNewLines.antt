-- The counts and sums that the lines of new keys have under a key.
use Rattle.std.proofs.Common.{◌≡◌, ap, ◌∙◌, sym, refl, subst, not, Bool, true, false, cond, Option, None, Some, [], ◌∷◌, map, filter}
use Rattle.std.specs.Prelude.{ℕ, ℤ, pos, is_some}
use Rattle.std.specs.Option.{option_or}
use Rattle.std.specs.BTreeMap.{BTreeMap, is_at, IsFromIterResult}
use Rattle.std.specs.Cmp.{eq_by_cmp_equiv}
use Rattle.std.specs.Ordering.{eq_by_cmp}
use Rattle.std.specs.Map.{keys_of, update_all}
use Rattle.std.specs.List.Sorted.{IsStrictlySortedBy}
use Rattle.std.specs.FinMap as fin
use Rattle.std.proofs.lemmas.List.Kept.{IsStrictlySortedBy-filter}
use Rattle.std.proofs.lemmas.Map.Keys.{IsDistinct-from_sorted}
use Rattle.std.proofs.lemmas.Map.Made.{update_all_none, update_all_distinct}
use Rattle.far_types.specs.declared.key.Key.{Key}
use Rattle.far_types.specs.Keys.{line_cmp}
use Rattle.far_types.specs.KeyOrder.{line_total}
use Rattle.far_types.specs.Effects.{add_count_sums, merge_two, joined_totals}
use Rattle.far_types.proofs.AnswersGrouping.{same, same_key, get-joined}
use Rattle.far_types.proofs.AnswersByKeyMaps.{get_at, entries-by_key}
use Rattle.far_groups.specs.CountSums.{totals_of}
use Rattle.far_groups.specs.Walks.{Lines, count_sum_at, new_lines}
use Rattle.far_groups.proofs.WalksLaws.{Ascend, new_here, known_here}
use Rattle.far_groups.proofs.WalksReserve.{AreAbsent}

-- the line of a new key: none if the map has the key, or if the other map does not
abbrev pub new_count_sum : Option (ℕ × ℤ) → Option (ℕ × ℤ) → Option (ℕ × ℤ)
new_count_sum there None = None
new_count_sum None (Some more) = Some (0, pos 0)
new_count_sum (Some count_sum) (Some more) = None

none_known : (t : ℕ × ℤ) (o : Option (ℕ × ℤ)) → new_count_sum (Some t) o ≡ None
none_known t None = refl
none_known t (Some more) = refl

-- proof by cases: the map has the key of the first line, or it does not
at_first : (es : Lines) (k : Option Key) → (P : Type 0) → (count_sum_at es k ≡ None → P) → ((t : ℕ × ℤ) → count_sum_at es k ≡ Some t → P) → P
at_first es k P new known = by_count_sum (count_sum_at es k) refl where
  by_count_sum : (o : Option (ℕ × ℤ)) → count_sum_at es k ≡ o → P
  by_count_sum None is = new is
  by_count_sum (Some t) is = known t is

not_none : (o : Option (ℕ × ℤ)) (t : ℕ × ℤ) → o ≡ Some t → o ≡ None → ⊥
not_none o t is none = cc

pub new_at : (es others : Lines) (q : Option Key) → count_sum_at (new_lines es others) q ≡ new_count_sum (count_sum_at es q) (count_sum_at others q)
new_at es [] q = refl
new_at es (e ∷ others) q = let later = new_at es others q in at_first es e.0 _ (λ none. new none later) (λ t some. known t some later) where
  new : count_sum_at es e.0 ≡ None → count_sum_at (new_lines es others) q ≡ new_count_sum (count_sum_at es q) (count_sum_at others q) → count_sum_at (new_lines es (e ∷ others)) q ≡ new_count_sum (count_sum_at es q) (count_sum_at (e ∷ others) q)
  new none later = ap (λ ls. count_sum_at ls q) (new_here es others e none) ∙ at_test (is_at (line_cmp q) e.0) refl where
    at_test : (b : Bool) → is_at (line_cmp q) e.0 ≡ b → cond b (Some (0, pos 0)) (count_sum_at (new_lines es others) q) ≡ new_count_sum (count_sum_at es q) (cond b (Some e.1) (count_sum_at others q))
    at_test true is = sym (ap (λ o. new_count_sum o (Some e.1)) (ap (count_sum_at es) (same_key q e.0 is) ∙ none))
    at_test false is = later

  known : (t : ℕ × ℤ) → count_sum_at es e.0 ≡ Some t → count_sum_at (new_lines es others) q ≡ new_count_sum (count_sum_at es q) (count_sum_at others q) → count_sum_at (new_lines es (e ∷ others)) q ≡ new_count_sum (count_sum_at es q) (count_sum_at (e ∷ others) q)
  known t some later = ap (λ ls. count_sum_at ls q) (known_here es others e (not_none _ t some)) ∙ later ∙ at_test (is_at (line_cmp q) e.0) refl where
    at_test : (b : Bool) → is_at (line_cmp q) e.0 ≡ b → new_count_sum (count_sum_at es q) (count_sum_at others q) ≡ new_count_sum (count_sum_at es q) (cond b (Some e.1) (count_sum_at others q))
    at_test true is = let here = ap (count_sum_at es) (same_key q e.0 is) ∙ some in ap (λ o. new_count_sum o (count_sum_at others q)) here ∙ none_known t (count_sum_at others q) ∙ sym (ap (λ o. new_count_sum o (Some e.1)) here)
    at_test false is = refl

pub new_absent : (es others : Lines) → AreAbsent es (new_lines es others)
new_absent es [] = tt
new_absent es (e ∷ others) = at_first es e.0 _
    (λ none. subst (AreAbsent es) (sym (new_here es others e none)) ((none, refl), new_absent es others))
    (λ t some. subst (AreAbsent es) (sym (known_here es others e (not_none _ t some))) (new_absent es others))

-- the keys of the new lines are the keys that only the other map has
keys_new : (es others : Lines) → keys_of (new_lines es others) ≡ filter (λ k. not (is_some (count_sum_at es k))) (keys_of others)
keys_new es [] = refl
keys_new es (e ∷ others) = at_test (not (is_some (count_sum_at es e.0))) (keys_new es others) where
  at_test : (b : Bool) → keys_of (new_lines es others) ≡ filter (λ k. not (is_some (count_sum_at es k))) (keys_of others)
      → keys_of {X = ℕ × ℤ} (map (λ (line : Option Key × (ℕ × ℤ)). (line.0, (0, pos 0))) (cond b (e ∷ filter (λ line. not (is_some (count_sum_at es line.0))) others) (filter (λ line. not (is_some (count_sum_at es line.0))) others)))
      ≡ cond b (e.0 ∷ filter (λ k. not (is_some (count_sum_at es k))) (keys_of others)) (filter (λ k. not (is_some (count_sum_at es k))) (keys_of others))
  at_test true later = ap (λ ks. e.0 ∷ ks) later
  at_test false later = later

pub new_ascend : (es others : Lines) → Ascend others → Ascend (new_lines es others)
new_ascend es others up = subst (IsStrictlySortedBy line_cmp) (sym (keys_new es others)) (IsStrictlySortedBy-filter line_cmp _ (keys_of others) up)

-- lists of lines whose keys ascend are equal if lookups find the same
same_lines : (xs ys : Lines) → Ascend xs → Ascend ys → ((q : Option Key) → count_sum_at xs q ≡ count_sum_at ys q) → xs ≡ ys
same_lines xs ys up also h =
    sym (entries-by_key xs up) ∙ ap fin.entries (same (totals_of xs) (totals_of ys) (λ q. get_at xs q ∙ h q ∙ sym (get_at ys q))) ∙ entries-by_key ys also

-- a map that is made from lines whose keys ascend has these lines
pub made_of : (lines : Lines) (m : BTreeMap (Option Key) (ℕ × ℤ)) → Ascend lines → IsFromIterResult line_cmp lines m → m.entries ≡ lines
made_of lines m up made =
    same_lines m.entries lines made.1 up (λ q. made.0 q ∙ update_all_none (eq_by_cmp_equiv line_total) (eq_by_cmp line_cmp) (λ x y. refl) lines q (IsDistinct-from_sorted line_cmp (keys_of lines) up))

put_or_there : (a b : Option (ℕ × ℤ)) → option_or (new_count_sum a b) a ≡ merge_two add_count_sums a (new_count_sum a b)
put_or_there None None = refl
put_or_there None (Some u) = refl
put_or_there (Some t) None = refl
put_or_there (Some t) (Some u) = refl

-- inserting the new lines joins them to the map
pub new_joined : (es now others : Lines) → Ascend others → ((q : Option Key) → count_sum_at now q ≡ update_all (eq_by_cmp line_cmp) (count_sum_at es) (new_lines es others) q) → totals_of now ≡ joined_totals (totals_of es) (totals_of (new_lines es others))
new_joined es now others up put = same _ _ (λ q.
    let lines = new_lines es others in
    get_at now q ∙ put q
    ∙ update_all_distinct (eq_by_cmp_equiv line_total) (eq_by_cmp line_cmp) (λ x y. refl) (count_sum_at es) lines q (IsDistinct-from_sorted line_cmp (keys_of lines) (new_ascend es others up))
    ∙ ap (λ o. option_or o (count_sum_at es q)) (new_at es others q)
    ∙ put_or_there (count_sum_at es q) (count_sum_at others q)
    ∙ ap (merge_two add_count_sums (count_sum_at es q)) (sym (new_at es others q))
    ∙ sym (get-joined add_count_sums (totals_of es) (totals_of lines) q ∙ (λ i. merge_two add_count_sums (get_at es q i) (get_at lines q i))))
