-- The result of adding under each key of a map while a walk goes along another map.
use Rattle.std.proofs.Common.{◌≡◌, ap, ◌∙◌, sym, refl, subst, Bool, true, false, cond, Option, None, Some, [], ◌∷◌}
use Rattle.std.specs.Prelude.{ℕ, ℤ, IfSome}
use Rattle.std.specs.Map.Calls.{RetainsPairs}
use Rattle.std.specs.BTreeMap.{is_at}
use Rattle.std.specs.declared.cmp.Ordering.TheVariants.{Less}
use Rattle.far_types.specs.declared.key.Key.{Key}
use Rattle.far_types.specs.Keys.{line_cmp}
use Rattle.far_types.specs.Effects.{add_count_sums}
use Rattle.far_types.proofs.AnswersGrouping.{same_key, own_key}
use Rattle.far_types.proofs.AnswersByKeyMaps.{sorted_distinct}
use Rattle.far_groups.specs.CountSums.{IsAddend}
use Rattle.far_groups.specs.Walks.{Lines, count_sum_at, added_to}
use Rattle.far_groups.proofs.WalksLaws.{Ascend, Finds, rest_ascend, finds_rest}

-- whether P holds for the counts and sums of all keys
abbrev pub All_have : (ℕ × ℤ → Type 0) → Lines → Type 0
All_have P es = (q : Option Key) → IfSome (count_sum_at es q) P

head_has : (P : ℕ × ℤ → Type 0) (e : Option Key × (ℕ × ℤ)) (es : Lines) → All_have P (e ∷ es) → P e.1
head_has P e es h = subst (λ b. IfSome (cond b (Some e.1) (count_sum_at es e.0)) P) (own_key e.0) (h e.0)

tail_has : (P : ℕ × ℤ → Type 0) (e : Option Key × (ℕ × ℤ)) (es : Lines) → Ascend (e ∷ es) → All_have P (e ∷ es) → All_have P es
tail_has P e es up h q = at_test (is_at (line_cmp q) e.0) refl (h q) where
  at_test : (b : Bool) → is_at (line_cmp q) e.0 ≡ b → IfSome (cond b (Some e.1) (count_sum_at es q)) P → IfSome (count_sum_at es q) P
  at_test true is own = subst (λ o. IfSome o P) (sym (ap (count_sum_at es) (same_key q e.0 is) ∙ (sorted_distinct (e ∷ es) up).0)) tt
  at_test false is own = own

-- whether a call writes this value, if the walk finds this count and sum
abbrev pub IsAdded : ℕ × ℤ → Option (ℕ × ℤ) → ℕ × ℤ → Type 0
IsAdded old None new = new ≡ old
IsAdded old (Some more) new = IsAddend old → IsAddend more → new ≡ add_count_sums old more

exact : (old new : ℕ × ℤ) (o : Option (ℕ × ℤ)) → IsAddend old → IfSome o IsAddend → IsAdded old o new → Some new ≡ added_to o (Some old)
exact old new None fits more is = ap Some is
exact old new (Some x) fits more is = ap Some (is fits more)

-- T is a call of the closure: it keeps the pair, adds the count and the sum that the walk finds, and leaves the walk after the key
module _ {F : Type 0} (T : F → Option Key → ℕ × ℤ → Bool → ℕ × ℤ → F → Type 0) (walk : F → Lines)
    (calls : (f : F) (k : Option Key) (v : ℕ × ℤ) (b : Bool) (w : ℕ × ℤ) (g : F) → T f k v b w g → (b ≡ true) × IsAdded v (count_sum_at (walk f) k) w × ((q : Option Key) → line_cmp k q ≡ Less → count_sum_at (walk g) q ≡ count_sum_at (walk f) q)) (others : Lines) (fit : All_have IsAddend others) where
  pub all_added : (f : F) (es retained : Lines) → Ascend es → All_have IsAddend es → Finds (walk f) others es → RetainsPairs T f es retained → (q : Option Key) → count_sum_at retained q ≡ added_to (count_sum_at others q) (count_sum_at es q)
  all_added f [] retained up fits finds ran q = ap (λ es. count_sum_at es q) ran
  all_added f (e ∷ es) retained up fits finds (b, w, g, rest, call, ran, is) q =
      let did = calls f e.0 e.1 b w g call in
      let later = all_added g es rest (rest_ascend e es up) (tail_has IsAddend e es up fits) (finds_rest (walk f) (walk g) others e es up did.2 finds) ran q in
      let here : Some w ≡ added_to (count_sum_at others e.0) (Some e.1) = exact e.1 w (count_sum_at others e.0) (head_has IsAddend e es fits) (fit e.0) (subst (λ o. IsAdded e.1 o w) finds.0 did.1) in
      ap (λ es. count_sum_at es q) (is ∙ ap (λ b. cond b ((e.0, w) ∷ rest) rest) did.0) ∙ at_test (is_at (line_cmp q) e.0) refl here later where
        at_test : (b : Bool) → is_at (line_cmp q) e.0 ≡ b → Some w ≡ added_to (count_sum_at others e.0) (Some e.1) → count_sum_at rest q ≡ added_to (count_sum_at others q) (count_sum_at es q) → cond b (Some w) (count_sum_at rest q) ≡ added_to (count_sum_at others q) (cond b (Some e.1) (count_sum_at es q))
        at_test true same here later = here ∙ ap (λ k. added_to (count_sum_at others k) (Some e.1)) (sym (same_key q e.0 same))
        at_test false same here later = later
