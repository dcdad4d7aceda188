-- The order of the numbers of a list and two trees, and their lines.
use Rattle.std.proofs.Common.{◌≡◌, ℕ, zero, suc, ◌+◌, ◌<◌, ◌≤◌, Bool, true, false, cond, List, [], ◌∷◌, ◌++◌, length, get_or, drop, refl, sym, ap, ◌∙◌, subst, arith, Option, None, Some, inl, inr}
use Rattle.std.specs.Prelude.{ℤ, pos, negsuc, ◌<ℤ◌, ◌≤ℤ◌}
use Rattle.std.specs.List.{AllByRecursion}
use Rattle.std.specs.List.Sorted.{IsStrictlySortedBy}
use Rattle.std.specs.Map.{keys_of}
use Rattle.std.specs.Ordering.{int_cmp}
use Rattle.std.specs.Cmp.{int_cmp_is}
use Rattle.std.specs.declared.cmp.Ordering.TheVariants.{Less}
use Rattle.std.proofs.lemmas.Int.{ints}
use Rattle.std.proofs.lemmas.List.{append_assoc}
use Rattle.std.proofs.lemmas.List.Elements.{filter_map-append}
use Rattle.far_types.specs.declared.key.Key.{Key}
use Rattle.far_types.specs.declared.key.Key.TheVariants.{Int}
use Rattle.far_extrema.specs.Holders.{Holding, IsTopped}
use Rattle.far_extrema.specs.Entries.{numbered, lines_of}
use Rattle.far_extrema.specs.Numbers.{Numbers, number_at, placed, numbers_in, AreApart}
use Rattle.far_extrema.proofs.NumbersLaws.{own_number, part}

some_none : (h : Holding) → Some h ≡ None → ⊥
some_none h e = cc

rest_none : (t : Bool) (h : Holding) (o : Option Holding) → cond t (Some h) o ≡ None → o ≡ None
rest_none true h o e = cc
rest_none false h o e = e

found : (n : ℤ) (h : Holding) (ns : Numbers) → number_at ((n, h) ∷ ns) n ≡ None → ⊥
found n h ns e = some_none h (sym (ap (λ t. cond t (Some h) (number_at ns n)) (own_number n)) ∙ e)

head_under : (n : ℤ) (h : Holding) (b : Numbers) → ((k : ℕ) → number_at ((n, h) ∷ b) (pos k) ≡ None) → n <ℤ pos 0
head_under (pos j) h b none = absurd (found (pos j) h b (none j))
head_under (negsuc j) h b none = omega (arith, ints)

head_over : (n : ℤ) (h : Holding) (a : Numbers) → ((m : ℤ) → m <ℤ pos 2048 → number_at ((n, h) ∷ a) m ≡ None) → pos 2048 ≤ℤ n
head_over n h a none = elim (part n) [
  | inl l ↦ absurd (found n h a (none n (omega (arith, ints, l))))
  | inr (inl (k, is, l)) ↦ absurd (found n h a (none n (omega (arith, ints, is, l))))
  | inr (inr l) ↦ l
]

less_than : (n m : ℤ) → n <ℤ m → int_cmp n m ≡ Less
less_than n m l = sym (int_cmp_is n m Less l)

all_keys : (P : ℤ → Type 0) (ms ns : Numbers) → AllByRecursion P (keys_of ms) → AllByRecursion P (keys_of ns) → AllByRecursion P (keys_of (ms ++ ns))
all_keys P [] ns h k = k
all_keys P (e ∷ ms) ns h k = (h.0, all_keys P ms ns h.1 k)

before_placed : (n : ℤ) (first : ℕ) (hs : List Holding) → n <ℤ pos first → AllByRecursion (λ m. int_cmp n m ≡ Less) (keys_of (placed first hs))
before_placed n first [] l = tt
before_placed n first (h ∷ hs) l = (less_than n (pos first) l, before_placed n (suc first) hs (omega (arith, ints, l)))

before_over : (n : ℤ) (a : Numbers) → ((m : ℤ) → m <ℤ pos 2048 → number_at a m ≡ None) → n <ℤ pos 2048 → AllByRecursion (λ m. int_cmp n m ≡ Less) (keys_of a)
before_over n [] none l = tt
before_over n (e ∷ a) none l =
    let high = head_over e.0 e.1 a none in
    (less_than n e.0 (omega (arith, ints, l, high)), before_over n a (λ m less. rest_none _ e.1 (number_at a m) (none m less)) l)

ascending_placed : (first : ℕ) (hs : List Holding) (a : Numbers) → first + length hs ≤ 2048 → ((m : ℤ) → m <ℤ pos 2048 → number_at a m ≡ None) → IsStrictlySortedBy int_cmp (keys_of a) → IsStrictlySortedBy int_cmp (keys_of (placed first hs ++ a))
unfolding IsStrictlySortedBy
ascending_placed first [] a few none sorted = sorted
ascending_placed first (h ∷ hs) a few none sorted =
    (all_keys _ (placed (suc first) hs) a (before_placed (pos first) (suc first) hs (omega (arith, ints))) (before_over (pos first) a none (omega (arith, ints, few))), ascending_placed (suc first) hs a (omega (arith, few)) none sorted)

ascending_from : (b : Numbers) (s : List Holding) (a : Numbers) → ((k : ℕ) → number_at b (pos k) ≡ None) → length s ≤ 2048 → ((m : ℤ) → m <ℤ pos 2048 → number_at a m ≡ None)
    → IsStrictlySortedBy int_cmp (keys_of b) → IsStrictlySortedBy int_cmp (keys_of a) → IsStrictlySortedBy int_cmp (keys_of (numbers_in b s a))
unfolding IsStrictlySortedBy
ascending_from [] s a under few over low high = ascending_placed 0 s a (omega (arith, few)) over high
ascending_from (e ∷ b) s a under few over low high =
    let negative = head_under e.0 e.1 b under in (
      all_keys _ b (placed 0 s ++ a) low.0 (all_keys _ (placed 0 s) a (before_placed e.0 0 s negative) (before_over e.0 a over (omega (arith, ints, negative)))),
      ascending_from b s a (λ k. rest_none _ e.1 (number_at b (pos k)) (under k)) few over low.1 high,
    )

-- the numbers ascend
pub ascending_in : (b : Numbers) (s : List Holding) (a : Numbers) → AreApart b s a → IsStrictlySortedBy int_cmp (keys_of b) → IsStrictlySortedBy int_cmp (keys_of a) → IsStrictlySortedBy int_cmp (keys_of (numbers_in b s a))
ascending_in b s a apart low high = ascending_from b s a apart.under apart.few apart.over low high

numbered_append : (ms ns : Numbers) → numbered (ms ++ ns) ≡ numbered ms ++ numbered ns
numbered_append [] ns = refl
numbered_append (e ∷ ms) ns = ap (λ es. (numbered (e ∷ []) ++ es)) (numbered_append ms ns)

numbered_in : (b : Numbers) (s : List Holding) (a : Numbers) → numbered (numbers_in b s a) ≡ numbered b ++ (numbered (placed 0 s) ++ numbered a)
numbered_in b s a = numbered_append b (placed 0 s ++ a) ∙ ap (λ es. numbered b ++ es) (numbered_append (placed 0 s) a)

abbrev Lines : Type 0
Lines = List (Option Key × ℤ × ℤ)

-- the lines that are made for each part in turn are the lines of all numbers
pub number_lines_in : (zero one two three : Lines) (b : Numbers) (s : List Holding) (a : Numbers) → one ≡ zero ++ lines_of (numbered b) → two ≡ one ++ lines_of (numbered (placed 0 s)) → three ≡ two ++ lines_of (numbered a)
    → three ≡ zero ++ lines_of (numbered (numbers_in b s a))
number_lines_in none one two three b s a first second third =
    third
    ∙ ap (λ (ls : Lines). ls ++ lines_of (numbered a)) (second ∙ ap (λ (ls : Lines). ls ++ lines_of (numbered (placed 0 s))) first)
    ∙ append_assoc (none ++ lines_of (numbered b)) (lines_of (numbered (placed 0 s))) (lines_of (numbered a))
    ∙ append_assoc none (lines_of (numbered b)) (lines_of (numbered (placed 0 s)) ++ lines_of (numbered a))
    ∙ ap (λ (ls : Lines). none ++ ls) (sym (
    ap lines_of (numbered_in b s a)
    ∙ filter_map-append _ (numbered b) (numbered (placed 0 s) ++ numbered a)
    ∙ ap (λ (ls : Lines). lines_of (numbered b) ++ ls) (filter_map-append _ (numbered (placed 0 s)) (numbered a))))

all_append : {X : Type 0} (P : X → Type 0) (xs ys : List X) → AllByRecursion P xs → AllByRecursion P ys → AllByRecursion P (xs ++ ys)
all_append P [] ys h k = k
all_append P (x ∷ xs) ys h k = (h.0, all_append P xs ys h.1 k)

-- all entries are topped if the entries of each part are
pub numbers_topped : (b : Numbers) (s : List Holding) (a : Numbers) → AllByRecursion IsTopped (numbered b) → AllByRecursion IsTopped (numbered (placed 0 s)) → AllByRecursion IsTopped (numbered a) → AllByRecursion IsTopped (numbered (numbers_in b s a))
numbers_topped b s a h k l = subst (AllByRecursion IsTopped) (sym (numbered_in b s a)) (all_append IsTopped (numbered b) (numbered (placed 0 s) ++ numbered a) h (all_append IsTopped (numbered (placed 0 s)) (numbered a) k l))

-- the numbers from one place on are the number of that place and the numbers from the next place on
pub placed_step : (hs : List Holding) (k : ℕ) (h : Holding) → k < length hs → h ≡ get_or hs k h → numbered (placed k (drop k hs)) ≡ (Some (Int (pos k)), h) ∷ numbered (placed (k + 1) (drop (k + 1) hs))
placed_step hs k h l is =
    let next : suc k ≡ k + 1 = omega arith in
    ap (λ ts. numbered (placed k ts)) (drop_step hs k h l is) ∙ (λ i. (Some (Int (pos k)), h) ∷ numbered (placed (next i) (drop (next i) hs))) where
      drop_step : (xs : List Holding) (j : ℕ) (x : Holding) → j < length xs → x ≡ get_or xs j x → drop j xs ≡ x ∷ drop (suc j) xs
      drop_step [] j x l e = absurd (omega arith)
      drop_step (y ∷ xs) zero x l e = ap (λ z. z ∷ xs) (sym e)
      drop_step (y ∷ xs) (suc j) x l e = drop_step xs j x (omega arith) e

-- there are no numbers after the last place
pub placed_end : (hs : List Holding) (k : ℕ) → length hs ≤ k → numbered (placed k (drop k hs)) ≡ []
placed_end hs k l = ap (λ ts. numbered (placed k ts)) (drop_end hs k l) where
  drop_end : (xs : List Holding) (j : ℕ) → length xs ≤ j → drop j xs ≡ []
  drop_end [] zero l = refl
  drop_end [] (suc j) l = refl
  drop_end (y ∷ xs) zero l = absurd (omega arith)
  drop_end (y ∷ xs) (suc j) l = drop_end xs j (omega arith)
