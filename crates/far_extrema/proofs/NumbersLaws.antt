-- The holdings of numbers in a list and two trees: lookups, changes, and the order of the numbers.
use Rattle.std.proofs.Common.{◌≡◌, ℕ, zero, suc, ◌+◌, ◌-◌, ◌<◌, ◌≤◌, ◌==◌, true, false, Bool, cond, List, [], ◌∷◌, ◌++◌, length, get_or, slice_get, slice_set, refl, sym, ap, ◌∙◌, subst, arith, Option, None, Some, true≢false, ◌⊎◌, inl, inr}
use Rattle.std.specs.Borrow.{MutBor}
use Rattle.std.specs.Option.{option_copied_mut, MatchOption}
use Rattle.std.specs.List.{HoldsAt}
use Rattle.std.specs.Prelude.{IfSome, is_some, IsSome, ◌||◌, ℤ, pos, negsuc, ◌<ℤ◌, ◌≤ℤ◌}
use Rattle.std.specs.Ordering.{int_cmp, is_eq}
use Rattle.std.specs.Cmp.{int_cmp_total}
use Rattle.std.specs.declared.cmp.Ordering.{Ordering}
use Rattle.std.specs.declared.cmp.Ordering.TheVariants.{Less, Equal, Greater}
use Rattle.std.specs.BTreeMap.{is_at}
use Rattle.std.proofs.lemmas.Bool.Decides.{nat_tests}
use Rattle.std.proofs.lemmas.List.{length-append}
use Rattle.std.proofs.lemmas.Cmp.{tied_itself}
use Rattle.std.proofs.lemmas.Int.{ints}
use Rattle.std.proofs.lemmas.Map.Lookups.{exact_signed}
use Rattle.far_extrema.specs.Holders.{Holding, min_max_in, reserved_in, AreLike, IsVacant}
use Rattle.std.specs.Map.{keys_of}
use Rattle.far_extrema.specs.Spreads.{at}
use Rattle.far_extrema.specs.Numbers.{Numbers, number_at, placed, numbers_in, AreApart, IsSetAt, KeepsOtherNumbers, IsNumberPut, AreNumbersLike, IsPlacePut, ArePlacesLike}

is_equal : (r : Ordering) → is_eq r ≡ true → r ≡ Equal
is_equal Less h = cc
is_equal Equal h = refl
is_equal Greater h = cc

same_number : (n m : ℤ) → is_at (int_cmp n) m ≡ true → n ≡ m
same_number n m h = exact_signed n m (is_equal _ h)

pub own_number : (n : ℤ) → is_at (int_cmp n) n ≡ true
own_number n = ap is_eq (tied_itself int_cmp_total n)

pub other_number : (n m : ℤ) → (n ≡ m → ⊥) → is_at (int_cmp n) m ≡ false
other_number n m apart = elim (is_at (int_cmp n) m) as (λ b. is_at (int_cmp n) m ≡ b → b ≡ false) [
  | true ↦ λ h. absurd (apart (same_number n m h))
  | false ↦ λ h. refl
] refl

natural : ℤ → ℕ
natural (pos k) = k
natural (negsuc k) = zero

same_place : (j k : ℕ) → pos j ≡ pos k → j ≡ k
unfolding natural
same_place j k h = ap natural h

-- equal holdings are alike
pub like_same : (x y : Option Holding) → x ≡ y → AreLike x y
like_same x y h = (λ g. ap (λ o. min_max_in o g) (sym h), ap reserved_in (sym h))

-- lookups at a place of a list
pub get_past : {X : Type 0} (xs : List X) (k : ℕ) → length xs ≤ k → slice_get xs k ≡ None
get_past [] k l = refl
get_past (x ∷ xs) zero l = absurd (omega arith)
get_past (x ∷ xs) (suc k) l = get_past xs k (omega arith)

get_set_same : {X : Type 0} (xs : List X) (i : ℕ) (x : X) → i < length xs → slice_get (slice_set xs i x) i ≡ Some x
get_set_same [] i x l = absurd (omega arith)
get_set_same (y ∷ xs) zero x l = refl
get_set_same (y ∷ xs) (suc i) x l = get_set_same xs i x (omega arith)

get_set_other : {X : Type 0} (xs : List X) (i k : ℕ) (x : X) → (k ≡ i → ⊥) → slice_get (slice_set xs i x) k ≡ slice_get xs k
get_set_other [] i k x other = refl
get_set_other (y ∷ xs) zero zero x other = absurd (other refl)
get_set_other (y ∷ xs) zero (suc k) x other = refl
get_set_other (y ∷ xs) (suc i) zero x other = refl
get_set_other (y ∷ xs) (suc i) (suc k) x other = get_set_other xs i k x (λ e. other (ap suc e))

pub get_set : {X : Type 0} (xs : List X) (i k : ℕ) (x : X) → i < length xs → slice_get (slice_set xs i x) k ≡ cond (k == i) (Some x) (slice_get xs k)
get_set xs i k x l = elim (k == i) as (λ b. (k == i) ≡ b → slice_get (slice_set xs i x) k ≡ cond b (Some x) (slice_get xs k)) [
  | true ↦ λ e. let same : k ≡ i = grind (arith, nat_tests) in ap (slice_get (slice_set xs i x)) same ∙ get_set_same xs i x l
  | false ↦ λ e. get_set_other xs i k x (λ s. differ s e)
] refl where
  differ : k ≡ i → (k == i) ≡ false → ⊥
  differ s e = grind (arith, nat_tests)

placed_at : (first : ℕ) (hs : List Holding) (k : ℕ) → first ≤ k → number_at (placed first hs) (pos k) ≡ slice_get hs (k - first)
placed_at first [] k l = refl
placed_at first (h ∷ hs) k l = elim (is_at (int_cmp (pos k)) (pos first)) as (λ b. is_at (int_cmp (pos k)) (pos first) ≡ b → cond b (Some h) (number_at (placed (suc first) hs) (pos k)) ≡ slice_get (h ∷ hs) (k - first)) [
  | true ↦ λ e.
      let same = same_place k first (same_number (pos k) (pos first) e) in
      let none : 0 ≡ k - first = omega (arith, same) in
      ap (slice_get (h ∷ hs)) none
  | false ↦ λ e.
      let differ : k ≡ first → ⊥ = λ s. true≢false (sym (own_number (pos k)) ∙ ap (λ (m : ℕ). is_at (int_cmp (pos k)) (pos m)) s ∙ e) in
      let less : suc first ≤ k = omega (arith, l, differ) in
      let one : suc (k - suc first) ≡ k - first = omega (arith, less) in
      placed_at (suc first) hs k less ∙ ap (slice_get (h ∷ hs)) one
] refl

length_placed : (first : ℕ) (hs : List Holding) → length (placed first hs) ≡ length hs
length_placed first [] = refl
length_placed first (h ∷ hs) = ap suc (length_placed (suc first) hs)

-- a list and two trees have as many numbers as the three have entries
pub length_all : (b : Numbers) (s : List Holding) (a : Numbers)
    → length (numbers_in b s a) ≡ length b + (length s + length a)
length_all b s a =
    length-append b (placed 0 s ++ a)
    ∙ ap (λ n. length b + n) (length-append (placed 0 s) a ∙ ap (λ n. n + length a) (length_placed 0 s))

placed_under : (first : ℕ) (hs : List Holding) (k : ℕ) → number_at (placed first hs) (negsuc k) ≡ None
placed_under first [] k = refl
placed_under first (h ∷ hs) k =
    ap (λ b. cond b (Some h) (number_at (placed (suc first) hs) (negsuc k))) (other_number (negsuc k) (pos first) (λ e. omega (arith, ints, e)))
    ∙ placed_under (suc first) hs k

-- the first of two holdings, or the second one if there is no first
abbrev first_of : Option Holding → Option Holding → Option Holding
first_of None o = o
first_of (Some x) o = Some x

first_none : (o : Option Holding) → first_of o None ≡ o
first_none None = refl
first_none (Some x) = refl

at_append : (ms ns : Numbers) (n : ℤ) → number_at (ms ++ ns) n ≡ first_of (number_at ms n) (number_at ns n)
at_append [] ns n = refl
at_append (e ∷ ms) ns n = elim (is_at (int_cmp n) e.0) as (λ b. cond b (Some e.1) (number_at (ms ++ ns) n) ≡ first_of (cond b (Some e.1) (number_at ms n)) (number_at ns n)) [
  | true ↦ refl
  | false ↦ at_append ms ns n
]

at_all : (b : Numbers) (s : List Holding) (a : Numbers) (n : ℤ) → number_at (numbers_in b s a) n ≡ first_of (number_at b n) (first_of (number_at (placed 0 s) n) (number_at a n))
at_all b s a n = at_append b (placed 0 s ++ a) n ∙ ap (first_of (number_at b n)) (at_append (placed 0 s) a n)

-- each number is found in its part
pub at_below : (b : Numbers) (s : List Holding) (a : Numbers) (n : ℤ) → AreApart b s a → n <ℤ pos 0 → number_at (numbers_in b s a) n ≡ number_at b n
at_below b s a (pos k) apart l = absurd (omega (arith, ints, l))
at_below b s a (negsuc k) apart l =
    at_all b s a (negsuc k)
    ∙ (λ i. first_of (number_at b (negsuc k)) (first_of (placed_under 0 s k i) (apart.over (negsuc k) (omega (arith, ints)) i)))
    ∙ first_none (number_at b (negsuc k))

pub at_small : (b : Numbers) (s : List Holding) (a : Numbers) (k : ℕ) → AreApart b s a → k < 2048 → number_at (numbers_in b s a) (pos k) ≡ slice_get s k
at_small b s a k apart l =
    let whole : k - 0 ≡ k = omega arith in
    let here = placed_at 0 s k (omega arith) ∙ ap (slice_get s) whole in
    at_all b s a (pos k) ∙ (λ i. first_of (apart.under k i) (first_of (here i) (apart.over (pos k) (omega (arith, ints, l)) i))) ∙ first_none (slice_get s k)

pub at_above : (b : Numbers) (s : List Holding) (a : Numbers) (n : ℤ) → AreApart b s a → pos 2048 ≤ℤ n → number_at (numbers_in b s a) n ≡ number_at a n
at_above b s a (pos k) apart l =
    let whole : k - 0 ≡ k = omega arith in
    let high : 2048 ≤ k = omega (arith, ints, l) in
    let gone = placed_at 0 s k (omega arith) ∙ ap (slice_get s) whole ∙ get_past s k (omega (arith, high, apart.few)) in
    at_all b s a (pos k) ∙ (λ i. first_of (apart.under k i) (first_of (gone i) (number_at a (pos k))))
at_above b s a (negsuc k) apart l = absurd (omega (arith, ints, l))

pub part : (n : ℤ) → (n <ℤ pos 0) ⊎ ((k : ℕ) × (n ≡ pos k) × (k < 2048)) ⊎ (pos 2048 ≤ℤ n)
part (negsuc k) = inl (omega (arith, ints))
part (pos k) = elim (side k 2048) [ inl l ↦ inr (inl (k, refl, l)) | inr l ↦ inr (inr (omega (arith, ints, l))) ] where
  side : (j n : ℕ) → (j < n) ⊎ (n ≤ j)
  side zero zero = inr (omega arith)
  side zero (suc n) = inl (omega arith)
  side (suc j) zero = inr (omega arith)
  side (suc j) (suc n) = elim (side j n) [ inl l ↦ inl (omega arith) | inr l ↦ inr (omega arith) ]

-- a relation that holds between the parts holds between the wholes
pub lifted : (R : ℤ → Option Holding → Option Holding → Type 0) (b : Numbers) (s : List Holding) (a b' : Numbers) (s' : List Holding) (a' : Numbers) → AreApart b s a → AreApart b' s' a'
    → ((n : ℤ) → n <ℤ pos 0 → R n (number_at b n) (number_at b' n)) → ((k : ℕ) → k < 2048 → R (pos k) (slice_get s k) (slice_get s' k)) → ((n : ℤ) → pos 2048 ≤ℤ n → R n (number_at a n) (number_at a' n))
    → (n : ℤ) → R n (number_at (numbers_in b s a) n) (number_at (numbers_in b' s' a') n)
lifted R b s a b' s' a' apart apart' below small above n = elim (part n) [
  | inl l ↦ subst (λ (both : Option Holding × Option Holding). R n both.0 both.1) (λ i. (sym (at_below b s a n apart l) i, sym (at_below b' s' a' n apart' l) i)) (below n l)
  | inr (inl (k, is, l)) ↦ subst (λ (m : ℤ). R m (number_at (numbers_in b s a) m) (number_at (numbers_in b' s' a') m)) (sym is)
      (subst (λ (both : Option Holding × Option Holding). R (pos k) both.0 both.1) (λ i. (sym (at_small b s a k apart l) i, sym (at_small b' s' a' k apart' l) i)) (small k l))
  | inr (inr l) ↦ subst (λ (both : Option Holding × Option Holding). R n both.0 both.1) (λ i. (sym (at_above b s a n apart l) i, sym (at_above b' s' a' n apart' l) i)) (above n l)
]

-- changing a tree at a number of its part
pub apart_below : (b : Numbers) (s : List Holding) (a b' : Numbers) (n : ℤ) → AreApart b s a → n <ℤ pos 0 → KeepsOtherNumbers b n b' → AreApart b' s a
apart_below b s a b' n apart l others = record {
  under = λ k. others (pos k) (other_number n (pos k) (λ e. omega (arith, ints, e, l))) ∙ apart.under k;
  few = apart.few;
  over = apart.over;
}

pub apart_above : (b : Numbers) (s : List Holding) (a a' : Numbers) (n : ℤ) → AreApart b s a → pos 2048 ≤ℤ n → KeepsOtherNumbers a n a' → AreApart b s a'
apart_above b s a a' n apart l others = record {
  under = apart.under;
  few = apart.few;
  over = λ m less. others m (other_number n m (λ e. omega (arith, ints, e, l, less))) ∙ apart.over m less;
}

pub apart_small : (b : Numbers) (s : List Holding) (a : Numbers) (s' : List Holding) → AreApart b s a → length s' ≤ 2048 → AreApart b s' a
apart_small b s a s' apart l = record { under = apart.under; few = l; over = apart.over }

-- setting a number keeps all other numbers
pub set_keeps : (ns : Numbers) (n : ℤ) (o : Option Holding) (ms : Numbers) → IsSetAt ns n o ms → KeepsOtherNumbers ns n ms
set_keeps ns n o ms set m other = set m ∙ ap (λ b. cond b o (number_at ns m)) other

-- a number that is not set is unchanged
pub unset : (n m : ℤ) (o x : Option Holding) → (n ≡ m → ⊥) → x ≡ cond (is_at (int_cmp n) m) o x
unset n m o x other = sym (ap (λ b. cond b o x) (other_number n m other))

-- setting a holding in the tree of the numbers below 0, in the tree of the numbers above the list, or in the list
pub set_below : (b : Numbers) (s : List Holding) (a b' : Numbers) (n : ℤ) (o : Option Holding) → AreApart b s a → n <ℤ pos 0 → IsSetAt b n o b' → IsSetAt (numbers_in b s a) n o (numbers_in b' s a)
set_below b s a b' n o apart l set = lifted (λ m x y. y ≡ cond (is_at (int_cmp n) m) o x) b s a b' s a apart (apart_below b s a b' n apart l (set_keeps b n o b' set))
    (λ m k. set m) (λ k less. unset n (pos k) o (slice_get s k) (λ e. omega (arith, ints, e, l))) (λ m high. unset n m o (number_at a m) (λ e. omega (arith, ints, e, l, high)))

pub set_above : (b : Numbers) (s : List Holding) (a a' : Numbers) (n : ℤ) (o : Option Holding) → AreApart b s a → pos 2048 ≤ℤ n → IsSetAt a n o a' → IsSetAt (numbers_in b s a) n o (numbers_in b s a')
set_above b s a a' n o apart l set = lifted (λ m x y. y ≡ cond (is_at (int_cmp n) m) o x) b s a b s a' apart (apart_above b s a a' n apart l (set_keeps a n o a' set))
    (λ m low. unset n m o (number_at b m) (λ e. omega (arith, ints, e, l, low))) (λ k less. unset n (pos k) o (slice_get s k) (λ e. omega (arith, ints, e, l, less))) (λ m high. set m)

-- comparing places is comparing their numbers
pub place_test : (j k : ℕ) → (k == j) ≡ is_at (int_cmp (pos j)) (pos k)
place_test j k = elim (k == j) as (λ b. (k == j) ≡ b → b ≡ is_at (int_cmp (pos j)) (pos k)) [
  | true ↦ λ e. let same : j ≡ k = grind (arith, nat_tests) in sym (own_number (pos j)) ∙ ap (λ (m : ℕ). is_at (int_cmp (pos j)) (pos m)) same
  | false ↦ λ e. sym (other_number (pos j) (pos k) (λ s. let same = same_place j k s in differ same e))
] refl where
  differ : j ≡ k → (k == j) ≡ false → ⊥
  differ s e = grind (arith, nat_tests)

pub set_small : (b : Numbers) (s : List Holding) (a : Numbers) (j : ℕ) (x : Holding) → AreApart b s a → j < 2048 → j < length s → length (slice_set s j x) ≤ 2048 → IsSetAt (numbers_in b s a) (pos j) (Some x) (numbers_in b (slice_set s j x) a)
set_small b s a j x apart l within few = lifted (λ m y z. z ≡ cond (is_at (int_cmp (pos j)) m) (Some x) y) b s a b (slice_set s j x) a apart (apart_small b s a (slice_set s j x) apart few)
    (λ m low. unset (pos j) m (Some x) (number_at b m) (λ e. omega (arith, ints, e, low)))
    (λ k less. get_set s j k x within ∙ ap (λ t. cond t (Some x) (slice_get s k)) (place_test j k))
    (λ m high. unset (pos j) m (Some x) (number_at a m) (λ e. omega (arith, ints, e, l, high)))

nothing_there : (o : Option Holding) → is_some o ≡ false → o ≡ None
nothing_there None h = refl
nothing_there (Some x) h = cc

-- nothing is there if nothing was there and nothing is new
pub gone_from : (new old : Option Holding) → (IsSome new → IsSome old) → old ≡ None → new ≡ None
gone_from None old h none = refl
gone_from (Some x) old h none = absurd (true≢false (sym (h refl) ∙ ap is_some none))

has : ℤ → List ℤ → Bool
has n [] = false
has n (k ∷ ks) = is_at (int_cmp n) k || has n ks

has_key : (ns : Numbers) (n : ℤ) → is_some (number_at ns n) ≡ has n (keys_of ns)
unfolding has
has_key [] n = refl
has_key (e ∷ ns) n = elim (is_at (int_cmp n) e.0) as (λ b. is_some (cond b (Some e.1) (number_at ns n)) ≡ (b || has n (keys_of ns))) [ true ↦ refl | false ↦ has_key ns n ]

-- numbers with the same keys have no new number
pub keyless : (ns ms : Numbers) → keys_of ms ≡ keys_of ns → (n : ℤ) → number_at ns n ≡ None → number_at ms n ≡ None
keyless ns ms keys n none = nothing_there (number_at ms n) (has_key ms n ∙ ap (has n) keys ∙ sym (has_key ns n) ∙ ap is_some none)

-- a number that is set is put
pub set_put : (ns : Numbers) (n : ℤ) (o : Option Holding) (ms : Numbers) → IsSetAt ns n o ms → IsNumberPut ns n o ms
set_put ns n o ms set m = like_same _ _ (sym (set m))

-- putting a holding into the list
pub put_small : (b : Numbers) (s : List Holding) (a : Numbers) (s' : List Holding) (j : ℕ) (x : Holding) → AreApart b s a → j < 2048 → length s' ≤ 2048 → IsPlacePut s j x s' → IsNumberPut (numbers_in b s a) (pos j) (Some x) (numbers_in b s' a)
put_small b s a s' j x apart l few put = lifted (λ m y z. AreLike (cond (is_at (int_cmp (pos j)) m) (Some x) y) z) b s a b s' a apart (apart_small b s a s' apart few)
    (λ m low. like_same _ _ (sym (unset (pos j) m (Some x) (number_at b m) (λ e. omega (arith, ints, e, low)))))
    (λ k less. subst (λ t. AreLike (cond t (Some x) (slice_get s k)) (slice_get s' k)) (place_test j k) (put k))
    (λ m high. like_same _ _ (sym (unset (pos j) m (Some x) (number_at a m) (λ e. omega (arith, ints, e, l, high)))))

-- replacing the list by one that is alike
pub like_small : (b : Numbers) (s : List Holding) (a : Numbers) (s' : List Holding) → AreApart b s a → length s' ≤ 2048 → ArePlacesLike s s' → AreNumbersLike (numbers_in b s a) (numbers_in b s' a)
like_small b s a s' apart few like = lifted (λ m y z. AreLike y z) b s a b s' a apart (apart_small b s a s' apart few)
    (λ m low. like_same (number_at b m) (number_at b m) refl) (λ k less. like k) (λ m high. like_same (number_at a m) (number_at a m) refl)

vacant_like : (o : Option Holding) → IsVacant o → AreLike None o
vacant_like None v = like_same None None refl
vacant_like (Some h) v = (λ g. ap (λ l. at l g) v.0, ap (λ b. cond b (Some true) None) v.1)

-- a vacant holder may stay
pub vacant_goes : (ns : Numbers) (n : ℤ) → IsVacant (number_at ns n) → IsNumberPut ns n None ns
vacant_goes ns n vacant m = elim (is_at (int_cmp n) m) as (λ b. is_at (int_cmp n) m ≡ b → AreLike (cond b None (number_at ns m)) (number_at ns m)) [
  | true ↦ λ e. vacant_like (number_at ns m) (subst (λ (k : ℤ). IsVacant (number_at ns k)) (same_number n m e) vacant)
  | false ↦ λ e. like_same (number_at ns m) (number_at ns m) refl
] refl

-- a number of one part
pub get_within : {X : Type 0} (xs : List X) (i : ℕ) (y : X) → i < length xs → y ≡ get_or xs i y → slice_get xs i ≡ Some y
get_within [] i y l e = absurd (omega arith)
get_within (x ∷ xs) zero y l e = ap Some (sym e)
get_within (x ∷ xs) (suc i) y l e = get_within xs i y (omega arith) e

pub within_some : {X : Type 0} (xs : List X) (i : ℕ) → IsSome (slice_get xs i) → i < length xs
within_some [] i h = absurd (true≢false (sym h))
within_some (x ∷ xs) zero h = omega arith
within_some (x ∷ xs) (suc i) h = let less = within_some xs i h in omega (arith, less)

-- the item that `get_mut` of a list finds
pub item_mut : {X : Type 0} (r : Option (MutBor X)) (xs : List X) (i : ℕ) → MatchOption r (length xs ≤ i) (λ x. (i < length xs) × HoldsAt (λ y. x.now ≡ y) xs i) → IfSome r (λ x. x.now ≡ get_or xs i x.now) → option_copied_mut r ≡ slice_get xs i
item_mut None xs i past is = sym (get_past xs i past)
item_mut (Some x) xs i within is = sym (get_within xs i x.now within.0 is)

-- setting a place of a list that grew
pub put_place : (old grown : List Holding) (j : ℕ) (x : Holding) → ArePlacesLike old grown → j < length grown → IsPlacePut old j x (slice_set grown j x)
put_place old grown j x like l k = subst (AreLike (cond (k == j) (Some x) (slice_get old k))) (sym (get_set grown j k x l))
    (elim (k == j) as (λ b. AreLike (cond b (Some x) (slice_get old k)) (cond b (Some x) (slice_get grown k))) [ true ↦ like_same (Some x) (Some x) refl | false ↦ like k ])
