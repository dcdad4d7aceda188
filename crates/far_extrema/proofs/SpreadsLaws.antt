-- The min-maxes of the row groups of two parts, and the joined min-max of both.
use Rattle.std.proofs.Common.{◌≡◌, ℕ, zero, suc, ◌<◌, ◌≤◌, ◌+◌, ◌==◌, true, false, cond, [], ◌∷◌, ◌++◌, refl, sym, ap, ◌∙◌, arith, Option, None, Some, ◌⊎◌, inl, inr}
use Rattle.std.specs.Prelude.{ℤ}
use Rattle.std.specs.Int.{int_min, int_max}
use Rattle.std.proofs.lemmas.Int.{ints, int_min_is, int_max_is}
use Rattle.std.proofs.lemmas.Bool.Decides.{nat_tests}
use Rattle.far_types.specs.Effects.{join_min_maxes, merge_two}
use Rattle.far_extrema.specs.Spreads.{MinMaxes, at, IsFrom, IsBelow, IsTopOf, IsSet, AreSame, joined_to}

min_swap : (x y : ℤ) → int_min x y ≡ int_min y x
min_swap x y = omega (arith, ints, int_min_is x y, int_min_is y x)

max_swap : (x y : ℤ) → int_max x y ≡ int_max y x
max_swap x y = omega (arith, ints, int_max_is x y, int_max_is y x)

min_regroup : (x y z : ℤ) → int_min (int_min x y) z ≡ int_min x (int_min y z)
min_regroup x y z = omega (arith, ints, int_min_is x y, int_min_is (int_min x y) z, int_min_is y z, int_min_is x (int_min y z))

max_regroup : (x y z : ℤ) → int_max (int_max x y) z ≡ int_max x (int_max y z)
max_regroup x y z = omega (arith, ints, int_max_is x y, int_max_is (int_max x y) z, int_max_is y z, int_max_is x (int_max y z))

join_swap : (s t : ℤ × ℤ) → join_min_maxes s t ≡ join_min_maxes t s
join_swap s t = λ i. (min_swap s.0 t.0 i, max_swap s.1 t.1 i)

join_regroup : (s t u : ℤ × ℤ) → join_min_maxes (join_min_maxes s t) u ≡ join_min_maxes s (join_min_maxes t u)
join_regroup s t u = λ i. (min_regroup s.0 t.0 u.0 i, max_regroup s.1 t.1 u.1 i)

pub swap : (o p : Option (ℤ × ℤ)) → merge_two join_min_maxes o p ≡ merge_two join_min_maxes p o
swap None None = refl
swap None (Some t) = refl
swap (Some s) None = refl
swap (Some s) (Some t) = ap Some (join_swap s t)

pub regroup : (o p q : Option (ℤ × ℤ)) → merge_two join_min_maxes (merge_two join_min_maxes o p) q ≡ merge_two join_min_maxes o (merge_two join_min_maxes p q)
regroup None p q = refl
regroup (Some s) None q = refl
regroup (Some s) (Some t) None = refl
regroup (Some s) (Some t) (Some u) = ap Some (join_regroup s t u)

-- of four min-maxes that are joined, the middle two can be swapped
pub exchange : (o p q r : Option (ℤ × ℤ)) → merge_two join_min_maxes (merge_two join_min_maxes o p) (merge_two join_min_maxes q r) ≡ merge_two join_min_maxes (merge_two join_min_maxes o q) (merge_two join_min_maxes p r)
exchange o p q r =
    regroup o p (merge_two join_min_maxes q r)
    ∙ ap (merge_two join_min_maxes o) (sym (regroup p q r) ∙ ap (λ x. merge_two join_min_maxes x r) (swap p q) ∙ regroup q p r)
    ∙ sym (regroup o q (merge_two join_min_maxes p r))

-- the first of two min-maxes, or the second one if there is no first
abbrev pub first_of : Option (ℤ × ℤ) → Option (ℤ × ℤ) → Option (ℤ × ℤ)
first_of None p = p
first_of (Some s) p = Some s

pub at-append : (xs ys : MinMaxes) (q : ℕ) → at (xs ++ ys) q ≡ first_of (at xs q) (at ys q)
at-append [] ys q = refl
at-append (x ∷ xs) ys q =
    elim (q == x.0) as (λ b. cond b (Some x.1) (at (xs ++ ys) q) ≡ first_of (cond b (Some x.1) (at xs q)) (at ys q)) [
      | true ↦ refl
      | false ↦ at-append xs ys q
    ]

pub first_none : (o : Option (ℤ × ℤ)) → first_of o None ≡ o
first_none None = refl
first_none (Some s) = refl

-- before the number where two parts meet, lookups find the min-maxes of the first part
pub at-before : (s : ℕ) (xs ys : MinMaxes) (q : ℕ) → IsFrom s ys → q < s → at (xs ++ ys) q ≡ at xs q
at-before s xs ys q h l = at-append xs ys q ∙ ap (first_of (at xs q)) (h q l) ∙ first_none (at xs q)

-- from that number on, lookups find the min-maxes of the second part
pub at-after : (s : ℕ) (xs ys : MinMaxes) (q : ℕ) → IsBelow s xs → s ≤ q → at (xs ++ ys) q ≡ at ys q
at-after s xs ys q h l = at-append xs ys q ∙ ap (λ o. first_of o (at ys q)) (h q l)

pub both_none : (o p : Option (ℤ × ℤ)) → first_of o p ≡ None → (o ≡ None) × (p ≡ None)
both_none None p h = (refl, h)
both_none (Some s) p h = cc

pub below-both : (n : ℕ) (xs ys : MinMaxes) → IsBelow n (xs ++ ys) → IsBelow n xs × IsBelow n ys
below-both n xs ys h = (λ q l. (both_none _ _ (sym (at-append xs ys q) ∙ h q l)).0, λ q l. (both_none _ _ (sym (at-append xs ys q) ∙ h q l)).1)

pub order : (m n : ℕ) → (m < n) ⊎ (n ≤ m)
order m zero = inr (omega arith)
order zero (suc n) = inl (omega arith)
order (suc m) (suc n) = elim (order m n) [ inl l ↦ inl (omega arith) | inr l ↦ inr (omega arith) ]

-- where two parts meet at a number, a lookup finds the min-maxes of both parts, joined
at_both : (s : ℕ) (xs ys : MinMaxes) (q : ℕ) → IsBelow s xs → IsFrom s ys → at (xs ++ ys) q ≡ merge_two join_min_maxes (at xs q) (at ys q)
at_both s xs ys q h k = at-append xs ys q ∙ disjoint (at xs q) (at ys q) either where
  disjoint : (o p : Option (ℤ × ℤ)) → (o ≡ None) ⊎ (p ≡ None) → first_of o p ≡ merge_two join_min_maxes o p
  disjoint None p e = refl
  disjoint (Some s) None e = refl
  disjoint (Some s) (Some t) (inl e) = cc
  disjoint (Some s) (Some t) (inr e) = cc

  either : (at xs q ≡ None) ⊎ (at ys q ≡ None)
  either = elim (order q s) [
    | inl l ↦ inr (k q l)
    | inr l ↦ inl (h q l)
  ]

joined_both : (s : ℕ) (xs ys : MinMaxes) → IsBelow s xs → IsFrom s ys → (n : ℕ) → joined_to n (at (xs ++ ys)) ≡ merge_two join_min_maxes (joined_to n (at xs)) (joined_to n (at ys))
joined_both s xs ys h k zero = refl
joined_both s xs ys h k (suc n) =
    (λ i. merge_two join_min_maxes (joined_both s xs ys h k n i) (at_both s xs ys n h k i))
    ∙ exchange (joined_to n (at xs)) (joined_to n (at ys)) (at xs n) (at ys n)

-- the joined min-max of both parts
pub top-both : (s : ℕ) (xs ys : MinMaxes) (a b : Option (ℤ × ℤ)) → IsBelow s xs → IsFrom s ys → IsTopOf xs a → IsTopOf ys b → IsTopOf (xs ++ ys) (merge_two join_min_maxes a b)
top-both s xs ys a b h k t u n w =
    let both = below-both n xs ys w in
    joined_both s xs ys h k n ∙ (λ i. merge_two join_min_maxes (t n both.0 i) (u n both.1 i))

none_to : (g : ℕ) (x : ℤ × ℤ) (n : ℕ) → n ≤ g → joined_to n (at ((g, x) ∷ [])) ≡ None
none_to g x zero l = refl
none_to g x (suc n) l =
    let distinct : (n == g) ≡ false = grind (arith, nat_tests) in
    (λ i. merge_two join_min_maxes (none_to g x n (omega arith) i) (cond (distinct i) (Some x) None))

one_to : (g : ℕ) (x : ℤ × ℤ) (n : ℕ) → g < n → joined_to n (at ((g, x) ∷ [])) ≡ Some x
one_to g x zero l = absurd (omega arith)
one_to g x (suc n) l = elim (n == g) as (λ b. (n == g) ≡ b → merge_two join_min_maxes (joined_to n (at ((g, x) ∷ []))) (cond b (Some x) None) ≡ Some x) [
  | true ↦ λ e. ap (λ o. merge_two join_min_maxes o (Some x)) (none_to g x n (grind (arith, nat_tests)))
  | false ↦ λ e. ap (λ o. merge_two join_min_maxes o None) (one_to g x n (grind (arith, nat_tests)))
] refl

some_none : (x : ℤ × ℤ) → Some x ≡ None → ⊥
some_none x h = cc

-- the joined min-max of one row group is its own min-max
pub top-one : (g : ℕ) (x : ℤ × ℤ) → IsTopOf ((g, x) ∷ []) (Some x)
top-one g x n w = one_to g x n (within n w) where
  own : (g == g) ≡ true
  own = grind (arith, nat_tests)

  within : (n : ℕ) → IsBelow n ((g, x) ∷ []) → g < n
  within n w = elim (order g n) [
    | inl l ↦ l
    | inr l ↦ absurd (some_none x (sym (ap (λ b. cond b (Some x) None) own) ∙ w g l))
  ]

pub here : (q g : ℕ) → (q == g) ≡ true → q ≡ g
here q g e = grind (arith, nat_tests)

pub off : (q g : ℕ) → (q ≡ g → ⊥) → (q == g) ≡ false
off q g n = grind (arith, nat_tests)

-- a row group that is not set is unchanged
pub set_other : (xs xs' : MinMaxes) (g : ℕ) (o : Option (ℤ × ℤ)) (q : ℕ) → IsSet xs g o xs' → (q ≡ g → ⊥) → at xs' q ≡ at xs q
set_other xs xs' g o q set n = set q ∙ ap (λ b. cond b o (at xs q)) (off q g n)

pub set_here : (xs xs' : MinMaxes) (g : ℕ) (o : Option (ℤ × ℤ)) (q : ℕ) → IsSet xs g o xs' → q ≡ g → at xs' q ≡ o
set_here xs xs' g o q set e =
    let own : (q == g) ≡ true = grind (arith, nat_tests) in
    set q ∙ ap (λ b. cond b o (at xs q)) own

pub from-set : (low : ℕ) (xs xs' : MinMaxes) (g : ℕ) (o : Option (ℤ × ℤ)) → IsFrom low xs → low ≤ g → IsSet xs g o xs' → IsFrom low xs'
from-set low xs xs' g o h l set q k = set_other xs xs' g o q set (λ e. omega arith) ∙ h q k

pub below-set : (high : ℕ) (xs xs' : MinMaxes) (g : ℕ) (o : Option (ℤ × ℤ)) → IsBelow high xs → g < high → IsSet xs g o xs' → IsBelow high xs'
below-set high xs xs' g o h l set q k = set_other xs xs' g o q set (λ e. omega arith) ∙ h q k

-- a row group in which a key occurs is not before the first one
pub held-from : (low : ℕ) (xs : MinMaxes) (g : ℕ) → IsFrom low xs → (at xs g ≡ None → ⊥) → low ≤ g
held-from low xs g h held = elim (order g low) [ inl l ↦ absurd (held (h g l)) | inr l ↦ l ]

pub held-below : (high : ℕ) (xs : MinMaxes) (g : ℕ) → IsBelow high xs → (at xs g ≡ None → ⊥) → g < high
held-below high xs g h held = elim (order g high) [ inl l ↦ l | inr l ↦ absurd (held (h g l)) ]

none_of : (o p : Option (ℤ × ℤ)) → merge_two join_min_maxes o p ≡ None → (o ≡ None) × (p ≡ None)
none_of None p h = (refl, h)
none_of (Some s) None h = cc
none_of (Some s) (Some t) h = cc

none_below : (f : ℕ → Option (ℤ × ℤ)) (n : ℕ) → joined_to n f ≡ None → (q : ℕ) → q < n → f q ≡ None
none_below f zero h q l = absurd (omega arith)
none_below f (suc n) h q l =
    let both = none_of (joined_to n f) (f n) h in
    elim (order q n) [
      | inl m ↦ none_below f n both.0 q m
      | inr m ↦ let e : q ≡ n = omega arith in ap f e ∙ both.1
    ]

-- from some number on, there are no row groups
pub bounded : (xs : MinMaxes) → (n : ℕ) × IsBelow n xs
bounded [] = (0, λ q l. refl)
bounded (x ∷ xs) =
    let rest = bounded xs in (
      x.0 + 1 + rest.0,
      λ q l. ap (λ b. cond b (Some x.1) (at xs q)) (off q x.0 (λ e. omega arith)) ∙ rest.1 q (omega arith),
    )

-- without a joined min-max there are no row groups
pub vacant : (xs : MinMaxes) → IsTopOf xs None → (q : ℕ) → at xs q ≡ None
vacant xs t q =
    let n = (bounded xs).0 in
    elim (order q n) [
      | inl l ↦ none_below (at xs) n (t n (bounded xs).1) q l
      | inr l ↦ (bounded xs).1 q l
    ]

-- a part without row groups changes nothing
pub without-before : (xs ys : MinMaxes) → IsTopOf xs None → AreSame (xs ++ ys) ys
without-before xs ys t q = sym (at-append xs ys q ∙ ap (λ o. first_of o (at ys q)) (vacant xs t q))

pub without-after : (xs ys : MinMaxes) → IsTopOf ys None → AreSame (xs ++ ys) xs
without-after xs ys t q = sym (at-append xs ys q ∙ ap (first_of (at xs q)) (vacant ys t q) ∙ first_none (at xs q))

-- if no row group is left after a removal, the result is an empty list
pub gone-last : (old new : MinMaxes) (g : ℕ) → IsSet old g None new → IsTopOf new None → IsSet old g None []
gone-last old new g set t q = sym (vacant new t q) ∙ set q

-- setting the min-max that is there already changes nothing
pub put-again : (xs : MinMaxes) (g : ℕ) (x : ℤ × ℤ) → at xs g ≡ Some x → IsSet xs g (Some x) xs
put-again xs g x there q = elim (q == g) as (λ b. (q == g) ≡ b → at xs q ≡ cond b (Some x) (at xs q)) [
  | true ↦ λ e. ap (at xs) (here q g e) ∙ there
  | false ↦ λ e. refl
] refl

-- a list without a joined min-max is empty
pub empty_of : (xs : MinMaxes) → IsTopOf xs None → xs ≡ []
empty_of [] t = refl
empty_of (x ∷ xs) t =
    let own : (x.0 == x.0) ≡ true = grind (arith, nat_tests) in
    let none : Some x.1 ≡ None = sym (ap (λ b. cond b (Some x.1) (at xs x.0)) own) ∙ vacant (x ∷ xs) t x.0 in
    absurd (some_none x.1 none)
