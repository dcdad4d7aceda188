-- How the row groups of a run change, and their joined min-max.
use Rattle.std.proofs.Common.{◌≡◌, ℕ, zero, suc, ◌<◌, ◌≤◌, ◌+◌, ◌==◌, true, false, cond, [], ◌∷◌, List, refl, sym, ap, ◌∙◌, arith, Option, None, Some, inl, inr, subst, length, get_or, set, take, drop, ◌++◌, ◌-◌, length-drop, Result, Ok, Err, IfOk, IfErr}
use Rattle.std.specs.Prelude.{ℤ, pos, is_ok, is_err, ◌≤ℤ◌, ◌<ℤ◌}
use Rattle.std.specs.Int.{int_min, int_max}
use Rattle.std.specs.List.{insert, remove}
use Rattle.std.specs.List.Sorted.{IsSearchInRange, IsBinarySearchResult, IsNonDecreasingBy}
use Rattle.std.specs.Ordering.{nat_cmp, ordering_index}
use Rattle.std.proofs.lemmas.Cmp.{ranked}
use Rattle.std.proofs.lemmas.List.Sorted.{IsNonDecreasingBy-from_default}
use Rattle.std.proofs.lemmas.List.{length-set, append-nil}
use Rattle.std.proofs.Math.Seq.{take-length}
use Rattle.std.proofs.lemmas.List.Edits.{length-insert, length-remove}
use Rattle.std.proofs.lemmas.Int.{ints, int_min_is, int_max_is}
use Rattle.std.proofs.lemmas.Bool.Decides.{nat_tests}
use Rattle.far_types.specs.Effects.{join_min_maxes, merge_two}
use Rattle.far_extrema.specs.Spreads.{MinMaxes, at, IsBelow, IsTopOf, IsSet, joined_to}
use Rattle.far_extrema.specs.Runs.{RunState, paired, RiseFrom, AreInOrder, IsAt, IsGap, IsKept, IsCut, joined_values}
use Rattle.far_extrema.proofs.SpreadsLaws.{swap, regroup, off, here, order, set_other, set_here, held-from, held-below}

-- ascending row groups are not before their lower bound
pub floor : (low : ℕ) (gs : List ℕ) (i : ℕ) → RiseFrom low gs → i < length gs → low ≤ get_or gs i 0
floor low [] i r l = absurd (omega arith)
floor low (g ∷ gs) zero r l = r.0
floor low (g ∷ gs) (suc i) r l = let h = floor (g + 1) gs i r.1 (omega arith) in omega (arith, r.0, h)

pub rises : (low : ℕ) (gs : List ℕ) (i j : ℕ) → RiseFrom low gs → i ≤ j → j < length gs → get_or gs i 0 ≤ get_or gs j 0
rises low [] i j r l m = absurd (omega arith)
rises low (g ∷ gs) zero zero r l m = omega arith
rises low (g ∷ gs) zero (suc j) r l m = let h = floor (g + 1) gs j r.1 (omega arith) in omega (arith, h)
rises low (g ∷ gs) (suc i) zero r l m = absurd (omega arith)
rises low (g ∷ gs) (suc i) (suc j) r l m = rises (g + 1) gs i j r.1 (omega arith) (omega arith)

pub lower : (low less : ℕ) (gs : List ℕ) → less ≤ low → RiseFrom low gs → RiseFrom less gs
lower low less [] l r = tt
lower low less (g ∷ gs) l r = (omega (arith, l, r.0), r.1)

-- a row group that is not in the list has no min-max
pub absent : (gs : List ℕ) (xs : List (ℤ × ℤ)) (q : ℕ) → ((k : ℕ) → k < length gs → get_or gs k 0 ≡ q → ⊥) → at (paired gs xs) q ≡ None
absent [] xs q h = refl
absent (g ∷ gs) [] q h = refl
absent (g ∷ gs) (x ∷ xs) q h = ap (λ b. cond b (Some x) (at (paired gs xs) q)) (off q g (λ e. h 0 (omega arith) (sym e))) ∙ absent gs xs q (λ k l. h (suc k) (omega arith))

absent_below : (low : ℕ) (gs : List ℕ) (xs : List (ℤ × ℤ)) (q : ℕ) → RiseFrom low gs → q < low → at (paired gs xs) q ≡ None
absent_below low gs xs q r l = absent gs xs q (λ k m e. let h = floor low gs k r m in omega (arith, h, e, l))

-- the min-max at an index
pub found : (low : ℕ) (gs : List ℕ) (xs : List (ℤ × ℤ)) (i q : ℕ) (d : ℤ × ℤ) → RiseFrom low gs → length xs ≡ length gs → i < length gs → get_or gs i 0 ≡ q → at (paired gs xs) q ≡ Some (get_or xs i d)
found low [] xs i q d r n l e = absurd (omega arith)
found low (g ∷ gs) [] i q d r n l e = absurd (omega arith)
found low (g ∷ gs) (x ∷ xs) zero q d r n l e = let own : (q == g) ≡ true = grind (arith, nat_tests) in ap (λ b. cond b (Some x) (at (paired gs xs) q)) own
found low (g ∷ gs) (x ∷ xs) (suc i) q d r n l e =
    let above = floor (g + 1) gs i r.1 (omega arith) in
    ap (λ b. cond b (Some x) (at (paired gs xs) q)) (off q g (λ s. omega (arith, s, e, above)))
    ∙ found (g + 1) gs xs i q d r.1 (omega arith) (omega arith) e

-- the order of two tests for different row groups does not matter
either_first : (q g h : ℕ) (x y o : Option (ℤ × ℤ)) → (g ≡ h → ⊥) → cond (q == g) x (cond (q == h) y o) ≡ cond (q == h) y (cond (q == g) x o)
either_first q g h x y o n = elim (q == g) as (λ b. (q == g) ≡ b → cond b x (cond (q == h) y o) ≡ cond (q == h) y (cond b x o)) [
  | true ↦ λ e. sym (ap (λ b. cond b y x) (off q h (λ s. n (sym (here q g e) ∙ s))))
  | false ↦ λ e. refl
] refl

twice : (q g : ℕ) (x y o : Option (ℤ × ℤ)) → cond (q == g) x o ≡ cond (q == g) x (cond (q == g) y o)
twice q g x y o = elim (q == g) as (λ b. cond b x o ≡ cond b x (cond b y o)) [ true ↦ refl | false ↦ refl ]

-- setting a min-max
pub set_at : (low : ℕ) (gs : List ℕ) (xs : List (ℤ × ℤ)) (i g : ℕ) (x : ℤ × ℤ) → RiseFrom low gs → length xs ≡ length gs → i < length gs → get_or gs i 0 ≡ g → IsSet (paired gs xs) g (Some x) (paired gs (set xs i x))
set_at low [] xs i g x r n l e q = absurd (omega arith)
set_at low (h ∷ gs) [] i g x r n l e q = absurd (omega arith)
set_at low (h ∷ gs) (y ∷ xs) zero g x r n l e q =
    twice q h (Some x) (Some y) (at (paired gs xs) q) ∙ ap (λ k. cond (q == k) (Some x) (cond (q == h) (Some y) (at (paired gs xs) q))) e
set_at low (h ∷ gs) (y ∷ xs) (suc i) g x r n l e q =
    let above = floor (h + 1) gs i r.1 (omega arith) in
    ap (cond (q == h) (Some y)) (set_at (h + 1) gs xs i g x r.1 (omega arith) (omega arith) e q)
    ∙ either_first q h g (Some y) (Some x) (at (paired gs xs) q) (λ s. omega (arith, s, e, above))

-- inserting a row group
pub set_insert : (gs : List ℕ) (xs : List (ℤ × ℤ)) (i g : ℕ) (x : ℤ × ℤ) → length xs ≡ length gs → i ≤ length gs → ((k : ℕ) → k < i → get_or gs k 0 < g) → IsSet (paired gs xs) g (Some x) (paired (insert gs i g) (insert xs i x))
set_insert gs xs zero g x n l h q = refl
set_insert [] xs (suc i) g x n l h q = absurd (omega arith)
set_insert (k ∷ gs) [] (suc i) g x n l h q = absurd (omega arith)
set_insert (k ∷ gs) (y ∷ xs) (suc i) g x n l h q =
    let less : k < g = h 0 (omega arith) in
    ap (cond (q == k) (Some y)) (set_insert gs xs i g x (omega arith) (omega arith) (λ m s. h (suc m) (omega arith)) q)
    ∙ either_first q k g (Some y) (Some x) (at (paired gs xs) q) (λ s. omega (arith, s, less))

-- removing a row group
pub set_remove : (low : ℕ) (gs : List ℕ) (xs : List (ℤ × ℤ)) (i g : ℕ) → RiseFrom low gs → length xs ≡ length gs → i < length gs → get_or gs i 0 ≡ g → IsSet (paired gs xs) g None (paired (remove gs i) (remove xs i))
set_remove low [] xs i g r n l e q = absurd (omega arith)
set_remove low (h ∷ gs) [] i g r n l e q = absurd (omega arith)
set_remove low (h ∷ gs) (y ∷ xs) zero g r n l e q =
    gone ∙ ap (λ k. cond (q == k) None (cond (q == h) (Some y) (at (paired gs xs) q))) e where
      gone : at (paired gs xs) q ≡ cond (q == h) None (cond (q == h) (Some y) (at (paired gs xs) q))
      gone = elim (q == h) as (λ b. (q == h) ≡ b → at (paired gs xs) q ≡ cond b None (cond b (Some y) (at (paired gs xs) q))) [
        | true ↦ λ s. let same = here q h s in absent_below (h + 1) gs xs q r.1 (omega (arith, same))
        | false ↦ λ s. refl
      ] refl
set_remove low (h ∷ gs) (y ∷ xs) (suc i) g r n l e q =
    let above = floor (h + 1) gs i r.1 (omega arith) in
    ap (cond (q == h) (Some y)) (set_remove (h + 1) gs xs i g r.1 (omega arith) (omega arith) e q)
    ∙ either_first q h g (Some y) None (at (paired gs xs) q) (λ s. omega (arith, s, e, above))

-- row groups still ascend
pub rise_insert : (low : ℕ) (gs : List ℕ) (i g : ℕ) → RiseFrom low gs → low ≤ g → i ≤ length gs → ((k : ℕ) → k < i → get_or gs k 0 < g) → ((k : ℕ) → i ≤ k → k < length gs → g < get_or gs k 0) → RiseFrom low (insert gs i g)
rise_insert low [] zero g r l m b a = (l, tt)
rise_insert low (h ∷ gs) zero g r l m b a = let above : g < h = a 0 (omega arith) (omega arith) in (l, (omega (arith, above), r.1))
rise_insert low [] (suc i) g r l m b a = absurd (omega arith)
rise_insert low (h ∷ gs) (suc i) g r l m b a =
    let less : h < g = b 0 (omega arith) in
    (r.0, rise_insert (h + 1) gs i g r.1 (omega (arith, less)) (omega arith) (λ k s. b (suc k) (omega arith)) (λ k s t. a (suc k) (omega arith) (omega arith)))

pub rise_remove : (low : ℕ) (gs : List ℕ) (i : ℕ) → RiseFrom low gs → i < length gs → RiseFrom low (remove gs i)
rise_remove low [] i r l = absurd (omega arith)
rise_remove low (h ∷ gs) zero r l = lower (h + 1) low gs (omega (arith, r.0)) r.1
rise_remove low (h ∷ gs) (suc i) r l = (r.0, rise_remove (h + 1) gs i r.1 (omega arith))

-- a binary search finds the index
pub searched : (gs : List ℕ) (g : ℕ) (r : Result ℕ ℕ) → RiseFrom 0 gs → IsSearchInRange r (length gs) → IsBinarySearchResult (λ y. nat_cmp y g) gs r → (IfOk r (IsAt gs g)) × (IfErr r (IsGap gs g))
searched gs g (Ok i) r in_range equal = (record { in_range = in_range; is = ranked _ g _ (sym (equal 0)) }, tt)
searched gs g (Err i) r in_range parted = (
  tt,
  record {
    in_range = in_range;
    before = λ j lt. ranked _ g _ (sym ((parted up).0 j 0 (omega (arith, in_range)) lt));
    after = λ j le lt. ranked _ g _ (sym ((parted up).1 j 0 le lt));
  },
) where
  up : IsNonDecreasingBy (λ y. ordering_index (nat_cmp y g)) gs
  up = IsNonDecreasingBy-from_default (λ y. ordering_index (nat_cmp y g)) gs 0 (λ i j le l.
      let rise : get_or gs i 0 ≤ get_or gs j 0 = rises 0 gs i j r le l in
      grind (arith, nat_tests))

-- all row groups are lower than one that is higher than the last
pub gap_at_end : (gs : List ℕ) (g : ℕ) → RiseFrom 0 gs → ((k : ℕ) → k + 1 ≡ length gs → get_or gs k 0 < g) → IsGap gs g (length gs)
gap_at_end gs g r h = record { in_range = omega arith; before = below gs h r; after = λ k l m. absurd (omega (arith, l, m)) } where
  below : (gs : List ℕ) → ((k : ℕ) → k + 1 ≡ length gs → get_or gs k 0 < g) → RiseFrom 0 gs → (k : ℕ) → k < length gs → get_or gs k 0 < g
  below [] h r k l = absurd (omega arith)
  below (x ∷ gs) h r k l =
      let last = h (length gs) (omega arith) in
      let up = rises 0 (x ∷ gs) k (length gs) r (omega (arith, l)) (omega arith) in
      omega (arith, last, up)

pub gap_absent : (gs : List ℕ) (xs : List (ℤ × ℤ)) (g i : ℕ) → IsGap gs g i → at (paired gs xs) g ≡ None
gap_absent gs xs g i gap = absent gs xs g (λ k l e. elim (order k i) [
  | inl m ↦ let h = gap.before k m in omega (arith, h, e)
  | inr m ↦ let h = gap.after k m l in omega (arith, h, e)
])

-- how the joined min-max changes with one row group
same_below : (f f' : ℕ → Option (ℤ × ℤ)) (g n : ℕ) → ((q : ℕ) → (q ≡ g → ⊥) → f' q ≡ f q) → n ≤ g → joined_to n f' ≡ joined_to n f
same_below f f' g zero same l = refl
same_below f f' g (suc n) same l = λ i. merge_two join_min_maxes (same_below f f' g n same (omega arith) i) (same n (λ e. omega (arith, e, l)) i)

joined_more : (f f' : ℕ → Option (ℤ × ℤ)) (g n : ℕ) (o : Option (ℤ × ℤ)) → ((q : ℕ) → (q ≡ g → ⊥) → f' q ≡ f q) → f' g ≡ merge_two join_min_maxes (f g) o → g < n → joined_to n f' ≡ merge_two join_min_maxes (joined_to n f) o
joined_more f f' g zero o same this l = absurd (omega arith)
joined_more f f' g (suc n) o same this l = elim (g == n) as (λ b. (g == n) ≡ b → merge_two join_min_maxes (joined_to n f') (f' n) ≡ merge_two join_min_maxes (merge_two join_min_maxes (joined_to n f) (f n)) o) [
  | true ↦ λ e. let k = here g n e in
      (λ i. merge_two join_min_maxes (same_below f f' g n same (omega (arith, k)) i) ((ap f' (sym k) ∙ this ∙ ap (λ m. merge_two join_min_maxes (f m) o) k) i))
      ∙ sym (regroup (joined_to n f) (f n) o)
  | false ↦ λ e.
      let less : g < n = grind (arith, nat_tests) in
      (λ i. merge_two join_min_maxes (joined_more f f' g n o same this less i) (same n (λ s. omega (arith, s, less)) i))
      ∙ regroup (joined_to n f) o (f n)
      ∙ ap (merge_two join_min_maxes (joined_to n f)) (swap o (f n))
      ∙ sym (regroup (joined_to n f) (f n) o)
] refl

pub merge_none : (o : Option (ℤ × ℤ)) → merge_two join_min_maxes o None ≡ o
merge_none None = refl
merge_none (Some x) = refl

-- past the last row group, the joined min-max stays
pub joined_past : (xs : MinMaxes) (n m : ℕ) → IsBelow n xs → n ≤ m → joined_to m (at xs) ≡ joined_to n (at xs)
joined_past xs n zero h l = let e : 0 ≡ n = omega arith in ap (λ k. joined_to k (at xs)) e
joined_past xs n (suc m) h l = elim (order m n) [
  | inl k ↦ let e : suc m ≡ n = omega (arith, k, l) in ap (λ k. joined_to k (at xs)) e
  | inr k ↦ (λ i. merge_two join_min_maxes (joined_past xs n m h k i) (h m k i)) ∙ merge_none (joined_to n (at xs))
]

-- adding a row group
pub top_added : (xs xs' : MinMaxes) (g : ℕ) (x : ℤ × ℤ) (top : Option (ℤ × ℤ)) → at xs g ≡ None → IsSet xs g (Some x) xs' → IsTopOf xs top → IsTopOf xs' (merge_two join_min_maxes top (Some x))
top_added xs xs' g x top none set t n w =
    joined_more (at xs) (at xs') g n (Some x) (λ q d. set_other xs xs' g (Some x) q set d) (set_here xs xs' g (Some x) g set refl ∙ sym (ap (λ o. merge_two join_min_maxes o (Some x)) none)) within
    ∙ ap (λ o. merge_two join_min_maxes o (Some x)) (t n below) where
      within : g < n
      within = elim (order g n) [
        | inl l ↦ l
        | inr l ↦ let bad : Some x ≡ None = sym (set_here xs xs' g (Some x) g set refl) ∙ w g l in absurd (grind arith)
      ]

      below : IsBelow n xs
      below q l = sym (set_other xs xs' g (Some x) q set (λ e. omega (arith, e, l, within))) ∙ w q l

-- replacing or removing a row group without joining all others anew
pub top_kept : (xs xs' : MinMaxes) (g : ℕ) (y : ℤ × ℤ) (o top : Option (ℤ × ℤ)) → at xs g ≡ Some y → IsSet xs g o xs' → IsTopOf xs top → IsKept top y o → IsTopOf xs' (merge_two join_min_maxes top o)
top_kept xs xs' g y o top there set t kept n w =
    sym (joined_past xs' n (g + 1 + n) w (omega arith))
    ∙ joined_more rest (at xs') g (g + 1 + n) o (λ q d. set_other xs xs' g o q set d ∙ sym (out q d)) (set_here xs xs' g o g set refl ∙ sym (ap (λ p. merge_two join_min_maxes p o) none)) (omega arith)
    ∙ kept (joined_to (g + 1 + n) rest) (sym (joined_more rest (at xs) g (g + 1 + n) (Some y) (λ q d. sym (out q d)) (there ∙ sym (ap (λ p. merge_two join_min_maxes p (Some y)) none)) (omega arith)) ∙ t (g + 1 + n) below) where
      rest : ℕ → Option (ℤ × ℤ)
      rest q = cond (q == g) None (at xs q)

      out : (q : ℕ) → (q ≡ g → ⊥) → rest q ≡ at xs q
      out q d = ap (λ b. cond b None (at xs q)) (off q g d)

      none : rest g ≡ None
      none = let own : (g == g) ≡ true = grind (arith, nat_tests) in ap (λ b. cond b None (at xs g)) own

      below : IsBelow (g + 1 + n) xs
      below q l = sym (set_other xs xs' g o q set (λ e. omega (arith, e, l))) ∙ w q (omega (arith, l))

pub none_joined : IsTopOf [] None
none_joined zero w = refl
none_joined (suc m) w = ap (λ o. merge_two join_min_maxes o None) (none_joined m (λ q l. refl))

-- the joined min-max of all row groups
pub top_joined : (low : ℕ) (gs : List ℕ) (xs : List (ℤ × ℤ)) → RiseFrom low gs → length xs ≡ length gs → IsTopOf (paired gs xs) (joined_values xs)
top_joined low [] [] r n = none_joined
top_joined low [] (x ∷ xs) r n = absurd (omega arith)
top_joined low (g ∷ gs) [] r n = absurd (omega arith)
top_joined low (g ∷ gs) (x ∷ xs) r n =
    top_added (paired gs xs) (paired (g ∷ gs) (x ∷ xs)) g x (joined_values xs) (absent_below (g + 1) gs xs g r.1 (omega arith)) (λ q. refl) (top_joined (g + 1) gs xs r.1 (omega arith))

min_of : (x y : ℤ) → x ≤ℤ y → int_min y x ≡ x
min_of x y l = omega (arith, ints, int_min_is y x, l)

max_of : (x y : ℤ) → y ≤ℤ x → int_max y x ≡ x
max_of x y l = omega (arith, ints, int_max_is y x, l)

-- the new min-max covers the previous one
pub kept_covered : (top : Option (ℤ × ℤ)) (y z : ℤ × ℤ) → z.0 ≤ℤ y.0 → y.1 ≤ℤ z.1 → IsKept top y (Some z)
kept_covered top y z l m rest e =
    let same : merge_two join_min_maxes (Some y) (Some z) ≡ Some z = λ i. Some (min_of z.0 y.0 l i, max_of z.1 y.1 m i) in
    sym (ap (λ t. merge_two join_min_maxes t (Some z)) (sym e) ∙ regroup rest (Some y) (Some z) ∙ ap (merge_two join_min_maxes rest) same)

min_left : (r y t : ℤ) → int_min r y ≡ t → t <ℤ y → r ≡ t
min_left r y t e l = omega (arith, ints, int_min_is r y, e, l)

max_left : (r y t : ℤ) → int_max r y ≡ t → y <ℤ t → r ≡ t
max_left r y t e l = omega (arith, ints, int_max_is r y, e, l)

abbrev the_some : Option (ℤ × ℤ) → ℤ × ℤ → ℤ × ℤ
the_some None d = d
the_some (Some x) d = x

-- the previous min-max was strictly within
pub kept_inside : (t y : ℤ × ℤ) (o : Option (ℤ × ℤ)) → t.0 <ℤ y.0 → y.1 <ℤ t.1 → IsKept (Some t) y o
kept_inside t y o l m None e =
    let same : y.0 ≡ t.0 = ap (λ p. (the_some p t).0) e in
    absurd (omega (arith, ints, same, l))
kept_inside t y o l m (Some r) e =
    let least : int_min r.0 y.0 ≡ t.0 = ap (λ p. (the_some p t).0) e in
    let most : int_max r.1 y.1 ≡ t.1 = ap (λ p. (the_some p t).1) e in
    λ i. merge_two join_min_maxes (Some (min_left r.0 y.0 t.0 least l i, max_left r.1 y.1 t.1 most m i)) o

-- a loop that joins from the first on
pub joined_more_values : (xs : List (ℤ × ℤ)) (i : ℕ) (d : ℤ × ℤ) (top : Option (ℤ × ℤ)) → i < length xs → merge_two join_min_maxes top (joined_values (drop i xs)) ≡ joined_values xs → merge_two join_min_maxes (merge_two join_min_maxes top (Some (get_or xs i d))) (joined_values (drop (suc i) xs)) ≡ joined_values xs
joined_more_values xs i d top l h =
    regroup top (Some (get_or xs i d)) (joined_values (drop (suc i) xs))
    ∙ ap (merge_two join_min_maxes top) (swap (Some (get_or xs i d)) (joined_values (drop (suc i) xs)) ∙ sym (first xs i l))
    ∙ h where
      first : (xs : List (ℤ × ℤ)) (i : ℕ) → i < length xs → joined_values (drop i xs) ≡ merge_two join_min_maxes (joined_values (drop (suc i) xs)) (Some (get_or xs i d))
      first [] i l = absurd (omega arith)
      first (x ∷ xs) zero l = refl
      first (x ∷ xs) (suc i) l = first xs i (omega arith)

pub joined_next_values : (xs : List (ℤ × ℤ)) (i : ℕ) (x : ℤ × ℤ) (top new : Option (ℤ × ℤ)) → i < length xs → x ≡ get_or xs i x → new ≡ merge_two join_min_maxes top (Some x) → merge_two join_min_maxes top (joined_values (drop i xs)) ≡ joined_values xs → merge_two join_min_maxes new (joined_values (drop (i + 1) xs)) ≡ joined_values xs
joined_next_values xs i x top new l e n h =
    let one : i + 1 ≡ suc i = omega arith in
    (λ k. merge_two join_min_maxes ((n ∙ ap (λ y. merge_two join_min_maxes top (Some y)) e) k) (joined_values (drop (one k) xs)))
    ∙ joined_more_values xs i x top l h

pub joined_all_values : (xs : List (ℤ × ℤ)) (i : ℕ) (top : Option (ℤ × ℤ)) → i ≡ length xs → merge_two join_min_maxes top (joined_values (drop i xs)) ≡ joined_values xs → top ≡ joined_values xs
joined_all_values xs i top e h =
    sym (merge_none top) ∙ ap (λ n. merge_two join_min_maxes top (joined_values n)) (sym (ap (λ k. drop k xs) e ∙ none_left xs)) ∙ h where
      none_left : (xs : List (ℤ × ℤ)) → drop (length xs) xs ≡ []
      none_left [] = refl
      none_left (x ∷ xs) = none_left xs

-- the result of an edit at an index
pub not_new : (gs : List ℕ) (xs : List (ℤ × ℤ)) (g i : ℕ) → AreInOrder gs xs → IsAt gs g i → at (paired gs xs) g ≡ None → ⊥
not_new gs xs g i inside place none =
    let some = found 0 gs xs i g (of_z_pair) inside.0 inside.1 place.in_range place.is in
    let bad = sym none ∙ some in
    cc where
      of_z_pair : ℤ × ℤ
      of_z_pair = (pos 0, pos 0)

pub inserted : (gs : List ℕ) (xs : List (ℤ × ℤ)) (g i : ℕ) (x : ℤ × ℤ) → AreInOrder gs xs → IsGap gs g i → AreInOrder (insert gs i g) (insert xs i x) × IsSet (paired gs xs) g (Some x) (paired (insert gs i g) (insert xs i x))
inserted gs xs g i x inside gap =
    let more = length-insert gs i g gap.in_range in
    let more_values = length-insert xs i x (omega (arith, gap.in_range, inside.1)) in (
      (rise_insert 0 gs i g inside.0 (omega arith) gap.in_range gap.before gap.after, omega (arith, more, more_values, inside.1)),
      set_insert gs xs i g x inside.1 gap.in_range gap.before,
    )

pub written : (gs : List ℕ) (xs : List (ℤ × ℤ)) (g i : ℕ) (x : ℤ × ℤ) → AreInOrder gs xs → IsAt gs g i → AreInOrder gs (set xs i x) × IsSet (paired gs xs) g (Some x) (paired gs (set xs i x))
written gs xs g i x inside place = (
  (inside.0, length-set xs i x ∙ inside.1),
  set_at 0 gs xs i g x inside.0 inside.1 place.in_range place.is,
)

pub removed : (gs : List ℕ) (xs : List (ℤ × ℤ)) (g i : ℕ) → AreInOrder gs xs → IsAt gs g i → AreInOrder (remove gs i) (remove xs i) × IsSet (paired gs xs) g None (paired (remove gs i) (remove xs i))
removed gs xs g i inside place =
    let less = length-remove gs i place.in_range in
    let less_values = length-remove xs i (omega (arith, place.in_range, inside.1)) in (
      (rise_remove 0 gs i inside.0 place.in_range, omega (arith, less, less_values, inside.1)),
      set_remove 0 gs xs i g inside.0 inside.1 place.in_range place.is,
    )

pub stands : (gs : List ℕ) (xs : List (ℤ × ℤ)) (g i : ℕ) (y : ℤ × ℤ) → AreInOrder gs xs → IsAt gs g i → y ≡ get_or xs i y → at (paired gs xs) g ≡ Some y
stands gs xs g i y inside place is = found 0 gs xs i g y inside.0 inside.1 place.in_range place.is ∙ ap Some (sym is)

-- an insert that is not refused
pub taken : {T E A : Type 0} (r : Result T E) (xs ys zs : List A) → is_err r ≡ false → zs ≡ cond (is_ok r) xs ys → zs ≡ xs
taken (Ok t) xs ys zs e h = h
taken (Err t) xs ys zs e h = let bad : true ≡ false = e in cc

-- adding a row group, in order
pub top_inserted : (old : MinMaxes) (gs : List ℕ) (xs : List (ℤ × ℤ)) (g : ℕ) (x : ℤ × ℤ) (top top' : Option (ℤ × ℤ)) → at old g ≡ None → IsSet old g (Some x) (paired gs xs) → IsTopOf old top → top' ≡ merge_two join_min_maxes top (Some x) → IsTopOf (paired gs xs) top'
top_inserted old gs xs g x top top' none set t is = subst (IsTopOf (paired gs xs)) (sym is) (top_added old (paired gs xs) g x top none set t)

pub none_in_order : (gs : List ℕ) (xs : List (ℤ × ℤ)) → gs ≡ [] → xs ≡ [] → AreInOrder gs xs × IsTopOf (paired gs xs) None
none_in_order [] [] e h = ((tt, refl), none_joined)
none_in_order [] (x ∷ xs) e h = cc
none_in_order (g ∷ gs) xs e h = cc

pub removed_as : (gs gs' : List ℕ) (xs xs' : List (ℤ × ℤ)) (g i : ℕ) → AreInOrder gs xs → IsAt gs g i → gs' ≡ remove gs i → xs' ≡ remove xs i → AreInOrder gs' xs' × IsSet (paired gs xs) g None (paired gs' xs')
removed_as gs gs' xs xs' g i inside place e h =
    subst (λ ys. AreInOrder ys xs' × IsSet (paired gs xs) g None (paired ys xs')) (sym e)
    (subst (λ ys. AreInOrder (remove gs i) ys × IsSet (paired gs xs) g None (paired (remove gs i) ys)) (sym h) (removed gs xs g i inside place))

-- cutting row groups and their min-maxes in two
paired-cut : (gs : List ℕ) (xs : List (ℤ × ℤ)) (n : ℕ) → length xs ≡ length gs → paired gs xs ≡ paired (take n gs) (take n xs) ++ paired (drop n gs) (drop n xs)
paired-cut gs xs zero e = refl
paired-cut [] xs (suc n) e = refl
paired-cut (g ∷ gs) [] (suc n) e = absurd (omega (arith, e))
paired-cut (g ∷ gs) (x ∷ xs) (suc n) e = ap (λ t. (g, x) ∷ t) (paired-cut gs xs n (omega (arith, e)))

rise_take : (low : ℕ) (gs : List ℕ) (n : ℕ) → RiseFrom low gs → RiseFrom low (take n gs)
rise_take low gs zero r = tt
rise_take low [] (suc n) r = tt
rise_take low (g ∷ gs) (suc n) r = (r.0, rise_take (g + 1) gs n r.1)

rise_drop : (low : ℕ) (gs : List ℕ) (n : ℕ) → RiseFrom low gs → RiseFrom low (drop n gs)
rise_drop low gs zero r = r
rise_drop low [] (suc n) r = tt
rise_drop low (g ∷ gs) (suc n) r = lower (g + 1) low (drop n gs) (omega (arith, r.0)) (rise_drop (g + 1) gs n r.1)

from_first : (low : ℕ) (gs : List ℕ) (xs : List (ℤ × ℤ)) (n : ℕ) → RiseFrom low gs → n < length gs → RiseFrom (get_or gs n 0) (drop n gs)
from_first low [] xs n r l = absurd (omega arith)
from_first low (g ∷ gs) xs zero r l = (omega arith, r.1)
from_first low (g ∷ gs) xs (suc n) r l = from_first (g + 1) gs xs n r.1 (omega (arith, l))

below_first : (low : ℕ) (gs : List ℕ) (xs : List (ℤ × ℤ)) (n q : ℕ) → RiseFrom low gs → n < length gs → get_or gs n 0 ≤ q → at (paired (take n gs) (take n xs)) q ≡ None
below_first low [] xs n q r l m = absurd (omega (arith, l))
below_first low (g ∷ gs) xs zero q r l m = refl
below_first low (g ∷ gs) [] (suc n) q r l m = refl
below_first low (g ∷ gs) (x ∷ xs) (suc n) q r l m =
    let above = floor (g + 1) gs n r.1 (omega (arith, l)) in
    ap (λ b. cond b (Some x) (at (paired (take n gs) (take n xs)) q)) (off q g (λ e. omega (arith, e, above, m)))
    ∙ below_first (g + 1) gs xs n q r.1 (omega (arith, l)) m

strictly : (low : ℕ) (gs : List ℕ) (n : ℕ) → RiseFrom low gs → 0 < n → n < length gs → get_or gs 0 0 < get_or gs n 0
strictly low [] n r z l = absurd (omega (arith, l))
strictly low (g ∷ gs) zero r z l = absurd (omega (arith, z))
strictly low (g ∷ gs) (suc n) r z l = (let h : g + 1 ≤ get_or gs n 0 = floor (g + 1) gs n r.1 (omega (arith, l)) in omega (arith, h))

there : (gs : List ℕ) (xs : List (ℤ × ℤ)) (n : ℕ) → AreInOrder gs xs → n < length gs → at (paired gs xs) (get_or gs n 0) ≡ None → ⊥
there gs xs n inside l none = (let some = found 0 gs xs n (get_or gs n 0) (pos 0, pos 0) inside.0 inside.1 l refl in let bad = sym none ∙ some in cc)

pub cut_late : (gs gs' : List ℕ) (xs xs' : List (ℤ × ℤ)) (n : ℕ) (top : Option (ℤ × ℤ)) → AreInOrder gs xs → gs' ≡ drop n gs → xs' ≡ drop n xs → top ≡ joined_values xs' → AreInOrder gs' xs' × IsTopOf (paired gs' xs') top
cut_late gs gs' xs xs' n top inside e h t =
    let up : RiseFrom 0 gs' = subst (RiseFrom 0) (sym e) (rise_drop 0 gs n inside.0) in
    let same : length xs' ≡ length gs' = ap length h ∙ length-drop n xs ∙ ap (λ k. k - n) inside.1 ∙ sym (length-drop n gs) ∙ sym (ap length e) in
    ((up, same), subst (IsTopOf (paired gs' xs')) (sym t) (top_joined 0 gs' xs' up same))

same_take : (gs : List ℕ) (xs : List (ℤ × ℤ)) (n : ℕ) → length xs ≡ length gs → length (take n xs) ≡ length (take n gs)
same_take gs xs zero e = refl
same_take [] [] (suc n) e = refl
same_take [] (x ∷ xs) (suc n) e = absurd (omega (arith, e))
same_take (g ∷ gs) [] (suc n) e = absurd (omega (arith, e))
same_take (g ∷ gs) (x ∷ xs) (suc n) e = ap suc (same_take gs xs n (omega (arith, e)))

pub cut_early : (gs gs' : List ℕ) (xs xs' : List (ℤ × ℤ)) (n : ℕ) (top : Option (ℤ × ℤ)) → AreInOrder gs xs → gs' ≡ take n gs → xs' ≡ take n xs → top ≡ joined_values xs' → AreInOrder gs' xs' × IsTopOf (paired gs' xs') top
cut_early gs gs' xs xs' n top inside e h t =
    let up : RiseFrom 0 gs' = subst (RiseFrom 0) (sym e) (rise_take 0 gs n inside.0) in
    let same : length xs' ≡ length gs' = ap length h ∙ same_take gs xs n inside.1 ∙ sym (ap length e) in
    ((up, same), subst (IsTopOf (paired gs' xs')) (sym t) (top_joined 0 gs' xs' up same))

pub cut_whole : (gs : List ℕ) (xs : List (ℤ × ℤ)) (early late : List ℕ) (early_xs late_xs : List (ℤ × ℤ)) (n first group : ℕ) (top : Option (ℤ × ℤ)) → AreInOrder gs xs → 0 < n → n < length gs
    → early ≡ take n gs → early_xs ≡ take n xs → late ≡ drop n gs → late_xs ≡ drop n xs → first ≡ get_or gs n 0
    → IsCut group (paired gs xs) (paired early early_xs) (Some (first, record { min_maxes = paired late late_xs; top = top }))
cut_whole gs xs early late early_xs late_xs n first group top inside z l e1 e2 l1 l2 is =
    let early_is : paired early early_xs ≡ paired (take n gs) (take n xs) = λ i. paired (e1 i) (e2 i) in
    let late_is : paired late late_xs ≡ paired (drop n gs) (drop n xs) = λ i. paired (l1 i) (l2 i) in
    let start : get_or gs 0 0 < get_or gs n 0 = strictly 0 gs n inside.0 z l in (
      paired-cut gs xs n inside.1 ∙ sym (λ i. early_is i ++ late_is i),
      (λ q m. ap (λ mm. at mm q) early_is ∙ below_first 0 gs xs n q inside.0 l (omega (arith, m, is))),
      (λ q m. ap (λ mm. at mm q) late_is ∙ absent_below (get_or gs n 0) (drop n gs) (drop n xs) q (from_first 0 gs xs n inside.0 l) (omega (arith, m, is))),
      (λ k from. (let h = held-from k (paired gs xs) (get_or gs 0 0) from (there gs xs 0 inside (omega (arith, l))) in omega (arith, h, start, is))),
      (λ k below less. (let h = held-below k (paired gs xs) (get_or gs n 0) below (there gs xs n inside l) in omega (arith, h, is))),
    )

-- the rest of a list is a slice of it
pub rest_of : {A : Type 0} (xs ds ys : List A) (n : ℕ) → ds ≡ xs → ys ≡ take (length ds - n) (drop n ds) → ys ≡ drop n xs
rest_of xs ds ys n same is = is ∙ ap (λ k. take k (drop n ds)) (sym (length-drop n ds)) ∙ take-length (drop n ds) ∙ ap (drop n) same

pub first_of_rest : (gs ys : List ℕ) (n f : ℕ) → ys ≡ drop n gs → f ≡ get_or ys 0 f → n < length gs → f ≡ get_or gs n 0
first_of_rest gs ys n f rest is l = is ∙ ap (λ zs. get_or zs 0 f) rest ∙ at_start gs n f l where
  at_start : (gs : List ℕ) (n f : ℕ) → n < length gs → get_or (drop n gs) 0 f ≡ get_or gs n 0
  at_start [] n f l = absurd (omega arith)
  at_start (g ∷ gs) zero f l = refl
  at_start (g ∷ gs) (suc n) f l = at_start gs n f (omega (arith, l))

-- a row group after all others is added to a part of its own
pub cut_at_end : (gs : List ℕ) (xs : List (ℤ × ℤ)) (n g : ℕ) (late : RunState) → AreInOrder gs xs → n + 1 ≡ length gs → get_or gs n 0 < g → late.min_maxes ≡ [] → IsCut g (paired gs xs) (paired gs xs) (Some (g, late))
cut_at_end gs xs n g late inside e l none = (
  sym (ap (λ mm. paired gs xs ++ mm) none ∙ append-nil (paired gs xs)),
  (λ q m. absent gs xs q (λ k below same. (let h = rises 0 gs k n inside.0 (omega (arith, below, e)) (omega (arith, e)) in omega (arith, h, same, m, l)))),
  (λ q m. ap (λ mm. at mm q) none),
  (λ k from. (let h = held-from k (paired gs xs) (get_or gs n 0) from (there gs xs n inside (omega (arith, e))) in omega (arith, h, l))),
  (λ k below less. less),
)
