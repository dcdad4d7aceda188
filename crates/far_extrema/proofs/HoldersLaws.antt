-- The extrema of row groups that result from the holdings of keys: how they change, and all of them joined.
use Rattle.std.proofs.Common.{length-append, ◌≡◌, ℕ, zero, suc, ◌<◌, ◌+◌, ◌==◌, ◌&&◌, ◌||◌, true, false, Bool, cond, List, [], ◌∷◌, ◌++◌, length, map, refl, sym, ap, ◌∙◌, arith, Option, None, Some, subst, inl, inr}
use Rattle.std.specs.Prelude.{ℤ, option_map, slice_set, slice_index_or, is_some}
use Rattle.std.specs.List.{filter_map, list_any, cons_option, AllByRecursion}
use Rattle.std.specs.Ordering.{eq_by_cmp}
use Rattle.std.proofs.lemmas.Bool.Decides.{nat_tests}
use Rattle.std.proofs.lemmas.List.Sums.{fold-append}
use Rattle.std.specs.FinMap as fin
use Rattle.far_types.specs.declared.key.Key.{Key}
use Rattle.far_types.specs.Keys.{line_cmp}
use Rattle.far_types.specs.KeyOrder.{line_total}
use Rattle.far_types.specs.Answers.{Extrema, lines_by_key}
use Rattle.far_types.specs.Effects.{merge_two, join_min_maxes, joined_extrema, min_max_with, with_observed}
use Rattle.std.specs.Prelude.{◌≤ℤ◌}
use Rattle.std.specs.Int.{int_min, int_max}
use Rattle.std.proofs.lemmas.Int.{ints, int_min_is, int_max_is}
use Rattle.far_types.proofs.AnswersGrouping.{same, same_key, get-joined}
use Rattle.far_extrema.specs.Spreads.{at, IsTopOf, IsSet, joined_to}
use Rattle.std.specs.Prelude.{replicate}
use Rattle.std.specs.List.Sorted.{IsStrictlySortedBy}
use Rattle.std.specs.BTreeMap.{is_at}
use Rattle.std.specs.declared.cmp.Ordering.TheVariants.{Less}
use Rattle.std.proofs.lemmas.List.{append-nil, append_assoc}
use Rattle.far_types.proofs.AnswersByKeyMaps.{get_at, by_key, entries-by_key, HaveDistinctKeys, sorted_distinct}
use Rattle.far_types.proofs.AnswersByKeyMaps as map_in
use Rattle.far_extrema.proofs.LiveGroups.{past_reserved}
use Rattle.far_extrema.specs.MinMaxes.{put_min_max}
use Rattle.far_extrema.specs.Live.{all_groups, group_at}
use Rattle.far_extrema.specs.Holders.{Holding, Holders, holders_of, min_max_in, min_max_at, reserved_in, reserved_at, picked, group_in, groups_in, reserved_keys, line_of, AreReserved, IsTopped, IsPut, IsGroup, HaveSameMinMaxes, HaveSameReserved}
use Rattle.far_extrema.proofs.SpreadsLaws.{off, here, order}

abbrev valued_keys : {V : Type 0} → (Option Key → Option V) → List (Option Key) → List (Option Key × V)
valued_keys f ks = filter_map (λ k. option_map (λ v. (k, v)) (f k)) ks

find_valued : {V : Type 0} (f : Option Key → Option V) (ks : List (Option Key)) (q : Option Key) → fin.find line_cmp q (valued_keys f ks) ≡ cond (list_any (eq_by_cmp line_cmp q) ks) (f q) None
find_valued f [] q = refl
find_valued {V} f (k ∷ ks) q =
    elim (f k) as (λ o. f k ≡ o → fin.find line_cmp q (cons_option (option_map (λ v. (k, v)) o) (valued_keys f ks)) ≡ cond (eq_by_cmp line_cmp q k || list_any (eq_by_cmp line_cmp q) ks) (f q) None) [
      | None ↦ λ none. find_valued f ks q ∙ elim (eq_by_cmp line_cmp q k) as (λ b. eq_by_cmp line_cmp q k ≡ b → cond (list_any (eq_by_cmp line_cmp q) ks) (f q) None ≡ cond (b || list_any (eq_by_cmp line_cmp q) ks) (f q) None) [
        | true ↦ λ h. let nothing : f q ≡ None = ap f (same_key q k h) ∙ none in
            elim (list_any (eq_by_cmp line_cmp q) ks) as (λ a. cond a (f q) None ≡ f q) [ true ↦ refl | false ↦ sym nothing ]
        | false ↦ λ h. refl
      ] refl
      | Some v ↦ λ some. elim (eq_by_cmp line_cmp q k) as (λ b. eq_by_cmp line_cmp q k ≡ b → cond b (Some v) (fin.find line_cmp q (valued_keys f ks)) ≡ cond (b || list_any (eq_by_cmp line_cmp q) ks) (f q) None) [
        | true ↦ λ h. sym (ap f (same_key q k h) ∙ some)
        | false ↦ λ h. find_valued f ks q
      ] refl
    ] refl

nothing_there : {V : Type 0} (o : Option V) → is_some o ≡ false → o ≡ None
nothing_there None h = refl
nothing_there (Some x) h = cc

-- nothing is picked for a key that the map does not have
get-picked : {V : Type 0} (f : Option Key → Option V) (m : Holders) → ((q : Option Key) → fin.get m q ≡ None → f q ≡ None) → (q : Option Key) → fin.get (picked f (fin.keys m)) q ≡ f q
get-picked f m absent q =
    fin.get-from_entries line_total _ q
    ∙ find_valued f (fin.keys m) q
    ∙ elim (list_any (eq_by_cmp line_cmp q) (fin.keys m)) as (λ b. list_any (eq_by_cmp line_cmp q) (fin.keys m) ≡ b → cond b (f q) None ≡ f q) [
      | true ↦ λ h. refl
      | false ↦ λ h. sym (absent q (nothing_there (fin.get m q) (fin.contains_key-keys m q ∙ h)))
    ] refl

-- the min-max that a key has in a row group
pub get-group_in : (m : Holders) (g : ℕ) (q : Option Key) → fin.get (group_in m g) q ≡ min_max_at m g q
get-group_in m g = get-picked (min_max_at m g) m (λ q none. ap (λ o. min_max_in o g) none)

-- whether a key is reserved
pub get-reserved : (m : Holders) (q : Option Key) → fin.get (reserved_keys m) q ≡ reserved_at m q
get-reserved m = get-picked (reserved_at m) m (λ q none. ap reserved_in none)

pub length-groups_in : (m : Holders) (n : ℕ) → length (groups_in m n) ≡ n
length-groups_in m zero = refl
length-groups_in m (suc n) = grind (arith, length-append, length-groups_in m n)

index-append : {X : Type 0} (xs : List X) (x d : X) (g : ℕ) → g < length xs → slice_index_or (xs ++ x ∷ []) g d ≡ slice_index_or xs g d
index-append [] x d g l = absurd (omega arith)
index-append (y ∷ xs) x d zero l = refl
index-append (y ∷ xs) x d (suc g) l = index-append xs x d g (omega arith)

index-last : {X : Type 0} (xs : List X) (x d : X) → slice_index_or (xs ++ x ∷ []) (length xs) d ≡ x
index-last [] x d = refl
index-last (y ∷ xs) x d = index-last xs x d

set-append : {X : Type 0} (xs : List X) (x y : X) (g : ℕ) → g < length xs → slice_set (xs ++ x ∷ []) g y ≡ slice_set xs g y ++ x ∷ []
set-append [] x y g l = absurd (omega arith)
set-append (z ∷ xs) x y zero l = refl
set-append (z ∷ xs) x y (suc g) l = ap (λ t. z ∷ t) (set-append xs x y g (omega arith))

set-last : {X : Type 0} (xs : List X) (x y : X) → slice_set (xs ++ x ∷ []) (length xs) y ≡ xs ++ y ∷ []
set-last [] x y = refl
set-last (z ∷ xs) x y = ap (λ t. z ∷ t) (set-last xs x y)

-- the extrema of a reserved row group
pub group_at-in : (m : Holders) (n g : ℕ) → g < n → group_at (groups_in m n) g ≡ group_in m g
group_at-in m zero g l = absurd (omega arith)
group_at-in m (suc n) g l = elim (g == n) as (λ b. (g == n) ≡ b → group_at (groups_in m n ++ group_in m n ∷ []) g ≡ group_in m g) [
  | true ↦ λ e. let k = here g n e in ap (λ h. group_at (groups_in m n ++ group_in m n ∷ []) h) (k ∙ sym (length-groups_in m n)) ∙ index-last (groups_in m n) (group_in m n) fin.empty ∙ ap (group_in m) (sym k)
  | false ↦ λ e. let less : g < n = grind (arith, nat_tests) in index-append (groups_in m n) (group_in m n) fin.empty g (omega (arith, length-groups_in m n)) ∙ group_at-in m n g less
] refl

-- maps with the same row groups
alike : (m m' : Holders) (n : ℕ) → ((g : ℕ) → g < n → group_in m g ≡ group_in m' g) → groups_in m n ≡ groups_in m' n
alike m m' zero h = refl
alike m m' (suc n) h = λ i. alike m m' n (λ g l. h g (omega arith)) i ++ h n (omega arith) i ∷ []

-- maps that differ in one row group
set_in : (m m' : Holders) (n g : ℕ) (e : Extrema) → g < n → group_in m' g ≡ e → ((h : ℕ) → (h ≡ g → ⊥) → group_in m' h ≡ group_in m h) → groups_in m' n ≡ slice_set (groups_in m n) g e
set_in m m' zero g e l this other = absurd (omega arith)
set_in m m' (suc n) g e l this other = elim (g == n) as (λ b. (g == n) ≡ b → groups_in m' n ++ group_in m' n ∷ [] ≡ slice_set (groups_in m n ++ group_in m n ∷ []) g e) [
  | true ↦ λ s.
      let k = here g n s in
      (λ i. alike m' m n (λ h less. other h (λ z. omega (arith, z, k, less))) i ++ (ap (group_in m') (sym k) ∙ this) i ∷ [])
      ∙ sym (set-last (groups_in m n) (group_in m n) e)
      ∙ ap (λ h. slice_set (groups_in m n ++ group_in m n ∷ []) h e) (length-groups_in m n ∙ sym k)
  | false ↦ λ s.
      let less : g < n = grind (arith, nat_tests) in
      (λ i. set_in m m' n g e less this other i ++ other n (λ z. omega (arith, z, less)) i ∷ [])
      ∙ sym (set-append (groups_in m n) (group_in m n) e g (omega (arith, length-groups_in m n)))
] refl

get-put_min_max : (e : Extrema) (k : Option Key) (o : Option (ℤ × ℤ)) (q : Option Key) → fin.get (put_min_max e k o) q ≡ cond (eq_by_cmp line_cmp q k) o (fin.get e q)
get-put_min_max e k None q = fin.get-remove line_total e k q
get-put_min_max e k (Some x) q = fin.get-insert line_total e k x q

-- putting a min-max changes one row group under one key
pub put-in : (m m' : Holders) (count g : ℕ) (k : Option Key) (o : Option (ℤ × ℤ)) → g < count → IsPut m g k o m' → groups_in m' count ≡ slice_set (groups_in m count) g (put_min_max (group_at (groups_in m count) g) k o)
put-in m m' count g k o l put =
    set_in m m' count g (put_min_max (group_in m g) k o) l
    (same _ _ (λ q. get-group_in m' g q ∙ put g q ∙ ap (λ b. cond (b && eq_by_cmp line_cmp q k) o (min_max_at m g q)) own ∙ ap (cond (eq_by_cmp line_cmp q k) o) (sym (get-group_in m g q)) ∙ sym (get-put_min_max (group_in m g) k o q)))
    (λ h n. same _ _ (λ q. get-group_in m' h q ∙ put h q ∙ ap (λ b. cond (b && eq_by_cmp line_cmp q k) o (min_max_at m h q)) (off h g n) ∙ sym (get-group_in m h q)))
    ∙ ap (λ e. slice_set (groups_in m count) g (put_min_max e k o)) (sym (group_at-in m count g l)) where
      own : (g == g) ≡ true
      own = grind (arith, nat_tests)

-- setting all min-maxes of a row group
pub put-group : (m m' : Holders) (count g : ℕ) (e : Extrema) → g < count → IsGroup m g e m' → groups_in m' count ≡ slice_set (groups_in m count) g e
put-group m m' count g e l put =
    set_in m m' count g e l
    (same _ _ (λ q. get-group_in m' g q ∙ put g q ∙ ap (λ b. cond b (fin.get e q) (min_max_at m g q)) own))
    (λ h n. same _ _ (λ q. get-group_in m' h q ∙ put h q ∙ ap (λ b. cond b (fin.get e q) (min_max_at m h q)) (off h g n) ∙ sym (get-group_in m h q))) where
      own : (g == g) ≡ true
      own = grind (arith, nat_tests)

-- the same min-maxes make the same row groups
pub same-groups : (m m' : Holders) (n : ℕ) → HaveSameMinMaxes m m' → groups_in m' n ≡ groups_in m n
same-groups m m' n alike_min_maxes = alike m' m n (λ g l. same _ _ (λ q. get-group_in m' g q ∙ alike_min_maxes g q ∙ sym (get-group_in m g q)))

-- the same reservations make the same reserved keys
pub same-reserved : (m m' : Holders) → HaveSameReserved m m' → reserved_keys m' ≡ reserved_keys m
same-reserved m m' alike_reserved = same _ _ (λ q. get-reserved m' q ∙ alike_reserved q ∙ sym (get-reserved m q))

-- the joined min-max that all row groups have under a key
pub get-all : (m : Holders) (n : ℕ) (q : Option Key) → fin.get (all_groups (groups_in m n)) q ≡ joined_to n (λ g. min_max_at m g q)
get-all m zero q = fin.get-empty line_cmp q
get-all m (suc n) q =
    ap (λ e. fin.get e q) (fold-append joined_extrema fin.empty (groups_in m n) (group_in m n ∷ []))
    ∙ get-joined join_min_maxes (all_groups (groups_in m n)) (group_in m n) q
    ∙ (λ i. merge_two join_min_maxes (get-all m n q i) (get-group_in m n q i))

pub none_joined : (n : ℕ) → joined_to n (λ g. None) ≡ None
none_joined zero = refl
none_joined (suc n) = ap (λ o. merge_two join_min_maxes o None) (none_joined n)

-- the joined min-max of no row groups is none
pub top-none : IsTopOf [] None
top-none n below = none_joined n

-- the kept min-max of a key, if it has row groups
abbrev pub top_in : Option Holding → Option (ℤ × ℤ)
top_in None = None
top_in (Some holding) = holding.top

abbrev Entries : Type 0
Entries = List (Option Key × Holding)

topped_at : (es : Entries) (q : Option Key) (t : Holding) → AllByRecursion IsTopped es → map_in.at es q ≡ Some t → IsTopOf t.min_maxes t.top
topped_at [] q t h e = absurd (none_some t e) where
  none_some : (t : Holding) → None ≡ Some t → ⊥
  none_some t h = cc
topped_at (x ∷ es) q t h e = elim (is_at (line_cmp q) x.0) as (λ b. cond b (Some x.1) (map_in.at es q) ≡ Some t → IsTopOf t.min_maxes t.top) [
  | true ↦ λ s. subst (λ (u : Holding). IsTopOf u.min_maxes u.top) (some_is x.1 t s) h.0
  | false ↦ λ s. topped_at es q t h.1 s
] e where
  some_is : (s t : Holding) → Some s ≡ Some t → s ≡ t
  some_is s t e = cc

-- the kept min-max is the joined min-max of all row groups
pub get-tops : (es : Entries) (count : ℕ) (q : Option Key) → AreReserved count (holders_of es) → AllByRecursion IsTopped es → fin.get (all_groups (groups_in (holders_of es) count)) q ≡ top_in (fin.get (holders_of es) q)
get-tops es count q kept topped = get-all (holders_of es) count q ∙ elim (fin.get (holders_of es) q) as (λ o. fin.get (holders_of es) q ≡ o → joined_to count (λ g. min_max_in o g) ≡ top_in o) [
  | None ↦ λ e. none_joined count
  | Some spread ↦ λ e. topped_at es q spread topped (sym (get_at es q) ∙ e) count (λ g l. ap (λ o. min_max_in o g) (sym e) ∙ kept g q l)
] refl

abbrev Lines : Type 0
Lines = List (Option Key × ℤ × ℤ)

-- the kept min-max of an entry, with its key
abbrev top_of : Option Key × Holding → Option (Option Key × (ℤ × ℤ))
top_of e = option_map (λ (top : ℤ × ℤ). (e.0, top)) e.1.top

abbrev tops : Entries → List (Option Key × (ℤ × ℤ))
tops es = filter_map top_of es

tops_at : (es : Entries) (q : Option Key) → HaveDistinctKeys es → map_in.at (tops es) q ≡ top_in (map_in.at es q)
tops_at [] q h = refl
tops_at (e ∷ es) q h =
    elim e.1.top as (λ o. e.1.top ≡ o → map_in.at (cons_option (option_map (λ (top : ℤ × ℤ). (e.0, top)) o) (tops es)) q ≡ top_in (map_in.at (e ∷ es) q)) [
      | None ↦ λ none. tops_at es q h.1 ∙ elim (is_at (line_cmp q) e.0) as (λ b. is_at (line_cmp q) e.0 ≡ b → top_in (map_in.at es q) ≡ top_in (cond b (Some e.1) (map_in.at es q))) [
        | true ↦ λ s. ap (λ k. top_in (map_in.at es k)) (same_key q e.0 s) ∙ ap top_in h.0 ∙ sym none
        | false ↦ λ s. refl
      ] refl
      | Some top ↦ λ some. elim (is_at (line_cmp q) e.0) as (λ b. cond b (Some top) (map_in.at (tops es) q) ≡ top_in (cond b (Some e.1) (map_in.at es q))) [
        | true ↦ sym some
        | false ↦ tops_at es q h.1
      ]
    ] refl

below_tops : (x : Option Key) (es : Entries) → AllByRecursion (λ y. line_cmp x y ≡ Less) (map (λ (e : Option Key × Holding). e.0) es) → AllByRecursion (λ y. line_cmp x y ≡ Less) (map (λ (e : Option Key × (ℤ × ℤ)). e.0) (tops es))
below_tops x [] h = tt
below_tops x (e ∷ es) h = elim e.1.top as (λ o. AllByRecursion (λ y. line_cmp x y ≡ Less) (map (λ (e : Option Key × (ℤ × ℤ)). e.0) (cons_option (option_map (λ (top : ℤ × ℤ). (e.0, top)) o) (tops es)))) [
  | None ↦ below_tops x es h.1
  | Some top ↦ (h.0, below_tops x es h.1)
]

sorted_tops : (es : Entries) → IsStrictlySortedBy line_cmp (map (λ (e : Option Key × Holding). e.0) es) → IsStrictlySortedBy line_cmp (map (λ (e : Option Key × (ℤ × ℤ)). e.0) (tops es))
unfolding IsStrictlySortedBy
sorted_tops [] h = tt
sorted_tops (e ∷ es) h = elim e.1.top as (λ o. IsStrictlySortedBy line_cmp (map (λ (e : Option Key × (ℤ × ℤ)). e.0) (cons_option (option_map (λ (top : ℤ × ℤ). (e.0, top)) o) (tops es)))) [
  | None ↦ sorted_tops es h.1
  | Some top ↦ (below_tops e.0 es h.0, sorted_tops es h.1)
]

lines_tops : (es : Entries) → map {B = Option Key × ℤ × ℤ} (λ (e : Option Key × (ℤ × ℤ)). (e.0, e.1.0, e.1.1)) (tops es) ≡ filter_map line_of es
lines_tops [] = refl
lines_tops (e ∷ es) = elim e.1.top as (λ o. map {B = Option Key × ℤ × ℤ} (λ (e : Option Key × (ℤ × ℤ)). (e.0, e.1.0, e.1.1)) (cons_option (option_map (λ (top : ℤ × ℤ). (e.0, top)) o) (tops es)) ≡ cons_option {X = Option Key × ℤ × ℤ} (option_map (λ (top : ℤ × ℤ). (e.0, top.0, top.1)) o) (filter_map line_of es)) [
  | None ↦ lines_tops es
  | Some top ↦ let line : Option Key × ℤ × ℤ = (e.0, top.0, top.1) in ap (λ (ls : Lines). line ∷ ls) (lines_tops es)
]

-- the lines of the kept min-maxes are the lines of all row groups joined
lines-all : (es : Entries) (count : ℕ) → AreReserved count (holders_of es) → AllByRecursion IsTopped es → IsStrictlySortedBy line_cmp (map (λ (e : Option Key × Holding). e.0) es)
    → filter_map line_of es ≡ lines_by_key (all_groups (groups_in (holders_of es) count))
lines-all es count kept topped sorted =
    sym (lines_tops es)
    ∙ ap (map {B = Option Key × ℤ × ℤ} (λ (e : Option Key × (ℤ × ℤ)). (e.0, e.1.0, e.1.1))) (sym (entries-by_key (tops es) (sorted_tops es sorted)))
    ∙ ap lines_by_key (same (by_key (tops es)) (all_groups (groups_in (holders_of es) count)) (λ q. get_at (tops es) q ∙ tops_at es q (sorted_distinct es sorted) ∙ ap top_in (sym (get_at es q)) ∙ sym (get-tops es count q kept topped)))

-- a map is made from its own entries
made_of_own : (m : Holders) → holders_of (fin.entries m) ≡ m
made_of_own m = same _ _ (λ q. fin.get-from_entries line_total (fin.entries m) q ∙ sym (fin.get-entries m q))

-- the lines of a map's own entries are the lines of all row groups joined
pub lines-held : (m : Holders) (count : ℕ) → AreReserved count m → AllByRecursion IsTopped (fin.entries m) → IsStrictlySortedBy line_cmp (fin.keys m)
    → filter_map line_of (fin.entries m) ≡ lines_by_key (all_groups (groups_in m count))
lines-held m count kept topped sorted =
    lines-all (fin.entries m) count (subst (AreReserved count) (sym (made_of_own m)) kept) topped sorted
    ∙ ap (λ n. lines_by_key (all_groups (groups_in n count))) (made_of_own m)

-- putting a min-max in a reserved row group adds none to unreserved row groups
pub reserved-put : (m m' : Holders) (count g : ℕ) (k : Option Key) (o : Option (ℤ × ℤ)) → AreReserved count m → g < count → IsPut m g k o m' → AreReserved count m'
reserved-put m m' count g k o kept l put h q le = put h q ∙ ap (λ b. cond (b && eq_by_cmp line_cmp q k) o (min_max_at m h q)) (off h g (λ e. omega arith)) ∙ kept h q le

none_in : (m : Holders) (g : ℕ) → ((q : Option Key) → min_max_at m g q ≡ None) → group_in m g ≡ fin.empty
none_in m g h = same _ _ (λ q. get-group_in m g q ∙ h q ∙ sym (fin.get-empty line_cmp q))

-- reserving more row groups appends row groups without rows
pub more-reserved : (m : Holders) (count more : ℕ) → AreReserved count m → groups_in m (count + more) ≡ groups_in m count ++ replicate more fin.empty
more-reserved m count zero kept = ap (groups_in m) none ∙ sym (append-nil (groups_in m count)) where
  none : count + 0 ≡ count
  none = omega arith
more-reserved m count (suc more) kept =
    ap (groups_in m) one
    ∙ (λ i. more-reserved m count more kept i ++ none_in m (count + more) (λ q. kept (count + more) q (omega arith)) i ∷ [])
    ∙ append_assoc (groups_in m count) (replicate more fin.empty) (fin.empty ∷ [])
    ∙ ap (λ es. groups_in m count ++ es) (last_one more) where
      one : count + suc more ≡ suc (count + more)
      one = omega arith

      last_one : (n : ℕ) → replicate n fin.empty ++ fin.empty ∷ [] ≡ replicate (suc n) (fin.empty {X = ℤ × ℤ} {R = line_cmp})
      last_one zero = refl
      last_one (suc n) = ap (λ es. fin.empty ∷ es) (last_one n)

-- a lookup in the extrema of a row group finds the key's min-max there, whether the row group is reserved or not
pub get-group_at : (m : Holders) (count g : ℕ) (q : Option Key) → AreReserved count m → fin.get (group_at (groups_in m count) g) q ≡ min_max_at m g q
get-group_at m count g q kept = elim (order g count) [
  | inl l ↦ ap (λ e. fin.get e q) (group_at-in m count g l) ∙ get-group_in m g q
  | inr l ↦ ap (λ e. fin.get e q) (past_reserved (groups_in m count) g (omega (arith, length-groups_in m count))) ∙ fin.get-empty line_cmp q ∙ sym (kept g q l)
]

both_false : (b : Bool) → (b && false) ≡ false
both_false true = refl
both_false false = refl

-- setting one row group of one key's holding
pub put-set : (m : Holders) (k : Option Key) (t t' : Holding) (g : ℕ) (o : Option (ℤ × ℤ)) → fin.get m k ≡ Some t → IsSet t.min_maxes g o t'.min_maxes → IsPut m g k o (fin.insert m k t')
put-set m k t t' g o there set h q =
    ap (λ p. min_max_in p h) (fin.get-insert line_total m k t' q)
    ∙ elim (eq_by_cmp line_cmp q k) as (λ b. eq_by_cmp line_cmp q k ≡ b → min_max_in (cond b (Some t') (fin.get m q)) h ≡ cond (h == g && b) o (min_max_at m h q)) [
      | true ↦ λ e. set h ∙ sym (λ i. cond (and_true (h == g) i) o (min_max_in ((ap (fin.get m) (same_key q k e) ∙ there) i) h))
      | false ↦ λ e. sym (ap (λ b. cond b o (min_max_at m h q)) (both_false (h == g)))
    ] refl where
      and_true : (b : Bool) → (b && true) ≡ b
      and_true true = refl
      and_true false = refl

-- inserting a key with one row group
pub put-new : (m : Holders) (k : Option Key) (t : Holding) (g : ℕ) (x : ℤ × ℤ) → fin.get m k ≡ None → t.min_maxes ≡ (g, x) ∷ [] → IsPut m g k (Some x) (fin.insert m k t)
put-new m k t g x absent one h q =
    ap (λ p. min_max_in p h) (fin.get-insert line_total m k t q)
    ∙ elim (eq_by_cmp line_cmp q k) as (λ b. eq_by_cmp line_cmp q k ≡ b → min_max_in (cond b (Some t) (fin.get m q)) h ≡ cond (h == g && b) (Some x) (min_max_at m h q)) [
      | true ↦ λ e. ap (λ s. at s h) one ∙ sym (λ i. cond (and_true (h == g) i) (Some x) (min_max_in ((ap (fin.get m) (same_key q k e) ∙ absent) i) h))
      | false ↦ λ e. sym (ap (λ b. cond b (Some x) (min_max_at m h q)) (both_false (h == g)))
    ] refl where
      and_true : (b : Bool) → (b && true) ≡ b
      and_true true = refl
      and_true false = refl

-- inserting the holding that a key already has changes nothing
pub put-same : (m : Holders) (k : Option Key) (t : Holding) → fin.get m k ≡ Some t → fin.insert m k t ≡ m
put-same m k t h = same _ _ (λ q.
    fin.get-insert line_total m k t q
    ∙ elim (eq_by_cmp line_cmp q k) as (λ b. eq_by_cmp line_cmp q k ≡ b → cond b (Some t) (fin.get m q) ≡ fin.get m q) [
      | true ↦ λ e. sym (ap (fin.get m) (same_key q k e) ∙ h)
      | false ↦ λ e. refl
    ] refl)

-- putting the min-max that a key already has changes nothing
pub put-own : (m : Holders) (g : ℕ) (k : Option Key) (x : ℤ × ℤ) → min_max_at m g k ≡ Some x → IsPut m g k (Some x) m
put-own m g k x there h q = elim (h == g) as (λ a. (h == g) ≡ a → min_max_at m h q ≡ cond (a && eq_by_cmp line_cmp q k) (Some x) (min_max_at m h q)) [
  | true ↦ λ e. elim (eq_by_cmp line_cmp q k) as (λ b. eq_by_cmp line_cmp q k ≡ b → min_max_at m h q ≡ cond b (Some x) (min_max_at m h q)) [
    | true ↦ λ s. (λ i. min_max_at m (here h g e i) (same_key q k s i)) ∙ there
    | false ↦ λ s. refl
  ] refl
  | false ↦ λ e. refl
] refl

-- observing a value
pub observed-in : (m m' : Holders) (count g : ℕ) (k : Option Key) (v : ℤ) (o : Option (ℤ × ℤ)) → AreReserved count m → min_max_at m g k ≡ o → g < count → IsPut m g k (Some (min_max_with v o)) m' → groups_in m' count ≡ slice_set (groups_in m count) g (with_observed (group_at (groups_in m count) g) (k, v))
observed-in m m' count g k v o kept previous l put =
    put-in m m' count g k (Some (min_max_with v o)) l put
    ∙ ap (λ p. slice_set (groups_in m count) g (put_min_max (group_at (groups_in m count) g) k (Some (min_max_with v p)))) (sym (get-group_at m count g k kept ∙ previous))

-- no row group has keys in an empty map
pub reserved-empty : (m : Holders) (count : ℕ) → ((q : Option Key) → fin.get m q ≡ None) → AreReserved count m
reserved-empty m count none g q l = ap (λ o. min_max_in o g) (none q)

pub widened_within : (v : ℤ) (s : ℤ × ℤ) → s.0 ≤ℤ v → v ≤ℤ s.1 → min_max_with v (Some s) ≡ s
widened_within v s low high =
    let least : int_min v s.0 ≡ s.0 = omega (arith, ints, int_min_is v s.0) in
    let greatest : int_max v s.1 ≡ s.1 = omega (arith, ints, int_max_is v s.1) in
    λ i. (least i, greatest i)

pub none_of : (o : Option (ℤ × ℤ)) → ((x : ℤ × ℤ) → o ≡ Some x → ⊥) → o ≡ None
none_of None not = refl
none_of (Some x) not = absurd (not x refl)

-- a key without row groups makes no line
pub line-skipped : (made all : Lines) (e : Option Key × Holding) (rest from : Entries) → e.1.top ≡ None → from ≡ e ∷ rest → made ++ filter_map line_of from ≡ all → made ++ filter_map line_of rest ≡ all
line-skipped made all e rest from none steps before =
    sym (ap (λ (o : Option (ℤ × ℤ)). made ++ cons_option {X = Option Key × ℤ × ℤ} (option_map (λ (top : ℤ × ℤ). (e.0, top.0, top.1)) o) (filter_map line_of rest)) none)
    ∙ sym (ap (λ es. made ++ filter_map line_of es) steps)
    ∙ before

pub line-pushed : (made new all : Lines) (e : Option Key × Holding) (rest from : Entries) (key : Option Key) (top : ℤ × ℤ) → e.1.top ≡ Some top → from ≡ e ∷ rest → key ≡ e.0 → new ≡ made ++ (key, top.0, top.1) ∷ [] → made ++ filter_map line_of from ≡ all → new ++ filter_map line_of rest ≡ all
line-pushed made new all e rest from key top some steps same is before =
    ap (λ n. n ++ filter_map line_of rest) is
    ∙ append_assoc made ((key, top.0, top.1) ∷ []) (filter_map line_of rest)
    ∙ ap (λ (k : Option Key). made ++ (k, top.0, top.1) ∷ filter_map line_of rest) same
    ∙ sym (ap (λ (o : Option (ℤ × ℤ)). made ++ cons_option {X = Option Key × ℤ × ℤ} (option_map (λ (top : ℤ × ℤ). (e.0, top.0, top.1)) o) (filter_map line_of rest)) some)
    ∙ sym (ap (λ es. made ++ filter_map line_of es) steps)
    ∙ before
