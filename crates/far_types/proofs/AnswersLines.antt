-- Laws of the lines of an answer.
use Rattle.std.proofs.Common.{◌≡◌, ℕ, suc, ◌-◌, ◌*◌, ◌^◌, ◌≤◌, Bool, true, false, cond, ◌||◌, ◌&&◌, List, [], ◌∷◌, length, map, refl, sym, ap, ◌∙◌, subst, arith, Option, Some, All}
use Rattle.std.specs.Prelude.{ℤ, pos, neg_ℤ, ◌≤ℤ◌, is_some, T, FitsSigned}
use Rattle.std.specs.Int.{w64, int_min, int_max}
use Rattle.std.specs.List.{AllByRecursion, list_any}
use Rattle.std.specs.List.Sorted.{IsStrictlySortedBy}
use Rattle.std.specs.Ordering.{is_lt, is_eq, eq_by_cmp, ordering_reverse}
use Rattle.std.specs.declared.cmp.Ordering.{Ordering}
use Rattle.std.specs.declared.cmp.Ordering.TheVariants.{Less, Equal, Greater}
use Rattle.std.proofs.lemmas.Int.{ints}
use Rattle.std.proofs.lemmas.List.Elements.{All-nil, All-cons, All-map}
use Rattle.std.specs.FinMap as fin
use Rattle.std.specs.FinMap.Entries.{below_all, is_sorted}
use Rattle.far_types.specs.declared.key.Key.{Key}
use Rattle.far_types.specs.Keys.{line_cmp}
use Rattle.far_types.specs.KeyOrder.{line_total}
use Rattle.far_types.specs.Pairs.{Pair, PairsFit}
use Rattle.far_types.specs.Answers.{ByKey, is_under, values_of, grouped, count_sum, int_sum, min_max, picked, totals, lines_by_key, extrema}
use Rattle.far_types.proofs.AnswersGrouping.{own_key, if_any, get-grouped, values_of-cons}

both : (a b : Bool) → T (a && b) → T a × T b
both true b h = (tt, h)
both false b h = absurd h

is_less : (r : Ordering) → T (is_lt r) → r ≡ Less
is_less Less h = refl
is_less Equal h = absurd h
is_less Greater h = absurd h

to_all : {X : Type 0} (P : X → Type 0) (xs : List X) → AllByRecursion P xs → All P xs
to_all P [] h = All-nil P
to_all P (x ∷ xs) h = All-cons P x xs h.0 (to_all P xs h.1)

each : {X : Type 0} (P Q : X → Type 0) → ((x : X) → P x → Q x) → (xs : List X) → AllByRecursion P xs → AllByRecursion Q xs
each P Q f [] h = tt
each P Q f (x ∷ xs) h = (f x h.0, each P Q f xs h.1)

module _ {V : Type 0} where
  -- an entry whose key is above the first key is found after the first entry
  passed : (e : Option Key × V) (es xs : List (Option Key × V)) → T (below_all line_cmp e.0 xs) → AllByRecursion (λ (x : Option Key × V). fin.find line_cmp x.0 es ≡ Some x.1) xs → AllByRecursion (λ (x : Option Key × V). fin.find line_cmp x.0 (e ∷ es) ≡ Some x.1) xs
  passed e es [] above found = tt
  passed e es (x ∷ xs) above found =
      let parts = both _ _ above in
      let greater : line_cmp x.0 e.0 ≡ Greater = line_total.antisymm x.0 e.0 ∙ ap ordering_reverse (is_less _ parts.0) in
      (ap (λ r. cond (is_eq r) (Some e.1) (fin.find line_cmp x.0 es)) greater ∙ found.0, passed e es xs parts.1 found.1)

  found_itself : (es : List (Option Key × V)) → T (is_sorted line_cmp es) → AllByRecursion (λ (e : Option Key × V). fin.find line_cmp e.0 es ≡ Some e.1) es
  found_itself [] sorted = tt
  found_itself (e ∷ es) sorted =
      let parts = both _ _ sorted in
      (ap (λ b. cond b (Some e.1) (fin.find line_cmp e.0 es)) (own_key e.0), passed e es es parts.0 (found_itself es parts.1))

  -- a map has the value of each of its entries at the key of the entry
  pub get-entry : (m : ByKey V) → AllByRecursion (λ (e : Option Key × V). fin.get m e.0 ≡ Some e.1) (fin.entries m)
  get-entry m = each _ _ (λ (e : Option Key × V) found. fin.get-entries m e.0 ∙ found) (fin.entries m) (found_itself (fin.entries m) (fin.entries_sorted m))

  below : (k : Option Key) (es : List (Option Key × V)) → T (below_all line_cmp k es) → AllByRecursion (λ q. line_cmp k q ≡ Less) (map (λ (e : Option Key × V). e.0) es)
  below k [] h = tt
  below k (e ∷ es) h = let parts = both _ _ h in (is_less _ parts.0, below k es parts.1)

  ascending : (es : List (Option Key × V)) → T (is_sorted line_cmp es) → IsStrictlySortedBy line_cmp (map (λ (e : Option Key × V). e.0) es)
  unfolding IsStrictlySortedBy
  ascending [] h = tt
  ascending (e ∷ es) h = let parts = both _ _ h in (below e.0 es parts.0, ascending es parts.1)

  pub keys-ascend : (m : ByKey V) → IsStrictlySortedBy line_cmp (fin.keys m)
  keys-ascend m = ascending (fin.entries m) (fin.entries_sorted m)

  any-value : (fold : List ℤ → V) (q : Option Key) (ps : List Pair) (x : V) → is_some (if_any (values_of q ps) x) ≡ list_any (is_under q) ps
  any-value fold q [] x = refl
  any-value fold q (p ∷ ps) x =
      ap (λ vs. is_some (if_any vs x)) (values_of-cons q p ps)
      ∙ elim (is_under q p) as (λ b. is_some (if_any (cond b (p.1 ∷ values_of q ps) (values_of q ps)) x) ≡ (b || list_any (is_under q) ps)) [ true ↦ refl | false ↦ any-value fold q ps x ]

  pub keys-occur : (fold : List ℤ → V) (ps : List Pair) (q : Option Key) → list_any (eq_by_cmp line_cmp q) (fin.keys (grouped fold ps)) ≡ list_any (is_under q) ps
  keys-occur fold ps q = sym (fin.contains_key-keys (grouped fold ps) q) ∙ ap is_some (get-grouped fold ps q) ∙ any-value fold q ps _

  folded : (fold : List ℤ → V) (vs : List ℤ) (x : V) → if_any vs (fold vs) ≡ Some x → (x ≡ fold vs) × (1 ≤ length vs)
  folded fold [] x h = cc
  folded fold (v ∷ vs) x h = (cc, omega arith)

  -- each entry has the fold of its key's values, of which there is at least one
  pub entries-folded : (fold : List ℤ → V) (ps : List Pair) → AllByRecursion (λ (e : Option Key × V). (e.1 ≡ fold (values_of e.0 ps)) × (1 ≤ length (values_of e.0 ps))) (fin.entries (grouped fold ps))
  entries-folded fold ps = each _ _ (λ (e : Option Key × V) got. folded fold (values_of e.0 ps) e.1 (sym (get-grouped fold ps e.0) ∙ got)) (fin.entries (grouped fold ps)) (get-entry (grouped fold ps))

-- lines have the keys of the entries that they are made from
keys-lines : {A B : Type 0} (es : List (Option Key × (A × B))) → map (λ (line : Option Key × A × B). line.0) (map (λ (entry : Option Key × (A × B)). (entry.0, entry.1.0, entry.1.1)) es) ≡ map (λ (entry : Option Key × (A × B)). entry.0) es
keys-lines [] = refl
keys-lines (e ∷ es) = ap (λ ks. e.0 ∷ ks) (keys-lines es)

-- if each entry has a property P, each line has a property Q that follows from P
lines-all : {A B : Type 0} (P : Option Key × (A × B) → Type 0) (Q : Option Key × A × B → Type 0) → ((e : Option Key × (A × B)) → P e → Q (e.0, e.1.0, e.1.1)) → (es : List (Option Key × (A × B))) → AllByRecursion P es → All Q (map (λ (entry : Option Key × (A × B)). (entry.0, entry.1.0, entry.1.1)) es)
lines-all P Q f es h = All-map Q _ es (to_all _ es (each P _ f es h))

pub total_lines-ascend : (ps : List Pair) → IsStrictlySortedBy line_cmp (map (λ (line : Option Key × ℕ × ℤ). line.0) (lines_by_key (totals ps)))
total_lines-ascend ps = subst (IsStrictlySortedBy line_cmp) (sym (keys-lines (fin.entries (totals ps)))) (keys-ascend (totals ps))

pub total_lines-occur : (ps : List Pair) (q : Option Key) → list_any (eq_by_cmp line_cmp q) (map (λ (line : Option Key × ℕ × ℤ). line.0) (lines_by_key (totals ps))) ≡ list_any (is_under q) ps
total_lines-occur ps q = ap (list_any (eq_by_cmp line_cmp q)) (keys-lines (fin.entries (totals ps))) ∙ keys-occur count_sum ps q

total_lines-all : (ps : List Pair) (Q : Option Key × ℕ × ℤ → Type 0) → ((e : Option Key × (ℕ × ℤ)) → (e.1 ≡ count_sum (values_of e.0 ps)) × (1 ≤ length (values_of e.0 ps)) → Q (e.0, e.1.0, e.1.1)) → All Q (lines_by_key (totals ps))
total_lines-all ps Q f = lines-all _ Q f (fin.entries (totals ps)) (entries-folded count_sum ps)

pub total_lines-count : (ps : List Pair) → All (λ (line : Option Key × ℕ × ℤ). line.1 ≡ length (values_of line.0 ps)) (lines_by_key (totals ps))
total_lines-count ps = total_lines-all ps (λ (line : Option Key × ℕ × ℤ). line.1 ≡ length (values_of line.0 ps)) (λ e is. ap (λ t. t.0) is.0)

pub total_lines-sum : (ps : List Pair) → All (λ (line : Option Key × ℕ × ℤ). line.2 ≡ int_sum (values_of line.0 ps)) (lines_by_key (totals ps))
total_lines-sum ps = total_lines-all ps (λ (line : Option Key × ℕ × ℤ). line.2 ≡ int_sum (values_of line.0 ps)) (λ e is. ap (λ t. t.1) is.0)

pub total_lines-counted : (ps : List Pair) → All (λ (line : Option Key × ℕ × ℤ). 1 ≤ line.1) (lines_by_key (totals ps))
total_lines-counted ps = total_lines-all ps (λ (line : Option Key × ℕ × ℤ). 1 ≤ line.1) (λ e is. let P : ℕ → Type 0 = λ n. 1 ≤ n in subst P (sym (ap (λ t. t.0) is.0)) is.1)

abbrev ValuesFit : List ℤ → Type 0
ValuesFit values = AllByRecursion (FitsSigned w64) values

values_of-fit : (q : Option Key) (ps : List Pair) → PairsFit ps → ValuesFit (values_of q ps)
values_of-fit q [] h = tt
values_of-fit q (p ∷ ps) h = subst ValuesFit (sym (values_of-cons q p ps)) (elim (is_under q p) as (λ b. ValuesFit (cond b (p.1 ∷ values_of q ps) (values_of q ps))) [ true ↦ (h.0, values_of-fit q ps h.1) | false ↦ values_of-fit q ps h.1 ])

length-values_of : (q : Option Key) (ps : List Pair) → length (values_of q ps) ≤ length ps
length-values_of q [] = omega arith
length-values_of q (p ∷ ps) =
    let rest = length-values_of q ps in
    let P : List ℤ → Type 0 = λ vs. length vs ≤ suc (length ps) in
    subst P (sym (values_of-cons q p ps)) (elim (is_under q p) as (λ b. length (cond b (p.1 ∷ values_of q ps) (values_of q ps)) ≤ suc (length ps)) [ true ↦ omega arith | false ↦ omega arith ])

pub int_sum-low : (vs : List ℤ) → ValuesFit vs → neg_ℤ (pos (length vs * 2 ^ 63)) ≤ℤ int_sum vs
int_sum-low [] h = omega (arith, ints)
int_sum-low (v ∷ vs) h = let rest = int_sum-low vs h.1 in let fits = h.0 in omega (arith, ints)

pub int_sum-high : (vs : List ℤ) → ValuesFit vs → int_sum vs ≤ℤ pos (length vs * (2 ^ 63 - 1))
int_sum-high [] h = omega (arith, ints)
int_sum-high (v ∷ vs) h = let rest = int_sum-high vs h.1 in let fits = h.0 in omega (arith, ints)

within : (n : ℕ) (s : ℤ) → n ≤ 2 ^ 26 → neg_ℤ (pos (n * 2 ^ 63)) ≤ℤ s → s ≤ℤ pos (n * (2 ^ 63 - 1)) → (neg_ℤ (pos (2 ^ 89)) ≤ℤ s) × (s ≤ℤ pos (2 ^ 89))
within n s few low high = (omega (arith, ints), omega (arith, ints))

pub total_lines-bounded : (ps : List Pair) → PairsFit ps → length ps ≤ 2 ^ 26 → All (λ (line : Option Key × ℕ × ℤ). (neg_ℤ (pos (2 ^ 89)) ≤ℤ line.2) × (line.2 ≤ℤ pos (2 ^ 89))) (lines_by_key (totals ps))
total_lines-bounded ps fit few = total_lines-all ps (λ (line : Option Key × ℕ × ℤ). (neg_ℤ (pos (2 ^ 89)) ≤ℤ line.2) × (line.2 ≤ℤ pos (2 ^ 89))) (λ e is.
    let vs = values_of e.0 ps in
    let fits = values_of-fit e.0 ps fit in
    let shorter = length-values_of e.0 ps in
    subst (λ (s : ℤ). (neg_ℤ (pos (2 ^ 89)) ≤ℤ s) × (s ≤ℤ pos (2 ^ 89))) (sym (ap (λ t. t.1) is.0)) (within (length vs) (int_sum vs) (omega arith) (int_sum-low vs fits) (int_sum-high vs fits)))

pub extrema_lines-ascend : (ps : List Pair) → IsStrictlySortedBy line_cmp (map (λ (line : Option Key × ℤ × ℤ). line.0) (lines_by_key (extrema ps)))
extrema_lines-ascend ps = subst (IsStrictlySortedBy line_cmp) (sym (keys-lines (fin.entries (extrema ps)))) (keys-ascend (extrema ps))

pub extrema_lines-occur : (ps : List Pair) (q : Option Key) → list_any (eq_by_cmp line_cmp q) (map (λ (line : Option Key × ℤ × ℤ). line.0) (lines_by_key (extrema ps))) ≡ list_any (is_under q) ps
extrema_lines-occur ps q = ap (list_any (eq_by_cmp line_cmp q)) (keys-lines (fin.entries (extrema ps))) ∙ keys-occur min_max ps q

pub extrema_lines-least : (ps : List Pair) → All (λ (line : Option Key × ℤ × ℤ). line.1 ≡ picked int_min (values_of line.0 ps)) (lines_by_key (extrema ps))
extrema_lines-least ps = lines-all _ (λ (line : Option Key × ℤ × ℤ). line.1 ≡ picked int_min (values_of line.0 ps)) (λ e is. ap (λ t. t.0) is.0) (fin.entries (extrema ps)) (entries-folded min_max ps)

pub extrema_lines-greatest : (ps : List Pair) → All (λ (line : Option Key × ℤ × ℤ). line.2 ≡ picked int_max (values_of line.0 ps)) (lines_by_key (extrema ps))
extrema_lines-greatest ps = lines-all _ (λ (line : Option Key × ℤ × ℤ). line.2 ≡ picked int_max (values_of line.0 ps)) (λ e is. ap (λ t. t.1) is.0) (fin.entries (extrema ps)) (entries-folded min_max ps)
