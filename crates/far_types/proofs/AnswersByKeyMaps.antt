-- Tree maps by key, and the finite maps of their entries.
use Rattle.std.proofs.Common.{◌≡◌, ℕ, zero, suc, take, Bool, true, false, cond, ◌&&◌, List, [], ◌∷◌, ◌++◌, map, refl, sym, ap, ◌∙◌, Option, None, Some}
use Rattle.std.specs.Prelude.{ℤ, T, is_some}
use Rattle.std.specs.Option.{option_map_or}
use Rattle.std.specs.List.{AllByRecursion}
use Rattle.std.specs.List.Sorted.{IsStrictlySortedBy}
use Rattle.std.specs.FinMap.Entries.{below_all, is_sorted}
use Rattle.std.specs.declared.cmp.Ordering.TheVariants.{Less}
use Rattle.std.specs.Map.{lookup}
use Rattle.std.specs.Ordering.{eq_by_cmp, is_eq}
use Rattle.std.specs.BTreeMap.{is_at}
use Rattle.std.specs.Cmp.{eq_by_cmp_equiv}
use Rattle.std.specs.FinMap as fin
use Rattle.far_types.specs.declared.key.Key.{Key}
use Rattle.far_types.specs.Keys.{line_cmp}
use Rattle.far_types.specs.KeyOrder.{line_total}
use Rattle.far_types.specs.Answers.{ByKey, grouped, values_of}
use Rattle.far_types.specs.Effects.{merge_two, joined}
use Rattle.far_types.proofs.AnswersGrouping.{same, same_key, own_key, get-joined, if_any, get-grouped, values_of-cons}

abbrev pub Entries : Type 0 → Type 0
Entries V = List (Option Key × V)

-- the value that a tree map with these entries has at a key
abbrev pub at : {V : Type 0} → Entries V → Option Key → Option V
at es q = lookup (is_at (line_cmp q)) es

-- the finite map of the entries
abbrev pub by_key : {V : Type 0} → Entries V → ByKey V
by_key es = fin.from_entries es

pub find_at : {V : Type 0} (es : Entries V) (q : Option Key) → fin.find line_cmp q es ≡ at es q
find_at [] q = refl
find_at (e ∷ es) q = ap (cond (is_at (line_cmp q) e.0) (Some e.1)) (find_at es q)

-- the finite map has the values of the tree map
pub get_at : {V : Type 0} (es : Entries V) (q : Option Key) → fin.get (by_key es) q ≡ at es q
get_at es q = fin.get-from_entries line_total es q ∙ find_at es q

-- the new entries have o at the key k, and the old value at each other key
abbrev pub IsSet : {V : Type 0} → Entries V → Entries V → Option Key → Option V → Type 0
IsSet old new k o = (q : Option Key) → at new q ≡ cond (is_at (line_cmp k) q) o (at old q)

pub set_inserts : {V : Type 0} (old new : Entries V) (k : Option Key) (x : V) → IsSet old new k (Some x) → by_key new ≡ fin.insert (by_key old) k x
set_inserts old new k x h = same _ _ (λ q.
    get_at new q ∙ h q ∙ ap (λ b. cond b (Some x) (at old q)) ((eq_by_cmp_equiv line_total).symm k q)
    ∙ sym (fin.get-insert line_total (by_key old) k x q ∙ ap (cond (eq_by_cmp line_cmp q k) (Some x)) (get_at old q)))

pub set_removes : {V : Type 0} (old new : Entries V) (k : Option Key) → IsSet old new k None → by_key new ≡ fin.remove (by_key old) k
set_removes old new k h = same _ _ (λ q.
    get_at new q ∙ h q ∙ ap (λ b. cond b None (at old q)) ((eq_by_cmp_equiv line_total).symm k q)
    ∙ sym (fin.get-remove line_total (by_key old) k q ∙ ap (cond (eq_by_cmp line_cmp q k) None) (get_at old q)))

T_both : (a b : Bool) → T a → T b → T (a && b)
T_both true b p q = q
T_both false b p q = p

below : {V : Type 0} (x : Option Key) (es : Entries V) → AllByRecursion (λ y. line_cmp x y ≡ Less) (map (λ (e : Option Key × V). e.0) es) → T (below_all line_cmp x es)
below x [] h = tt
below x (e ∷ es) h = rw h.0 (below x es h.1)

sorted : {V : Type 0} (es : Entries V) → IsStrictlySortedBy line_cmp (map (λ (e : Option Key × V). e.0) es) → T (is_sorted line_cmp es)
unfolding IsStrictlySortedBy
sorted [] h = tt
sorted (e ∷ es) h = T_both _ _ (below e.0 es h.0) (sorted es h.1)

-- the finite map of a tree map's entries has these entries
pub entries-by_key : {V : Type 0} (es : Entries V) → IsStrictlySortedBy line_cmp (map (λ (e : Option Key × V). e.0) es) → fin.entries (by_key es) ≡ es
entries-by_key es h =
    ap fin.entries (same (by_key es) (fin.from_sorted es) (λ q. fin.get-from_entries line_total es q ∙ sym (fin.get-from_sorted line_cmp es q (sorted es h))))
    ∙ fin.entries-from_sorted line_cmp es (sorted es h)

-- if a key is set twice, the second value counts
pub set_again : {V : Type 0} (one two three : Entries V) (k : Option Key) (x y : Option V) → IsSet one two k x → IsSet two three k y → IsSet one three k y
set_again one two three k x y h g q = g q ∙ ap (cond (is_at (line_cmp k) q) y) (h q) ∙ elim (is_at (line_cmp k) q) as (λ b. cond b y (cond b x (at one q)) ≡ cond b y (at one q)) [ true ↦ refl | false ↦ refl ]

-- no key occurs twice in the entries
abbrev pub HaveDistinctKeys : {V : Type 0} → Entries V → Type 0
HaveDistinctKeys [] = Unit {0}
HaveDistinctKeys (e ∷ es) = (at es e.0 ≡ None) × HaveDistinctKeys es

at_below : {V : Type 0} (x : Option Key) (es : Entries V) → AllByRecursion (λ y. line_cmp x y ≡ Less) (map (λ (e : Option Key × V). e.0) es) → at es x ≡ None
at_below x [] h = refl
at_below x (e ∷ es) h = ap (λ r. cond (is_eq r) (Some e.1) (at es x)) h.0 ∙ at_below x es h.1

pub sorted_distinct : {V : Type 0} (es : Entries V) → IsStrictlySortedBy line_cmp (map (λ (e : Option Key × V). e.0) es) → HaveDistinctKeys es
unfolding IsStrictlySortedBy
sorted_distinct [] h = tt
sorted_distinct (e ∷ es) h = (at_below e.0 es h.0, sorted_distinct es h.1)

still_none : {V : Type 0} (b : Bool) (x : V) (o p : Option V) → (o ≡ None → p ≡ None) → cond b (Some x) o ≡ None → cond b (Some x) p ≡ None
still_none true x o p f h = cc
still_none false x o p f h = f h

at-take : {V : Type 0} (n : ℕ) (es : Entries V) (q : Option Key) → at es q ≡ None → at (take n es) q ≡ None
at-take zero es q h = refl
at-take (suc n) [] q h = refl
at-take (suc n) (e ∷ es) q h = still_none (is_at (line_cmp q) e.0) e.1 (at es q) (at (take n es) q) (at-take n es q) h

pub take_distinct : {V : Type 0} (n : ℕ) (es : Entries V) → HaveDistinctKeys es → HaveDistinctKeys (take n es)
take_distinct zero es h = tt
take_distinct (suc n) [] h = tt
take_distinct (suc n) (e ∷ es) h = (at-take n es e.0 h.0, take_distinct n es h.1)

-- an inserted value is found
pub get_inserted : {V : Type 0} (m : ByKey V) (k : Option Key) (x : V) → fin.get (fin.insert m k x) k ≡ Some x
get_inserted m k x = fin.get-insert line_total m k x k ∙ ap (λ b. cond b (Some x) (fin.get m k)) (own_key k)

-- a removal undoes an insert under a new key
pub insert_undone : {V : Type 0} (m : ByKey V) (k : Option Key) (x : V) → fin.get m k ≡ None → fin.remove (fin.insert m k x) k ≡ m
insert_undone m k x none = same _ _ (λ q.
    fin.get-remove line_total (fin.insert m k x) k q
    ∙ ap (cond (eq_by_cmp line_cmp q k) None) (fin.get-insert line_total m k x q)
    ∙ elim (eq_by_cmp line_cmp q k) as (λ b. eq_by_cmp line_cmp q k ≡ b → cond b None (cond b (Some x) (fin.get m q)) ≡ fin.get m q) [
      | true ↦ λ h. sym (ap (fin.get m) (same_key q k h) ∙ none)
      | false ↦ λ h. refl
    ] refl)

-- an insert of the old value undoes an insert under a key that had a value
pub insert_again : {V : Type 0} (m : ByKey V) (k : Option Key) (x y : V) → fin.get m k ≡ Some y → fin.insert (fin.insert m k x) k y ≡ m
insert_again m k x y some = same _ _ (λ q.
    fin.get-insert line_total (fin.insert m k x) k y q
    ∙ ap (cond (eq_by_cmp line_cmp q k) (Some y)) (fin.get-insert line_total m k x q)
    ∙ elim (eq_by_cmp line_cmp q k) as (λ b. eq_by_cmp line_cmp q k ≡ b → cond b (Some y) (cond b (Some x) (fin.get m q)) ≡ fin.get m q) [
      | true ↦ λ h. sym (ap (fin.get m) (same_key q k h) ∙ some)
      | false ↦ λ h. refl
    ] refl)

-- the old value joined with `more`, or only `more` if there was no value
abbrev pub with_more : {V : Type 0} → (V → V → V) → V → Option V → V
with_more join more o = option_map_or (λ x. join x more) o more

-- the map with `more` added under a key
abbrev pub with_value : {V : Type 0} → (V → V → V) → ByKey V → Option Key → V → ByKey V
with_value join m k more = fin.insert m k (with_more join more (fin.get m k))

nothing : {V : Type 0} (o : Option V) → is_some o ≡ false → o ≡ None
nothing None h = refl
nothing (Some x) h = cc

-- an insert under a key that the entries did not have
pub inserted_new : {V : Type 0} (join : V → V → V) (old mid new : Entries V) (k q : Option Key) (more : V) → mid ≡ old → k ≡ q → is_some (fin.get (by_key old) q) ≡ false → IsSet mid new k (Some more) → by_key new ≡ with_value join (by_key old) q more
inserted_new join old mid new k q more same_entries same_key absent set =
    set_inserts mid new k more set
    ∙ (λ i. fin.insert (by_key (same_entries i)) (same_key i) more)
    ∙ ap (λ o. fin.insert (by_key old) q (with_more join more o)) (sym (nothing _ absent))

merged_more : {V : Type 0} (join : V → V → V) (o : Option V) (x : V) → merge_two join o (Some x) ≡ Some (with_more join x o)
merged_more join None x = refl
merged_more join (Some y) x = refl

pub merge_two_none : {V : Type 0} (join : V → V → V) (o : Option V) → merge_two join o None ≡ o
merge_two_none join None = refl
merge_two_none join (Some x) = refl

pub joined-empty : {V : Type 0} (join : V → V → V) (m : ByKey V) → joined join m fin.empty ≡ m
joined-empty join m = same _ _ (λ q. get-joined join m fin.empty q ∙ ap (merge_two join (fin.get m q)) (fin.get-empty line_cmp q) ∙ merge_two_none join (fin.get m q))

-- a value under a key that the second map lacks may be added to either map before they are joined
moved : {V : Type 0} (join : V → V → V) (m n : ByKey V) (k : Option Key) (x : V) → fin.get n k ≡ None → joined join (with_value join m k x) n ≡ joined join m (fin.insert n k x)
moved join m n k x none = same _ _ (λ q.
    get-joined join (with_value join m k x) n q
    ∙ ap (λ o. merge_two join o (fin.get n q)) (fin.get-insert line_total m k (with_more join x (fin.get m k)) q)
    ∙ elim (eq_by_cmp line_cmp q k) as (λ b. eq_by_cmp line_cmp q k ≡ b → merge_two join (cond b (Some (with_more join x (fin.get m k))) (fin.get m q)) (fin.get n q) ≡ merge_two join (fin.get m q) (cond b (Some x) (fin.get n q))) [
      | true ↦ λ h.
          let key = same_key q k h in
          ap (merge_two join (Some (with_more join x (fin.get m k)))) (ap (fin.get n) key ∙ none)
          ∙ sym (merged_more join (fin.get m k) x)
          ∙ ap (λ y. merge_two join (fin.get m y) (Some x)) (sym key)
      | false ↦ λ h. refl
    ] refl
    ∙ ap (merge_two join (fin.get m q)) (sym (fin.get-insert line_total n k x q))
    ∙ sym (get-joined join m (fin.insert n k x) q))

-- such a value may also be added after the maps are joined
pub moved_out : {V : Type 0} (join : V → V → V) (m n : ByKey V) (k : Option Key) (x : V) → fin.get n k ≡ None → joined join m (fin.insert n k x) ≡ with_value join (joined join m n) k x
moved_out join m n k x none = same _ _ (λ q.
    get-joined join m (fin.insert n k x) q
    ∙ ap (merge_two join (fin.get m q)) (fin.get-insert line_total n k x q)
    ∙ elim (eq_by_cmp line_cmp q k) as (λ b. eq_by_cmp line_cmp q k ≡ b → merge_two join (fin.get m q) (cond b (Some x) (fin.get n q)) ≡ cond b (Some (with_more join x (fin.get (joined join m n) k))) (fin.get (joined join m n) q)) [
      | true ↦ λ h.
          ap (λ y. merge_two join (fin.get m y) (Some x)) (same_key q k h)
          ∙ merged_more join (fin.get m k) x
          ∙ ap (λ o. Some (with_more join x o)) (sym (get-joined join m n k ∙ ap (merge_two join (fin.get m k)) none ∙ merge_two_none join (fin.get m k)))
      | false ↦ λ h. sym (get-joined join m n q)
    ] refl
    ∙ sym (fin.get-insert line_total (joined join m n) k _ q))

-- the map with all entries added, one after another
abbrev pub with_all : {V : Type 0} → (V → V → V) → ByKey V → Entries V → ByKey V
with_all join m [] = m
with_all join m (e ∷ es) = with_all join (with_value join m e.0 e.1) es

pub with_all-push : {V : Type 0} (join : V → V → V) (m : ByKey V) (es : Entries V) (e : Option Key × V) → with_all join m (es ++ e ∷ []) ≡ with_value join (with_all join m es) e.0 e.1
with_all-push join m [] e = refl
with_all-push join m (x ∷ es) e = with_all-push join (with_value join m x.0 x.1) es e

pub absent : {V : Type 0} (es : Entries V) (k : Option Key) → at es k ≡ None → fin.get (by_key es) k ≡ None
absent es k none = get_at es k ∙ none

-- adding all entries one after another joins the map of the entries
pub with_all-joined : {V : Type 0} (join : V → V → V) (m : ByKey V) (es : Entries V) → HaveDistinctKeys es → with_all join m es ≡ joined join m (by_key es)
with_all-joined join m [] h = sym (joined-empty join m)
with_all-joined join m (e ∷ es) h = with_all-joined join (with_value join m e.0 e.1) es h.1 ∙ moved join m (by_key es) e.0 e.1 (absent es e.0 h.0)

-- adding a value under a key joins a map of only that key
pub joined-one : {V : Type 0} (join : V → V → V) (m : ByKey V) (k : Option Key) (x : V) → with_value join m k x ≡ joined join m (fin.insert fin.empty k x)
joined-one join m k x =
    ap (λ n. with_value join n k x) (sym (joined-empty join m)) ∙ sym (moved_out join m fin.empty k x (fin.get-empty line_cmp k))

-- if all pairs have one key, that key has the fold of their values
pub grouped-one : {V : Type 0} (fold : List ℤ → V) (k : Option Key) (v : ℤ) (vs : List ℤ) → grouped fold (map (λ (value : ℤ). (k, value)) (v ∷ vs)) ≡ fin.insert fin.empty k (fold (v ∷ vs))
grouped-one fold k v vs = same _ _ (λ q.
    get-grouped fold (map (λ (value : ℤ). (k, value)) (v ∷ vs)) q
    ∙ ap (λ ws. if_any ws (fold ws)) (under q (v ∷ vs))
    ∙ elim (eq_by_cmp line_cmp q k) as (λ b. if_any (cond b (v ∷ vs) []) (fold (cond b (v ∷ vs) [])) ≡ cond b (Some (fold (v ∷ vs))) None) [ true ↦ refl | false ↦ refl ]
    ∙ ap (cond (eq_by_cmp line_cmp q k) (Some (fold (v ∷ vs)))) (sym (fin.get-empty line_cmp q))
    ∙ sym (fin.get-insert line_total fin.empty k (fold (v ∷ vs)) q)) where
      under : (q : Option Key) (ws : List ℤ) → values_of q (map (λ (value : ℤ). (k, value)) ws) ≡ cond (eq_by_cmp line_cmp q k) ws []
      under q [] = let nil : List ℤ = [] in elim (eq_by_cmp line_cmp q k) as (λ b. nil ≡ cond b nil nil) [ true ↦ refl | false ↦ refl ]
      under q (w ∷ ws) =
          values_of-cons q (k, w) (map (λ (value : ℤ). (k, value)) ws)
          ∙ ap (λ rest. cond (eq_by_cmp line_cmp q k) (w ∷ rest) rest) (under q ws)
          ∙ elim (eq_by_cmp line_cmp q k) as (λ b. cond b (w ∷ cond b ws []) (cond b ws []) ≡ cond b (w ∷ ws) []) [ true ↦ refl | false ↦ refl ]
