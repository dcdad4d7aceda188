-- Pairs grouped by key: the map of the keys that occur, each with the fold of its values.
use Rattle.std.proofs.Common.{◌≡◌, Bool, true, false, cond, ◌||◌, List, [], ◌∷◌, ◌++◌, map, filter, refl, sym, ap, ◌∙◌, Option, None, Some}
use Rattle.std.specs.Prelude.{ℤ, option_map, is_some}
use Rattle.std.specs.List.{filter_map, list_any, cons_option}
use Rattle.std.specs.Ordering.{is_eq, eq_by_cmp}
use Rattle.std.specs.declared.cmp.Ordering.{Ordering}
use Rattle.std.specs.declared.cmp.Ordering.TheVariants.{Less, Equal, Greater}
use Rattle.std.proofs.lemmas.Cmp.{tied_itself}
use Rattle.std.proofs.lemmas.List.{append-nil}
use Rattle.std.proofs.lemmas.List.Folds.{list_any-append}
use Rattle.std.specs.FinMap as fin
use Rattle.far_types.specs.declared.key.Key.{Key}
use Rattle.far_types.specs.Keys.{line_cmp}
use Rattle.far_types.specs.KeyOrder.{line_total, exact_line}
use Rattle.far_types.specs.Pairs.{Pair}
use Rattle.far_types.specs.Answers.{ByKey, is_under, values_of, grouped}
use Rattle.far_types.specs.Effects.{merge_two, joined}

is_equal : (r : Ordering) → is_eq r ≡ true → r ≡ Equal
is_equal Less h = cc
is_equal Equal h = refl
is_equal Greater h = cc

-- keys that compare as equal are the same key
pub same_key : (q k : Option Key) → eq_by_cmp line_cmp q k ≡ true → q ≡ k
same_key q k h = exact_line q k (is_equal _ h)

pub own_key : (k : Option Key) → eq_by_cmp line_cmp k k ≡ true
own_key k = ap is_eq (tied_itself line_total k)

-- two maps with the same value at each key are equal
pub same : {V : Type 0} (m n : ByKey V) → ((q : Option Key) → fin.get m q ≡ fin.get n q) → m ≡ n
same m n alike = fin.same_map line_total exact_line m n alike

-- x, unless the list is empty
abbrev pub if_any : {V : Type 0} → List ℤ → V → Option V
if_any [] x = None
if_any (value ∷ values) x = Some x

pub if_any-among : {V : Type 0} (vs : List ℤ) (v : ℤ) (ws : List ℤ) (x : V) → if_any (vs ++ v ∷ ws) x ≡ Some x
if_any-among [] v ws x = refl
if_any-among (w ∷ vs) v ws x = refl

pub values_of-cons : (q : Option Key) (p : Pair) (ps : List Pair) → values_of q (p ∷ ps) ≡ cond (is_under q p) (p.1 ∷ values_of q ps) (values_of q ps)
values_of-cons q p ps = elim (is_under q p) as (λ b. map (λ (pair : Pair). pair.1) (cond b (p ∷ filter (λ (pair : Pair). is_under q pair) ps) (filter (λ (pair : Pair). is_under q pair) ps)) ≡ cond b (p.1 ∷ values_of q ps) (values_of q ps)) [ true ↦ refl | false ↦ refl ]

pub values_of-append : (q : Option Key) (ps qs : List Pair) → values_of q (ps ++ qs) ≡ values_of q ps ++ values_of q qs
values_of-append q [] qs = refl
values_of-append q (p ∷ ps) qs =
    values_of-cons q p (ps ++ qs)
    ∙ ap (λ vs. cond (is_under q p) (p.1 ∷ vs) vs) (values_of-append q ps qs)
    ∙ elim (is_under q p) as (λ b. cond b (p.1 ∷ (values_of q ps ++ values_of q qs)) (values_of q ps ++ values_of q qs) ≡ cond b (p.1 ∷ values_of q ps) (values_of q ps) ++ values_of q qs) [ true ↦ refl | false ↦ refl ]
    ∙ ap (λ vs. vs ++ values_of q qs) (sym (values_of-cons q p ps))

find_keyed : {V : Type 0} (f : Option Key → V) (ps : List Pair) (q : Option Key) → fin.find line_cmp q (map (λ (p : Pair). (p.0, f p.0)) ps) ≡ if_any (values_of q ps) (f q)
find_keyed f [] q = refl
find_keyed f (p ∷ ps) q =
    elim (is_under q p) as (λ b. is_under q p ≡ b → cond b (Some (f p.0)) (fin.find line_cmp q (map (λ (p : Pair). (p.0, f p.0)) ps)) ≡ if_any (cond b (p.1 ∷ values_of q ps) (values_of q ps)) (f q)) [
      | true ↦ λ h. ap (λ k. Some (f k)) (sym (same_key q p.0 h))
      | false ↦ λ h. find_keyed f ps q
    ] refl
    ∙ ap (λ vs. if_any vs (f q)) (sym (values_of-cons q p ps))

-- a grouped map has a key if a pair has that key, with the fold of the key's values
pub get-grouped : {V : Type 0} (fold : List ℤ → V) (ps : List Pair) (q : Option Key) → fin.get (grouped fold ps) q ≡ if_any (values_of q ps) (fold (values_of q ps))
get-grouped fold ps q = fin.get-from_entries line_total _ q ∙ find_keyed (λ k. fold (values_of k ps)) ps q

-- the grouped map with one pair more, if the fold with one value more follows from the fold before
pub grouped-cons : {V : Type 0} (fold : List ℤ → V) (more : ℤ → Option V → V) → ((v : ℤ) (vs : List ℤ) → fold (v ∷ vs) ≡ more v (if_any vs (fold vs))) → (p : Pair) (ps : List Pair) → grouped fold (p ∷ ps) ≡ fin.insert (grouped fold ps) p.0 (more p.1 (fin.get (grouped fold ps) p.0))
grouped-cons fold more step p ps = same _ _ (λ q.
    get-grouped fold (p ∷ ps) q
    ∙ ap (λ vs. if_any vs (fold vs)) (values_of-cons q p ps)
    ∙ elim (is_under q p) as (λ b. is_under q p ≡ b → if_any (cond b (p.1 ∷ values_of q ps) (values_of q ps)) (fold (cond b (p.1 ∷ values_of q ps) (values_of q ps))) ≡ cond b (Some (more p.1 (fin.get (grouped fold ps) p.0))) (fin.get (grouped fold ps) q)) [
      | true ↦ λ h. ap Some (step p.1 (values_of q ps) ∙ ap (more p.1) (sym (get-grouped fold ps q)) ∙ ap (λ k. more p.1 (fin.get (grouped fold ps) k)) (same_key q p.0 h))
      | false ↦ λ h. sym (get-grouped fold ps q)
    ] refl
    ∙ sym (fin.get-insert line_total (grouped fold ps) p.0 _ q))

-- if the fold does not depend on the order, a pair may be anywhere in the list
pub grouped-among : {V : Type 0} (fold : List ℤ → V) → ((vs : List ℤ) (v : ℤ) (ws : List ℤ) → fold (vs ++ v ∷ ws) ≡ fold (v ∷ (vs ++ ws))) → (ps : List Pair) (p : Pair) (qs : List Pair) → grouped fold (ps ++ p ∷ qs) ≡ grouped fold (p ∷ (ps ++ qs))
grouped-among fold anywhere ps p qs = same _ _ (λ q.
    get-grouped fold (ps ++ p ∷ qs) q
    ∙ ap (λ vs. if_any vs (fold vs)) (values_of-append q ps (p ∷ qs) ∙ ap (λ vs. values_of q ps ++ vs) (values_of-cons q p qs))
    ∙ elim (is_under q p) as (λ b. if_any (values_of q ps ++ cond b (p.1 ∷ values_of q qs) (values_of q qs)) (fold (values_of q ps ++ cond b (p.1 ∷ values_of q qs) (values_of q qs))) ≡ if_any (cond b (p.1 ∷ (values_of q ps ++ values_of q qs)) (values_of q ps ++ values_of q qs)) (fold (cond b (p.1 ∷ (values_of q ps ++ values_of q qs)) (values_of q ps ++ values_of q qs)))) [
      | true ↦ if_any-among (values_of q ps) p.1 (values_of q qs) _ ∙ ap Some (anywhere (values_of q ps) p.1 (values_of q qs))
      | false ↦ refl
    ]
    ∙ ap (λ vs. if_any vs (fold vs)) (ap (λ vs. cond (is_under q p) (p.1 ∷ vs) vs) (sym (values_of-append q ps qs)) ∙ sym (values_of-cons q p (ps ++ qs)))
    ∙ sym (get-grouped fold (p ∷ (ps ++ qs)) q))

abbrev valued_keys : {V : Type 0} → (Option Key → Option V) → List (Option Key) → List (Option Key × V)
valued_keys f ks = filter_map (λ k. option_map (λ v. (k, v)) (f k)) ks

find_valued : {V : Type 0} (f : Option Key → Option V) (ks : List (Option Key)) (q : Option Key) → fin.find line_cmp q (valued_keys f ks) ≡ cond (list_any (eq_by_cmp line_cmp q) ks) (f q) None
find_valued f [] q = refl
find_valued {V} f (k ∷ ks) q =
    elim (f k) as (λ o. f k ≡ o → fin.find line_cmp q (cons_option (option_map (λ v. (k, v)) o) (valued_keys f ks)) ≡ cond (eq_by_cmp line_cmp q k || list_any (eq_by_cmp line_cmp q) ks) (f q) None) [
      | None ↦ λ none. find_valued f ks q ∙ elim (eq_by_cmp line_cmp q k) as (λ b. eq_by_cmp line_cmp q k ≡ b → cond (list_any (eq_by_cmp line_cmp q) ks) (f q) None ≡ cond (b || list_any (eq_by_cmp line_cmp q) ks) (f q) None) [
        | true ↦ λ h. let nothing : f q ≡ None = ap f (same_key q k h) ∙ none in
            elim (list_any (eq_by_cmp line_cmp q) ks) as (λ a. cond a (f q) None ≡ f q) [ true ↦ refl | false ↦ sym nothing ]
        | false ↦ λ h. refl
      ] refl
      | Some v ↦ λ some. elim (eq_by_cmp line_cmp q k) as (λ b. eq_by_cmp line_cmp q k ≡ b → cond b (Some v) (fin.find line_cmp q (valued_keys f ks)) ≡ cond (b || list_any (eq_by_cmp line_cmp q) ks) (f q) None) [
        | true ↦ λ h. sym (ap f (same_key q k h) ∙ some)
        | false ↦ λ h. find_valued f ks q
      ] refl
    ] refl

nothing_there : {V : Type 0} (o : Option V) → is_some o ≡ false → o ≡ None
nothing_there None h = refl
nothing_there (Some x) h = cc

either_false : (a b : Bool) → (a || b) ≡ false → (a ≡ false) × (b ≡ false)
either_false true b h = cc
either_false false b h = (refl, h)

absent : {V : Type 0} (m : ByKey V) (q : Option Key) → list_any (eq_by_cmp line_cmp q) (fin.keys m) ≡ false → fin.get m q ≡ None
absent m q h = nothing_there (fin.get m q) (fin.contains_key-keys m q ∙ h)

-- the value of two joined maps at a key
pub get-joined : {V : Type 0} (join : V → V → V) (m n : ByKey V) (q : Option Key) → fin.get (joined join m n) q ≡ merge_two join (fin.get m q) (fin.get n q)
get-joined join m n q =
    fin.get-from_entries line_total _ q
    ∙ find_valued (λ k. merge_two join (fin.get m k) (fin.get n k)) (fin.keys m ++ fin.keys n) q
    ∙ elim (list_any (eq_by_cmp line_cmp q) (fin.keys m ++ fin.keys n)) as (λ b. list_any (eq_by_cmp line_cmp q) (fin.keys m ++ fin.keys n) ≡ b → cond b (merge_two join (fin.get m q) (fin.get n q)) None ≡ merge_two join (fin.get m q) (fin.get n q)) [
      | true ↦ λ h. refl
      | false ↦ λ h.
          let none = either_false _ _ (sym (list_any-append (eq_by_cmp line_cmp q) (fin.keys m) (fin.keys n)) ∙ h) in
          sym (ap (λ o. merge_two join o (fin.get n q)) (absent m q none.0) ∙ absent n q none.1)
    ] refl

merge_two-any : {V : Type 0} (fold : List ℤ → V) (join : V → V → V) → ((v : ℤ) (vs : List ℤ) (w : ℤ) (ws : List ℤ) → fold ((v ∷ vs) ++ (w ∷ ws)) ≡ join (fold (v ∷ vs)) (fold (w ∷ ws))) → (vs ws : List ℤ) → if_any (vs ++ ws) (fold (vs ++ ws)) ≡ merge_two join (if_any vs (fold vs)) (if_any ws (fold ws))
merge_two-any fold join parts [] ws = refl
merge_two-any fold join parts (v ∷ vs) [] = ap (λ xs. Some (fold (v ∷ xs))) (append-nil vs)
merge_two-any fold join parts (v ∷ vs) (w ∷ ws) = ap Some (parts v vs w ws)

-- grouping two lists together joins the grouped maps of each list
pub grouped-append : {V : Type 0} (fold : List ℤ → V) (join : V → V → V) → ((v : ℤ) (vs : List ℤ) (w : ℤ) (ws : List ℤ) → fold ((v ∷ vs) ++ (w ∷ ws)) ≡ join (fold (v ∷ vs)) (fold (w ∷ ws))) → (ps qs : List Pair) → grouped fold (ps ++ qs) ≡ joined join (grouped fold ps) (grouped fold qs)
grouped-append fold join parts ps qs = same _ _ (λ q.
    get-grouped fold (ps ++ qs) q
    ∙ ap (λ vs. if_any vs (fold vs)) (values_of-append q ps qs)
    ∙ merge_two-any fold join parts (values_of q ps) (values_of q qs)
    ∙ ap (λ o. merge_two join o (if_any (values_of q qs) (fold (values_of q qs)))) (sym (get-grouped fold ps q))
    ∙ ap (merge_two join (fin.get (grouped fold ps) q)) (sym (get-grouped fold qs q))
    ∙ sym (get-joined join (grouped fold ps) (grouped fold qs) q))
