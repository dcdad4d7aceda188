-- Reserved keys: how the holdings by key change if one key's entry is written, and if a whole row group is written.
use Rattle.std.proofs.Common.{◌≡◌, ◌≢◌, ℕ, ◌<◌, ◌==◌, ◌&&◌, true, false, Bool, cond, List, [], ◌∷◌, map, refl, sym, ap, ◌∙◌, arith, Option, None, Some, subst, Result, Ok, Err, OnOk, OnErr}
use Rattle.std.specs.Prelude.{ℤ}
use Rattle.std.specs.Ordering.{eq_by_cmp}
use Rattle.std.specs.BTreeMap.{is_at}
use Rattle.std.specs.Map.Calls.{RetainsPairs}
use Rattle.std.proofs.lemmas.Bool.Decides.{nat_tests}
use Rattle.std.specs.FinMap as fin
use Rattle.far_types.specs.declared.key.Key.{Key}
use Rattle.far_types.specs.Keys.{line_cmp}
use Rattle.far_types.specs.KeyOrder.{line_total}
use Rattle.far_types.specs.Answers.{Extrema}
use Rattle.far_types.proofs.AnswersGrouping.{same_key, own_key}
use Rattle.far_types.proofs.AnswersByKeyMaps.{get_at, HaveDistinctKeys}
use Rattle.far_types.proofs.AnswersByKeyMaps as map_in
use Rattle.far_extrema.specs.Spreads.{MinMaxes, at, IsSet}
use Rattle.far_extrema.specs.Holders.{Holding, Holders, min_max_in, min_max_at, reserved_in, reserved_at, AreReserved, IsPut, IsGroup, IsCleared, AreCleared, AreAllCleared, HaveSameMinMaxes, HaveSameReserved, KeepsReserved, AreReservedFor, AreAlike}
use Rattle.far_extrema.proofs.SpreadsLaws.{off, here}
use Rattle.far_extrema.proofs.HoldersLaws.{put-set}

pub own_test : (g : ℕ) → (g == g) ≡ true
own_test g = grind (arith, nat_tests)

-- writing an entry that is reserved as its key was
pub reserved-insert : (m : Holders) (k : Option Key) (t : Holding) → reserved_in (Some t) ≡ reserved_at m k → HaveSameReserved m (fin.insert m k t)
reserved-insert m k t own q =
    ap reserved_in (fin.get-insert line_total m k t q)
    ∙ elim (eq_by_cmp line_cmp q k) as (λ b. eq_by_cmp line_cmp q k ≡ b → reserved_in (cond b (Some t) (fin.get m q)) ≡ reserved_at m q) [
      | true ↦ λ e. own ∙ sym (ap (reserved_at m) (same_key q k e))
      | false ↦ λ e. refl
    ] refl

-- removing an entry that is not reserved
pub reserved-remove : (m : Holders) (k : Option Key) → reserved_at m k ≡ None → HaveSameReserved m (fin.remove m k)
reserved-remove m k none q =
    ap reserved_in (fin.get-remove line_total m k q)
    ∙ elim (eq_by_cmp line_cmp q k) as (λ b. eq_by_cmp line_cmp q k ≡ b → reserved_in (cond b None (fin.get m q)) ≡ reserved_at m q) [
      | true ↦ λ e. sym (ap (reserved_at m) (same_key q k e) ∙ none)
      | false ↦ λ e. refl
    ] refl

-- writing an entry with the min-maxes of its key
pub min_maxes-insert : (m : Holders) (k : Option Key) (t : Holding) → ((g : ℕ) → at t.min_maxes g ≡ min_max_at m g k) → HaveSameMinMaxes m (fin.insert m k t)
min_maxes-insert m k t own g q =
    ap (λ o. min_max_in o g) (fin.get-insert line_total m k t q)
    ∙ elim (eq_by_cmp line_cmp q k) as (λ b. eq_by_cmp line_cmp q k ≡ b → min_max_in (cond b (Some t) (fin.get m q)) g ≡ min_max_at m g q) [
      | true ↦ λ e. own g ∙ sym (ap (min_max_at m g) (same_key q k e))
      | false ↦ λ e. refl
    ] refl

-- writing an entry that is reserved if its key was
pub keeps-insert : (m : Holders) (k : Option Key) (t : Holding) → (reserved_at m k ≢ None → t.reserved ≡ true) → KeepsReserved m (fin.insert m k t)
keeps-insert m k t own q had none =
    elim (eq_by_cmp line_cmp q k) as (λ b. eq_by_cmp line_cmp q k ≡ b → reserved_in (cond b (Some t) (fin.get m q)) ≡ None → ⊥) [
      | true ↦ λ e n. some_none (sym (ap (λ b. cond b (Some true) None) (own (λ z. had (ap (reserved_at m) (same_key q k e) ∙ z)))) ∙ n)
      | false ↦ λ e n. had n
    ] refl (sym (ap reserved_in (fin.get-insert line_total m k t q)) ∙ none) where
      some_none : Some true ≡ None → ⊥
      some_none h = cc

-- writing a reserved entry
pub reserved-made : (m : Holders) (k : Option Key) (t : Holding) → t.reserved ≡ true → reserved_at (fin.insert m k t) k ≢ None
reserved-made m k t reserved none = some_none (sym (ap reserved_in (fin.get-insert line_total m k t k ∙ ap (λ b. cond b (Some t) (fin.get m k)) (own_key k)) ∙ ap (λ b. cond b (Some true) None) reserved) ∙ none) where
  some_none : Some true ≡ None → ⊥
  some_none h = cc

-- removing an entry that has no row group and is not reserved
pub put-vacant : (m : Holders) (k : Option Key) (t t' : Holding) (g : ℕ) → fin.get m k ≡ Some t → IsSet t.min_maxes g None t'.min_maxes → t'.min_maxes ≡ [] → IsPut m g k None (fin.remove (fin.insert m k t') k)
put-vacant m k t t' g there set none h q =
    ap (λ o. min_max_in o h) (fin.get-remove line_total (fin.insert m k t') k q)
    ∙ elim (eq_by_cmp line_cmp q k) as (λ b. eq_by_cmp line_cmp q k ≡ b → min_max_in (cond b None (fin.get (fin.insert m k t') q)) h ≡ min_max_at (fin.insert m k t') h q) [
      | true ↦ λ e. sym (ap (λ o. min_max_in o h) (fin.get-insert line_total m k t' q ∙ ap (λ b. cond b (Some t') (fin.get m q)) e) ∙ ap (λ s. at s h) none)
      | false ↦ λ e. refl
    ] refl
    ∙ put-set m k t t' g None there set h q

-- a key without row groups does not have this one
pub none-vacant : (old new : MinMaxes) (g : ℕ) (o : Option (ℤ × ℤ)) → IsSet old g o new → new ≡ [] → o ≡ None
none-vacant old new g o set vacant = sym (ap (λ b. cond b o (at old g)) (own_test g)) ∙ sym (set g) ∙ ap (λ s. at s g) vacant

-- a reserved key has a reserved entry
pub reserved-had : (m : Holders) (k : Option Key) (t : Holding) → fin.get m k ≡ Some t → reserved_at m k ≢ None → t.reserved ≡ true
reserved-had m k t there had = elim t.reserved as (λ b. t.reserved ≡ b → b ≡ true) [
  | true ↦ λ e. refl
  | false ↦ λ e. absurd (had (ap reserved_in there ∙ ap (λ b. cond b (Some true) None) e))
] refl

-- writing an entry keeps the reservations of all other keys
pub reserved-other : (m : Holders) (k : Option Key) (t : Holding) (q : Option Key) → eq_by_cmp line_cmp q k ≡ false → reserved_at (fin.insert m k t) q ≡ reserved_at m q
reserved-other m k t q e = ap reserved_in (fin.get-insert line_total m k t q) ∙ ap (λ b. reserved_in (cond b (Some t) (fin.get m q))) e

-- removing an entry that lost its last row group and is not reserved
pub reserved-vacant : (m : Holders) (k : Option Key) (t t' : Holding) → fin.get m k ≡ Some t → t'.reserved ≡ t.reserved → t'.reserved ≡ false → HaveSameReserved m (fin.remove (fin.insert m k t') k)
reserved-vacant m k t t' there retained none q =
    reserved-remove (fin.insert m k t') k (ap reserved_in (fin.get-insert line_total m k t' k ∙ ap (λ b. cond b (Some t') (fin.get m k)) (own_key k)) ∙ ap (λ b. cond b (Some true) None) none) q
    ∙ reserved-insert m k t' (ap (λ b. cond b (Some true) None) retained ∙ sym (ap reserved_in there)) q

-- setting all min-maxes of a reserved row group
pub reserved-group : (m m' : Holders) (count g : ℕ) (e : Extrema) → AreReserved count m → g < count → IsGroup m g e m' → AreReserved count m'
reserved-group m m' count g e retained l put h q le = put h q ∙ ap (λ b. cond b (fin.get e q) (min_max_at m h q)) (off h g (λ s. omega arith)) ∙ retained h q le

-- setting all min-maxes of a row group twice
pub group-twice : (m m' m'' : Holders) (g : ℕ) (d e : Extrema) → IsGroup m g d m' → IsGroup m' g e m'' → IsGroup m g e m''
group-twice m m' m'' g d e one two h q = elim (h == g) as (λ b. (h == g) ≡ b → min_max_at m'' h q ≡ cond b (fin.get e q) (min_max_at m h q)) [
  | true ↦ λ s. two h q ∙ ap (λ b. cond b (fin.get e q) (min_max_at m' h q)) s
  | false ↦ λ s. two h q ∙ ap (λ b. cond b (fin.get e q) (min_max_at m' h q)) s ∙ one h q ∙ ap (λ b. cond b (fin.get d q) (min_max_at m h q)) s
] refl

pub err_any : {T E : Type 0} (r : Result T E) {P : Type 0} → P → OnErr r P
err_any (Ok x) p = tt
err_any (Err e) p = p

pub ok_any : {T E : Type 0} (r : Result T E) {P : Type 0} → P → OnOk r P
ok_any (Ok x) p = p
ok_any (Err e) p = tt

-- proof by cases: a call returns Ok or Err
pub either : {T E : Type 0} (r : Result T E) {P N Q : Type 0} → (P → Q) → (N → Q) → OnOk r P → OnErr r N → Q
either (Ok x) f g h k = f h
either (Err e) f g h k = g k

pub on_ok : {T E : Type 0} (r : Result T E) {P Q : Type 0} → (P → Q) → OnOk r P → OnOk r Q
on_ok (Ok x) f h = f h
on_ok (Err e) f h = tt

pub both_ok : {T E : Type 0} (r : Result T E) {P N Q : Type 0} → (P → N → Q) → OnOk r P → OnOk r N → OnOk r Q
both_ok (Ok x) f h k = f h k
both_ok (Err e) f h k = tt

pub on_err : {T E : Type 0} (r : Result T E) {P Q : Type 0} → (P → Q) → OnErr r P → OnErr r Q
on_err (Ok x) f h = tt
on_err (Err e) f h = f h

abbrev KeyedMinMaxes : Type 0
KeyedMinMaxes = List (Option Key × (ℤ × ℤ))

-- the first min-max if there is one, else the second
abbrev pub over : Option (ℤ × ℤ) → Option (ℤ × ℤ) → Option (ℤ × ℤ)
over None o = o
over (Some x) o = Some x

-- whether a row group is filled with all entries but the rest
pub record IsFilling (old now : Holders) (group : ℕ) (entries rest : KeyedMinMaxes) : Type 0 where
  pub distinct : HaveDistinctKeys rest
  pub reserved : (q : Option Key) → map_in.at rest q ≢ None → reserved_at now q ≢ None
  pub new : (q : Option Key) → map_in.at rest q ≢ None → min_max_at now group q ≡ None
  pub there : (q : Option Key) → over (map_in.at rest q) (min_max_at now group q) ≡ map_in.at entries q
  pub others : (h : ℕ) → (q : Option Key) → h ≢ group → min_max_at now h q ≡ min_max_at old h q

-- the key of the first entry has its min-max
head : (e : Option Key × (ℤ × ℤ)) (rest : KeyedMinMaxes) → map_in.at (e ∷ rest) e.0 ≡ Some e.1
head e rest = ap (λ b. cond b (Some e.1) (map_in.at rest e.0)) (own_key e.0)

head_there : (e : Option Key × (ℤ × ℤ)) (rest : KeyedMinMaxes) → map_in.at (e ∷ rest) e.0 ≢ None
head_there e rest none = some_none e.1 (sym (head e rest) ∙ none) where
  some_none : (x : ℤ × ℤ) → Some x ≡ None → ⊥
  some_none x h = cc

pub next-reserved : (old now : Holders) (g : ℕ) (es : KeyedMinMaxes) (e : Option Key × (ℤ × ℤ)) (rest : KeyedMinMaxes) → IsFilling old now g es (e ∷ rest) → reserved_at now e.0 ≢ None
next-reserved old now g es e rest f = f.reserved e.0 (head_there e rest)

pub next-new : (old now : Holders) (g : ℕ) (es : KeyedMinMaxes) (e : Option Key × (ℤ × ℤ)) (rest : KeyedMinMaxes) → IsFilling old now g es (e ∷ rest) → min_max_at now g e.0 ≡ None
next-new old now g es e rest f = f.new e.0 (head_there e rest)

-- a key of the rest is not the key of the entry before
other_key : (e : Option Key × (ℤ × ℤ)) (rest : KeyedMinMaxes) (q : Option Key) → HaveDistinctKeys (e ∷ rest) → map_in.at rest q ≢ None → eq_by_cmp line_cmp q e.0 ≡ false
other_key e rest q distinct there = elim (eq_by_cmp line_cmp q e.0) as (λ b. eq_by_cmp line_cmp q e.0 ≡ b → b ≡ false) [
  | true ↦ λ s. absurd (there (ap (map_in.at rest) (same_key q e.0 s) ∙ distinct.0))
  | false ↦ λ s. refl
] refl

past_head : (e : Option Key × (ℤ × ℤ)) (rest : KeyedMinMaxes) (q : Option Key) → eq_by_cmp line_cmp q e.0 ≡ false → map_in.at (e ∷ rest) q ≡ map_in.at rest q
past_head e rest q s = ap (λ b. cond b (Some e.1) (map_in.at rest q)) s

-- the next entry is filled in
pub filled-next : (old now next : Holders) (g : ℕ) (es : KeyedMinMaxes) (e : Option Key × (ℤ × ℤ)) (rest : KeyedMinMaxes) → IsFilling old now g es (e ∷ rest)
    → IsPut now g e.0 (Some e.1) next → ((q : Option Key) → eq_by_cmp line_cmp q e.0 ≡ false → reserved_at next q ≡ reserved_at now q) → IsFilling old next g es rest
filled-next old now next g es e rest f put reserved = record {
  distinct = f.distinct.1;
  reserved = λ q there none. let s = other_key e rest q f.distinct there in f.reserved q (λ n. there (sym (past_head e rest q s) ∙ n)) (sym (reserved q s) ∙ none);
  new = λ q there. let s = other_key e rest q f.distinct there in still q s ∙ f.new q (λ n. there (sym (past_head e rest q s) ∙ n));
  there = λ q. elim (eq_by_cmp line_cmp q e.0) as (λ b. eq_by_cmp line_cmp q e.0 ≡ b → over (map_in.at rest q) (min_max_at next g q) ≡ map_in.at es q) [
    | true ↦ λ s. let k = same_key q e.0 s in
        ap (λ o. over o (min_max_at next g q)) (ap (map_in.at rest) k ∙ f.distinct.0)
        ∙ put g q ∙ (λ i. cond (own_test g i && s i) (Some e.1) (min_max_at now g q))
        ∙ ap (λ o. over o (min_max_at now g q)) (sym (ap (map_in.at (e ∷ rest)) k ∙ head e rest))
        ∙ f.there q
    | false ↦ λ s. (λ i. over (sym (past_head e rest q s) i) (still q s i)) ∙ f.there q
  ] refl;
  others = λ h q n. put h q ∙ ap (λ b. cond (b && eq_by_cmp line_cmp q e.0) (Some e.1) (min_max_at now h q)) (off h g n) ∙ f.others h q n;
} where
  still : (q : Option Key) → eq_by_cmp line_cmp q e.0 ≡ false → min_max_at next g q ≡ min_max_at now g q
  still q s = put g q ∙ (λ i. cond (own_test g i && s i) (Some e.1) (min_max_at now g q))

-- the next key is reserved too
pub reserved-next : (now next : Holders) (es : KeyedMinMaxes) (e : Option Key × (ℤ × ℤ)) (rest : KeyedMinMaxes) → ((q : Option Key) → map_in.at es q ≢ None → map_in.at (e ∷ rest) q ≡ None → reserved_at now q ≢ None)
    → KeepsReserved now next → reserved_at next e.0 ≢ None → (q : Option Key) → map_in.at es q ≢ None → map_in.at rest q ≡ None → reserved_at next q ≢ None
reserved-next now next es e rest before retained own q there gone = elim (eq_by_cmp line_cmp q e.0) as (λ b. eq_by_cmp line_cmp q e.0 ≡ b → reserved_at next q ≢ None) [
  | true ↦ λ s none. own (ap (reserved_at next) (sym (same_key q e.0 s)) ∙ none)
  | false ↦ λ s. retained q (before q there (past_head e rest q s ∙ gone))
] refl

-- no entry is filled in yet
pub filled-none : (m : Holders) (g : ℕ) (es : KeyedMinMaxes) → HaveDistinctKeys es → AreReservedFor (map_in.by_key es) m → ((q : Option Key) → min_max_at m g q ≡ None) → IsFilling m m g es es
filled-none m g es distinct reserved new = record {
  distinct = distinct;
  reserved = λ q there. reserved q (λ none. there (sym (get_at es q) ∙ none));
  new = λ q there. new q;
  there = λ q. elim (map_in.at es q) as (λ o. over o (min_max_at m g q) ≡ o) [ None ↦ new q | Some x ↦ refl ];
  others = λ h q n. refl;
}

-- all entries are filled in
pub filled-all : (old now : Holders) (g : ℕ) (es : KeyedMinMaxes) → IsFilling old now g es [] → IsGroup old g (map_in.by_key es) now
filled-all old now g es f h q = elim (h == g) as (λ b. (h == g) ≡ b → min_max_at now h q ≡ cond b (fin.get (map_in.by_key es) q) (min_max_at old h q)) [
  | true ↦ λ e. ap (λ n. min_max_at now n q) (here h g e) ∙ f.there q ∙ sym (get_at es q)
  | false ↦ λ e. f.others h q (λ s. differ s e)
] refl where
  differ : h ≡ g → (h == g) ≡ false → ⊥
  differ s e = grind (arith, nat_tests)

abbrev absent : Option Holding
absent = None

-- clearing nothing leaves nothing
pub nothing_cleared : (g : ℕ) → AreCleared g None None
nothing_cleared g = (λ h. elim (h == g) as (λ b. None ≡ cond b None (min_max_in None h)) [ true ↦ refl | false ↦ refl ], refl)

-- the holding that lost a row group, if it is kept or removed
pub cleared-holder : (g : ℕ) (old : Holding) (b : Bool) (new : Holding) → IsCleared g old b new → AreCleared g (Some old) (cond b (Some new) None)
cleared-holder g old true new c = (c.0, ap (λ reserved. cond reserved (Some true) None) c.1)
cleared-holder g old false new c =
    let vacant = c.2 refl in
    ((λ h. sym (ap (λ s. at s h) vacant.0) ∙ c.0 h), sym (ap (λ reserved. cond reserved (Some true) None) (sym c.1 ∙ vacant.1)))

-- the result of `retain` for each key, if its closure clears a row group and stays unchanged
module _ {K F : Type 0} (key : K → Option Key) (T : F → K → Holding → Bool → Holding → F → Type 0) (g : ℕ) where
  abbrev keyed : List (K × Holding) → List (Option Key × Holding)
  keyed es = map (λ (e : K × Holding). (key e.0, e.1)) es

  abbrev IsSo : List (K × Holding) → List (K × Holding) → Option Key → Type 0
  IsSo es retained q = AreCleared g (map_in.at (keyed es) q) (map_in.at (keyed retained) q) × (map_in.at (keyed es) q ≡ None → map_in.at (keyed retained) q ≡ None)

  one-cleared : (e : K × Holding) (es rest : List (K × Holding)) (b : Bool) (w : Holding) → HaveDistinctKeys (keyed (e ∷ es)) → IsCleared g e.1 b w → ((q : Option Key) → IsSo es rest q) → (q : Option Key) → IsSo (e ∷ es) (cond b ((e.0, w) ∷ rest) rest) q
  one-cleared e es rest true w distinct c others q = elim (is_at (line_cmp q) (key e.0)) as (λ a. AreCleared g (cond a (Some e.1) (map_in.at (keyed es) q)) (cond a (Some w) (map_in.at (keyed rest) q)) × (cond a (Some e.1) (map_in.at (keyed es) q) ≡ None → cond a (Some w) (map_in.at (keyed rest) q) ≡ None)) [
    | true ↦ (cleared-holder g e.1 true w c, λ n. absurd (some_none e.1 n))
    | false ↦ others q
  ] where
    some_none : (x : Holding) → Some x ≡ None → ⊥
    some_none x h = cc
  one-cleared e es rest false w distinct c others q = elim (is_at (line_cmp q) (key e.0)) as (λ a. is_at (line_cmp q) (key e.0) ≡ a → AreCleared g (cond a (Some e.1) (map_in.at (keyed es) q)) (map_in.at (keyed rest) q) × (cond a (Some e.1) (map_in.at (keyed es) q) ≡ None → map_in.at (keyed rest) q ≡ None)) [
    | true ↦ λ s.
        let gone : map_in.at (keyed rest) q ≡ None = (others q).1 (ap (map_in.at (keyed es)) (same_key q (key e.0) s) ∙ distinct.0) in
        subst (λ (o : Option Holding). AreCleared g (Some e.1) o × (Some e.1 ≡ absent → o ≡ None)) (sym gone) (cleared-holder g e.1 false w c, λ n. refl)
    | false ↦ λ s. others q
  ] refl

  cleared-each : (f : F) → ((k : K) (v : Holding) (b : Bool) (w : Holding) (f' : F) → T f k v b w f' → IsCleared g v b w × (f' ≡ f))
      → (es retained : List (K × Holding)) → HaveDistinctKeys (keyed es) → RetainsPairs T f es retained → (q : Option Key) → IsSo es retained q
  cleared-each f says [] retained distinct r q = subst (λ (ks : List (K × Holding)). IsSo [] ks q) (sym r) (nothing_cleared g, λ e. e)
  cleared-each f says (e ∷ es) retained distinct (b, w, f', rest, t, r, is) q =
      let step = says e.0 e.1 b w f' t in
      let others = cleared-each f says es rest distinct.1 (subst (λ h. RetainsPairs T h es rest) step.1 r) in
      subst (λ (ks : List (K × Holding)). IsSo (e ∷ es) ks q) (sym is) (one-cleared e es rest b w distinct step.0 others q)

  pub cleared-all : (f : F) → ((k : K) (v : Holding) (b : Bool) (w : Holding) (f' : F) → T f k v b w f' → IsCleared g v b w × (f' ≡ f))
      → (es retained : List (K × Holding)) → HaveDistinctKeys (keyed es) → RetainsPairs T f es retained → AreAllCleared g (map_in.by_key (keyed es)) (map_in.by_key (keyed retained))
  cleared-all f says es retained distinct r q = subst (λ (o : Option Holding × Option Holding). AreCleared g o.0 o.1) (λ i. (sym (get_at (keyed es) q) i, sym (get_at (keyed retained) q) i)) (cleared-each f says es retained distinct r q).0

-- maps that are alike have the same min-maxes and the same reserved keys
pub put-alike : (m n o : Holders) (g : ℕ) (k : Option Key) (x : Option (ℤ × ℤ)) → IsPut m g k x n → AreAlike n o → IsPut m g k x o
put-alike m n o g k x put alike h q = alike.0 h q ∙ put h q

pub reserved-alike : (m n o : Holders) → HaveSameReserved m n → AreAlike n o → HaveSameReserved m o
reserved-alike m n o own alike q = alike.1 q ∙ own q

pub min_maxes-alike : (m n o : Holders) → HaveSameMinMaxes m n → AreAlike n o → HaveSameMinMaxes m o
min_maxes-alike m n o own alike g q = alike.0 g q ∙ own g q

pub keeps-alike : (m n o : Holders) → KeepsReserved m n → AreAlike n o → KeepsReserved m o
keeps-alike m n o own alike q had none = own q had (sym (alike.1 q) ∙ none)

pub had-alike : (n o : Holders) (k : Option Key) → reserved_at n k ≢ None → AreAlike n o → reserved_at o k ≢ None
had-alike n o k had alike none = had (sym (alike.1 k) ∙ none)
