-- Borrowed texts of a part of a column.
use Rattle.std.proofs.Common.{◌≡◌, ℕ, zero, suc, ◌+◌, ◌-◌, ◌*◌, ◌/◌, ◌%◌, ◌^◌, ◌<◌, ◌≤◌, Bool, true, false, not, cond, ltb, List, [], ◌∷◌, length, get_or, take, drop, Option, None, Some, refl, sym, ap, subst, ◌∙◌, arith, mul-le-mul_right}
use Rattle.std.specs.Prelude.{slice_get, slice_range}
use Rattle.std.specs.List.{zip}
use Rattle.std.specs.Option.{option_and_then}
use Rattle.std.proofs.lemmas.Bool.{lt-ltb, ltb-true}
use Rattle.std.proofs.lemmas.List.{drop_more, length-take, length-drop, get_or-take, get_or-drop}
use Rattle.std.proofs.Math.Nat.{div-mul-le_self}
use Rattle.std.proofs.lemmas.Nat.{div-add-mod', le-div, div_below}
use Rattle.std.proofs.lemmas.Option.{slice_get_within, get_or_from_slice_get}
use Rattle.far_types.specs.declared.refusal.Refusal.{Refusal}
use Rattle.far_types.specs.declared.refusal.Refusal.TheVariants.{NoRow}
use Rattle.far_scopes.specs.Movement.{Movement, is_local}
use Rattle.far_scopes.specs.Refusing.{absent, lend_refusal, first_absent}
use Rattle.far_codec.specs.TextForm.{texts_meaning}
use Rattle.far_texts.specs.Texts.{Texts, Lists, HasGroups, IsTextColumn, object_at, texts_in}
use Rattle.far_texts.specs.Refusing.{text_refusal}
use Rattle.far_texts.specs.Lending.{IsCursor}
use Rattle.far_texts.proofs.TextsGroups.{text-lent}

module _ {K X : Type 0} where
  -- a list paired with an empty list is empty
  pub zip-none : (xs : List X) (ys : List K) → ys ≡ [] → zip xs ys ≡ []
  zip-none [] ys none = refl
  zip-none (x ∷ xs) ys none = rw none refl

  -- pairing a list with few flags pairs only its first elements
  pub zip-front : (n : ℕ) (xs : List X) (ys : List K) → length ys ≤ n → zip xs ys ≡ zip (take n xs) ys
  zip-front zero xs [] few = zip-none xs [] refl
  zip-front zero xs (y ∷ ys) few = absurd (omega arith)
  zip-front (suc n) [] ys few = refl
  zip-front (suc n) (x ∷ xs) [] few = refl
  zip-front (suc n) (x ∷ xs) (y ∷ ys) few = ap (λ l. (x, y) ∷ l) (zip-front n xs ys (omega arith))

  -- the first pair of a list of pairs, and the rest
  pub zip-next : (xs : List X) (place : ℕ) (x : X) (y : K) (ys : List K) → slice_get xs place ≡ Some x → zip (drop place xs) (y ∷ ys) ≡ (x, y) ∷ zip (drop (place + 1) xs) ys
  zip-next xs place x y ys here =
      ap (λ l. zip l (y ∷ ys)) (drop_more xs place x (slice_get_within xs place x here))
      ∙ ap (λ z. (z, y) ∷ zip (drop (place + 1) xs) ys) (get_or_from_slice_get xs place x x here)

-- the first number of a range, and the rest
pub range-next : (xs : List ℕ) (from to : ℕ) → from < to → to ≤ length xs → slice_range xs from to ≡ get_or xs from 0 ∷ slice_range xs (from + 1) to
range-next xs from to below within =
    let more : to - from ≡ suc (to - (from + 1)) = omega arith in
    ap (take (to - from)) (drop_more xs from 0 (omega arith)) ∙ ap (λ n. take n (get_or xs from 0 ∷ drop (from + 1) xs)) more

-- which refusal applies, by whether an object is local
away-by : (local : Bool) (name e : Refusal) (rest : Option Refusal) → Some e ≡ cond (not local) (Some name) None → cond local rest (Some name) ≡ Some e
away-by true name e rest due = absurd cc
away-by false name e rest due = sym due

here-by : (local : Bool) (name : Refusal) (rest : Option Refusal) → None ≡ cond (not local) (Some name) None → cond local rest (Some name) ≡ rest
here-by true name rest due = refl
here-by false name rest due = absurd cc

local-by : (local : Bool) (name : Refusal) (rest : Option Refusal) → None ≡ cond local rest (Some name) → (local ≡ true) × (None ≡ rest)
local-by true name rest none = (refl, none)
local-by false name rest none = absurd cc

free-by : (below local : Bool) (first name : Refusal) → below ≡ true → local ≡ true → cond (not below) (Some first) (cond (not local) (Some name) None) ≡ None
free-by true true first name is here = refl
free-by false local first name is here = absurd cc
free-by true false first name is here = absurd cc

module _ {K : Type 0} (m : Movement ℕ K) where
  -- the first listed object is away
  pub away-first : (o : ℕ) (os : List ℕ) (e : Refusal) → Some e ≡ lend_refusal m o → first_absent m (o ∷ os) ≡ Some e
  away-first o os e due = away-by (is_local m o) (absent m o).1 e (first_absent m os) due

  -- the first listed object is not away
  pub here-first : (o : ℕ) (os : List ℕ) → None ≡ lend_refusal m o → first_absent m (o ∷ os) ≡ first_absent m os
  here-first o os due = here-by (is_local m o) (absent m o).1 (first_absent m os) due

  -- if no object is away, each is local
  pub each-local : (os : List ℕ) → None ≡ first_absent m os → (k : ℕ) → k < length os → is_local m (get_or os k 0) ≡ true
  each-local [] none k within = absurd (omega arith)
  each-local (o ∷ os) none zero within = (local-by (is_local m o) (absent m o).1 (first_absent m os) none).0
  each-local (o ∷ os) none (suc k) within = each-local os (local-by (is_local m o) (absent m o).1 (first_absent m os) none).1 k (omega arith)

  module _ (content : K → List ℕ) (c : Texts) (has : HasGroups c) (from to : ℕ) (below : from < to) (within : to ≤ c.len) (none : None ≡ first_absent m (slice_range c.objects (from / c.size) ((to - 1) / c.size + 1))) where
    -- the texts of a part may be lent if its row groups' objects are local
    pub part-free : (p : ℕ) → from ≤ p → p < to → text_refusal content m c p ≡ None
    part-free p behind before =
        let first = from / c.size in
        let end = (to - 1) / c.size + 1 in
        let group = p / c.size in
        let low : first ≤ group = le-div first p c.size has.some (omega (arith, div-mul-le_self from c.size)) in
        let high : group ≤ (to - 1) / c.size = le-div group (to - 1) c.size has.some (omega (arith, div-mul-le_self p c.size)) in
        let begun : (to - 1) / c.size < length c.objects = div_below (to - 1) c.size (length c.objects) has.some (omega (arith, has.held)) in
        let k = group - first in
        let long : length (slice_range c.objects first end) ≡ end - first = omega (arith, length-take (end - first) (drop first c.objects), length-drop first c.objects) in
        let local = each-local (slice_range c.objects first end) none k (omega (arith, long)) in
        let at : get_or (slice_range c.objects first end) k 0 ≡ get_or c.objects group 0 =
        get_or-take (end - first) (drop first c.objects) k 0 (omega arith) ∙ get_or-drop first c.objects k 0 ∙ ap (λ n. get_or c.objects n 0) (omega arith) in
        free-by (ltb p c.len) (is_local m (object_at c p)) NoRow (absent m (object_at c p)).1 (lt-ltb p c.len (omega arith)) (subst (λ o. is_local m o ≡ true) at local)

-- a column has few texts
pub few-texts : (c : Texts) → HasGroups c → c.len ≤ 2 ^ 44
few-texts c has = omega (arith, has.held, mul-le-mul_right {m = length c.objects} {n = 2 ^ 28} c.size has.few, has.small)

-- the rest of a list, paired with a part of another, is paired only in that part
pub zip-part : {K X : Type 0} (xs : List X) (ys : List K) (from to : ℕ) → zip (drop from xs) (slice_range ys from to) ≡ zip (slice_range xs from to) (slice_range ys from to)
zip-part xs ys from to = zip-front (to - from) (drop from xs) (slice_range ys from to) (omega (arith, length-take (to - from) (drop from ys)))

-- the row group and index of a place that is `index` places after the beginning of a row group
pub split-place : (place group index size : ℕ) → index < size → place ≡ group * size + index → (group ≡ place / size) × (index ≡ place % size)
split-place place group index size inside at =
    let some : 0 < size = omega (arith, inside) in
    let high : place / size < group + 1 = div_below place size (group + 1) some (omega (arith, at, inside)) in
    let low : group ≤ place / size = le-div group place size some (omega (arith, at)) in
    let same : group ≡ place / size = omega (arith, high, low) in
    let whole : place / size * size + place % size ≡ place = div-add-mod' place size in
    (same, omega (arith, whole, at, ap (λ n. n * size) same))

-- if reading a place is not refused, the place exists
of-free : (below local : Bool) (first name : Refusal) → cond (not below) (Some first) (cond (not local) (Some name) None) ≡ None → (below ≡ true) × (cond (not local) (Some name) None ≡ None)
of-free true local first name free = (refl, free)
of-free false local first name free = absurd cc

module _ {K : Type 0} (content : K → List ℕ) (m : Movement ℕ K) (c : Texts) where
  -- a place whose text can be lent exists, and its object is local
  pub lent-here : (place : ℕ) → text_refusal content m c place ≡ None → (place < c.len) × (lend_refusal m (get_or c.objects (place / c.size) 0) ≡ None)
  lent-here place free =
      let both = of-free (ltb place c.len) (is_local m (object_at c place)) NoRow (absent m (object_at c place)).1 free in
      (ltb-true place c.len both.0, both.1)

  -- the object of the row group that contains such a place is local
  pub group-here : (place group index : ℕ) → HasGroups c → index < c.size → place ≡ group * c.size + index → text_refusal content m c place ≡ None → (group < length c.objects) × (lend_refusal m (get_or c.objects group 0) ≡ None)
  group-here place group index has inside at free =
      let here = lent-here place free in
      let same = (split-place place group index c.size inside at).0 in
      let begun : place / c.size < length c.objects = div_below place c.size (length c.objects) has.some (omega (arith, here.0, has.held)) in
      (omega (arith, begun, same), subst (λ g. lend_refusal m (get_or c.objects g 0) ≡ None) (sym same) here.1)

-- a cursor reads the text of its place
pub text-of-cursor : (lists : Lists) (c : Texts) (is : IsTextColumn lists c) (has : HasGroups c) (place group index : ℕ) (form : List ℕ) (text : Option (List ℕ)) → place < c.len → IsCursor lists c place group index form → index < c.size → text ≡ option_and_then (λ t. t) (slice_get (texts_meaning form) index) → slice_get (texts_in lists c) place ≡ Some text
text-of-cursor lists c is has place group index form text below cursor inside returned =
    let parts = split-place place group index c.size inside cursor.at in
    text-lent lists c is has place form text below
    (subst (λ g. lists (get_or c.objects g 0) ≡ Some form) parts.0 cursor.lent)
    (subst (λ i. text ≡ option_and_then (λ t. t) (slice_get (texts_meaning form) i)) parts.1 returned)
