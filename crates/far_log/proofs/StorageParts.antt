-- The table of a segment: where its parts end, and that they do not overlap.
use Rattle.std.proofs.Common.{◌≡◌, ℕ, zero, suc, ◌+◌, ◌<◌, ◌≤◌, Bool, true, false, List, [], ◌∷◌, length, get_or, take, drop, map, Some, cond, refl, subst, ap, ◌∙◌, arith, length-take, length-drop}
use Rattle.std.specs.Prelude.{filter, slice_get}
use Rattle.std.proofs.Common.{inl, inr}
use Rattle.std.proofs.lemmas.Bool.{cases_lt}
use Rattle.far_log.specs.declared.extents.Extent.{Extent}
use Rattle.far_log.specs.RegionState.{end_of, fill_from, IsLayoutFrom}
use Rattle.far_log.specs.Storage.{AreAdjacent, extents_end, IsSorted, EndsLive, part_in, parts_in, IsStored}

-- extents end no earlier than they begin
pub begin-le-end : (from : ℕ) (ss : List Extent) → AreAdjacent from ss → from ≤ extents_end from ss
begin-le-end from [] h = omega arith
begin-le-end from (s ∷ ss) h = let later = begin-le-end (from + s.len) ss h.2 in omega arith

-- a table has no more extents than elements
pub count-le-end : (from : ℕ) (ss : List Extent) → AreAdjacent from ss → from + length ss ≤ extents_end from ss
count-le-end from [] h = omega arith
count-le-end from (s ∷ ss) h = let later = count-le-end (from + s.len) ss h.2 in omega (arith, h.1)

module _ {X : Type 0} (items : List X) where
  -- a part is as long as its extent
  pub length-part : (s : Extent) → s.offset + s.len ≤ length items → length (part_in items s).list ≡ s.len
  length-part s h = omega (arith, length-take s.len (drop s.offset items), length-drop s.offset items)

  -- the first extent ends within the elements
  pub head-within : (from : ℕ) (s : Extent) (ss : List Extent) → AreAdjacent from (s ∷ ss) → extents_end from (s ∷ ss) ≤ length items → s.offset + s.len ≤ length items
  head-within from s ss h le = let later = begin-le-end (from + s.len) ss h.2 in omega (arith, h.0)

  -- the parts end where the table does
  pub fill-parts : (f from : ℕ) (s : Extent) (ss : List Extent) → AreAdjacent from (s ∷ ss) → extents_end from (s ∷ ss) ≤ length items → EndsLive (s ∷ ss) → fill_from f (parts_in items (s ∷ ss)) ≡ extents_end from (s ∷ ss)
  fill-parts f from s [] h le live =
      rw live (ap (λ n. s.offset + n) (length-part s (head-within from s [] h le)) ∙ ap (λ n. n + s.len) h.0)
  fill-parts f from s (t ∷ ss) h le live =
      elim s.live as (λ b. fill_from f (map (part_in items) (cond b (s ∷ filter (λ u. u.live) (t ∷ ss)) (filter (λ u. u.live) (t ∷ ss)))) ≡ extents_end from (s ∷ (t ∷ ss))) [
        | true ↦ fill-parts (end_of (part_in items s)) (from + s.len) t ss h.2 le live
        | false ↦ fill-parts f (from + s.len) t ss h.2 le live
      ]

  -- the parts are one after another
  pub layout-parts : (f from size : ℕ) (ss : List Extent) → f ≤ from → AreAdjacent from ss → extents_end from ss ≤ length items → length items ≤ size → IsLayoutFrom f (parts_in items ss) size
  layout-parts f from size [] le h end state = omega arith
  layout-parts f from size (s ∷ ss) le h end state =
      let long = length-part s (head-within from s ss h end) in
      elim s.live as (λ b. IsLayoutFrom f (map (part_in items) (cond b (s ∷ filter (λ u. u.live) ss) (filter (λ u. u.live) ss))) size) [
        | true ↦ (omega (arith, h.0), omega (arith, h.1), layout-parts (end_of (part_in items s)) (from + s.len) size ss (omega (arith, h.0)) h.2 end state)
        | false ↦ layout-parts f (from + s.len) size ss (omega arith) h.2 end state
      ]

  -- a segment's fill is the number of its elements
  pub stored-fill : (ss : List Extent) (used size : ℕ) → IsStored items ss used size → fill_from 0 (parts_in items ss) ≡ length items
  stored-fill [] used size h = h.end
  stored-fill (s ∷ ss) used size h = fill-parts 0 0 s ss h.adjacent (omega (arith, h.end)) h.live ∙ h.end

  pub stored-layout : (ss : List Extent) (used size : ℕ) → IsStored items ss used size → IsLayoutFrom 0 (parts_in items ss) size
  stored-layout ss used size h = layout-parts 0 0 size ss (omega arith) h.adjacent (omega (arith, h.end)) h.enough

  -- a segment without parts has no extents
  pub no-extents : (ss : List Extent) → EndsLive ss → parts_in items ss ≡ [] → ss ≡ []
  no-extents [] live e = refl
  no-extents (s ∷ []) live e = absurd (some-part s.live live e)
    where
      some-part : (b : Bool) → b ≡ true → map (part_in items) (cond b (s ∷ []) []) ≡ [] → ⊥
      some-part true live e = cc
      some-part false live e = cc
  no-extents (s ∷ (t ∷ ss)) live e = absurd (later s.live e (λ none. let no : t ∷ ss ≡ [] = no-extents (t ∷ ss) live none in cc))
    where
      later : (b : Bool) → map (part_in items) (cond b (s ∷ filter (λ u. u.live) (t ∷ ss)) (filter (λ u. u.live) (t ∷ ss))) ≡ [] → (parts_in items (t ∷ ss) ≡ [] → ⊥) → ⊥
      later true e h = cc
      later false e h = h e

-- an extent begins no earlier than its table
pub begins : (from : ℕ) (ss : List Extent) (k : ℕ) (s : Extent) → AreAdjacent from ss → slice_get ss k ≡ Some s → from ≤ s.offset
begins from [] k s h e = absurd (cc)
begins from (t ∷ ss) zero s h e = let same : t ≡ s = cc in omega (arith, h.0, ap (λ (u : Extent). u.offset) same)
begins from (t ∷ ss) (suc k) s h e = let later = begins (from + t.len) ss k s h.2 e in omega arith

-- an extent with a higher number begins at a higher offset
pub begins-later : (from : ℕ) (ss : List Extent) (j k : ℕ) (s t : Extent) → AreAdjacent from ss → slice_get ss j ≡ Some s → slice_get ss k ≡ Some t → j < k → s.offset < t.offset
begins-later from [] j k s t h e f lt = absurd (cc)
begins-later from (u ∷ ss) zero zero s t h e f lt = absurd (omega arith)
begins-later from (u ∷ ss) zero (suc k) s t h e f lt =
    let later = begins (from + u.len) ss k t h.2 f in let same : u ≡ s = cc in
    omega (arith, h.0, h.1, ap (λ (v : Extent). v.offset) same)
begins-later from (u ∷ ss) (suc j) zero s t h e f lt = absurd (omega arith)
begins-later from (u ∷ ss) (suc j) (suc k) s t h e f lt = begins-later (from + u.len) ss j k s t h.2 e f (omega arith)

pub adjacent-sorted : (from : ℕ) (ss : List Extent) → AreAdjacent from ss → IsSorted ss
adjacent-sorted from ss h = λ j k s t e f lt. begins-later from ss j k s t h e f lt

-- comparing the offsets of two extents says which comes first
pub at-or-behind : (ss : List Extent) (m k o : ℕ) (s t : Extent) → IsSorted ss → slice_get ss m ≡ Some t → t.offset ≤ o → slice_get ss k ≡ Some s → s.offset ≡ o → m ≤ k
at-or-behind ss m k o s t h e le f at = elim (cases_lt k m) [
  | inl under ↦ absurd (omega (arith, h k m s t f e under, at))
  | inr over ↦ over
]

pub before : (ss : List Extent) (m k o : ℕ) (s t : Extent) → IsSorted ss → slice_get ss m ≡ Some t → o < t.offset → slice_get ss k ≡ Some s → s.offset ≡ o → k < m
before ss m k o s t h e lt f at = elim (cases_lt k m) [
  | inl under ↦ under
  | inr over ↦ elim (cases_lt m k) [
    | inl above ↦ absurd (omega (arith, h m k t s e f above, at))
    | inr level ↦
        let same : m ≡ k = omega arith in
        let found : slice_get ss k ≡ Some t = subst (λ n. slice_get ss n ≡ Some t) same e in
        let is : t ≡ s = cc in
        absurd (omega (arith, ap (λ (u : Extent). u.offset) is, at))
  ]
]

-- the first n extents end with a live one if extent n - 1 is live
pub ends-live : (ss : List Extent) (n : ℕ) (d : Extent) → n ≤ length ss → ((k : ℕ) → n ≡ suc k → (get_or ss k d).live ≡ true) → EndsLive (take n ss)
ends-live ss zero d le h = tt
ends-live [] (suc n) d le h = tt
ends-live (s ∷ ss) (suc zero) d le h = h zero refl
ends-live (s ∷ []) (suc (suc n)) d le h = absurd (omega arith)
ends-live (s ∷ (t ∷ ss)) (suc (suc n)) d le h = ends-live (t ∷ ss) (suc n) d (omega arith) (λ k e. h (suc k) (ap suc e))
