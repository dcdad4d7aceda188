-- What a change of a segment's table and elements changes in its parts.
use Rattle.std.proofs.Common.{◌≡◌, ℕ, zero, suc, ◌+◌, ◌-◌, ◌<◌, ◌≤◌, true, false, List, [], ◌∷◌, ◌++◌, length, take, drop, map, cond, refl, sym, ap, ◌∙◌, arith}
use Rattle.std.proofs.Common.{length-drop, length-take, length-append}
use Rattle.std.proofs.lemmas.List.{map-append, drop-append-le, take-append-le, take-append-drop, drop_at, take_all}
use Rattle.std.proofs.lemmas.List.Elements.{filter-append}
use Rattle.std.specs.Prelude.{filter, sum_by}
use Rattle.std.proofs.lemmas.List.Sums.{sum_by-cons, sum_by_push}
use Rattle.far_log.specs.declared.extents.Extent.{Extent}
use Rattle.far_log.specs.RegionState.{Part, SegmentState, space_in}
use Rattle.far_log.specs.Storage.{AreAdjacent, extents_end, EndsLive, part_in, parts_in, IsStored}
use Rattle.far_log.specs.Effects.{with_part}
use Rattle.far_log.proofs.StorageParts.{head-within, begin-le-end, length-part, stored-fill}

module _ {X : Type 0} where
  -- elements that come after the extents change no part
  pub parts-append : (items xs : List X) (from : ℕ) (ss : List Extent) → AreAdjacent from ss → extents_end from ss ≤ length items → parts_in (items ++ xs) ss ≡ parts_in items ss
  parts-append items xs from [] h le = refl
  parts-append items xs from (s ∷ ss) h le =
      let within = head-within items from s ss h le in
      let front : drop s.offset (items ++ xs) ≡ drop s.offset items ++ xs = drop-append-le s.offset items xs (omega arith) in
      let same : take s.len (drop s.offset (items ++ xs)) ≡ take s.len (drop s.offset items) = ap (take s.len) front ∙ take-append-le s.len (drop s.offset items) xs (omega (arith, length-drop s.offset items)) in
      let later = parts-append items xs (from + s.len) ss h.2 le in
      elim s.live as (λ b. map (part_in (items ++ xs)) (cond b (s ∷ filter (λ u. u.live) ss) (filter (λ u. u.live) ss)) ≡ map (part_in items) (cond b (s ∷ filter (λ u. u.live) ss) (filter (λ u. u.live) ss))) [
        | true ↦ rw (same, later) refl
        | false ↦ later
      ]

  -- removing elements after the extents changes no part
  pub parts-take : (items : List X) (n : ℕ) (from : ℕ) (ss : List Extent) → AreAdjacent from ss → extents_end from ss ≤ n → n ≤ length items → parts_in (take n items) ss ≡ parts_in items ss
  parts-take items n from ss h le within =
      sym (parts-append (take n items) (drop n items) from ss h (omega (arith, length-take n items))) ∙ ap (λ xs. parts_in xs ss) (take-append-drop n items)

  -- a list is placed after the extents
  pub parts-push : (items xs : List X) (ss : List Extent) (t : Extent) → AreAdjacent 0 ss → extents_end 0 ss ≡ length items → t.offset ≡ length items → t.len ≡ length xs → t.live ≡ true
      → parts_in (items ++ xs) (ss ++ t ∷ []) ≡ parts_in items ss ++ record { offset = length items; list = xs } ∷ []
  parts-push items xs ss t h end at long live =
      let behind : drop t.offset (items ++ xs) ≡ xs = drop_at items xs t.offset (sym at) in
      let whole : take t.len xs ≡ xs = take_all t.len xs (omega arith) in
      ap (map (part_in (items ++ xs))) (filter-append (λ u. u.live) ss (t ∷ []))
      ∙ map-append (part_in (items ++ xs)) (filter (λ u. u.live) ss) (filter (λ u. u.live) (t ∷ []))
      ∙ rw (live, behind, whole, at) (ap (λ ps. ps ++ record { offset = length items; list = xs } ∷ []) (parts-append items xs 0 ss h (omega arith)))

-- a table with one more extent
pub adjacent-push : (from : ℕ) (ss : List Extent) (t : Extent) → AreAdjacent from ss → t.offset ≡ extents_end from ss → 0 < t.len → AreAdjacent from (ss ++ t ∷ [])
adjacent-push from [] t h at some = (at, some, tt)
adjacent-push from (s ∷ ss) t h at some = (h.0, h.1, adjacent-push (from + s.len) ss t h.2 at some)

pub end-push : (from : ℕ) (ss : List Extent) (t : Extent) → extents_end from (ss ++ t ∷ []) ≡ extents_end from ss + t.len
end-push from [] t = refl
end-push from (s ∷ ss) t = end-push (from + s.len) ss t

pub live-push : (ss : List Extent) (t : Extent) → t.live ≡ true → EndsLive (ss ++ t ∷ [])
live-push [] t live = live
live-push (s ∷ []) t live = live
live-push (s ∷ (u ∷ ss)) t live = live-push (u ∷ ss) t live

-- the prefix of a table
pub adjacent-take : (n from : ℕ) (ss : List Extent) → AreAdjacent from ss → AreAdjacent from (take n ss)
adjacent-take zero from ss h = tt
adjacent-take (suc n) from [] h = tt
adjacent-take (suc n) from (s ∷ ss) h = (h.0, h.1, adjacent-take n (from + s.len) ss h.2)

pub end-take-le : (n from : ℕ) (ss : List Extent) → AreAdjacent from ss → extents_end from (take n ss) ≤ extents_end from ss
end-take-le zero from ss h = begin-le-end from ss h
end-take-le (suc n) from [] h = omega arith
end-take-le (suc n) from (s ∷ ss) h = end-take-le n (from + s.len) ss h.2

module _ {X : Type 0} where
  -- the total length of the parts is at most that of the extents
  pub used-le-end : (items : List X) (from : ℕ) (ss : List Extent) → AreAdjacent from ss → extents_end from ss ≤ length items → from + sum_by (λ p. length p.list) (parts_in items ss) ≤ extents_end from ss
  used-le-end items from [] h le = omega arith
  used-le-end items from (s ∷ ss) h le =
      let long = length-part items s (head-within items from s ss h le) in
      let later = used-le-end items (from + s.len) ss h.2 le in
      elim s.live as (λ b. from + sum_by (λ p. length p.list) (map (part_in items) (cond b (s ∷ filter (λ u. u.live) ss) (filter (λ u. u.live) ss))) ≤ extents_end (from + s.len) ss) [
        | true ↦ omega (arith, long, sum_by-cons (λ (p : Part X). length p.list) (part_in items s) (parts_in items ss))
        | false ↦ omega arith
      ]

  -- a list is placed after the last part
  pub stored-push : (items xs : List X) (ss : List Extent) (t : Extent) (used size : ℕ) → IsStored items ss used size → 0 < length xs → length xs ≤ size - length items
      → t ≡ record { offset = length items; len = length xs; live = true } → IsStored (items ++ xs) (ss ++ t ∷ []) (used + length xs) size
  stored-push items xs ss t used size h some fits is =
      let at : t.offset ≡ length items = ap (λ (u : Extent). u.offset) is in
      let long : t.len ≡ length xs = ap (λ (u : Extent). u.len) is in
      let live : t.live ≡ true = ap (λ (u : Extent). u.live) is in
      let parts = parts-push items xs ss t h.adjacent h.end at long live in
      let more : length (items ++ xs) ≡ length items + length xs = length-append items xs in
      record {
        adjacent = adjacent-push 0 ss t h.adjacent (at ∙ sym h.end) (omega arith);
        end = omega (arith, end-push 0 ss t, h.end, more, long);
        live = live-push ss t live;
        sum = omega (arith, h.sum, ap (sum_by (λ (p : Part X). length p.list)) parts, sum_by_push (λ (p : Part X). length p.list) (parts_in items ss) record { offset = length items; list = xs });
        enough = omega (arith, h.enough, more);
        small = h.small;
      }

  -- the space after the last part
  pub space-is : (items : List X) (ss : List Extent) (used size : ℕ) (s : SegmentState X) → IsStored items ss used size → record { parts = parts_in items ss; size = size } ≡ s → space_in s ≡ size - length items
  space-is items ss used size s h e = ap space_in (sym e) ∙ ap (λ n. size - n) (stored-fill items ss used size h)

module _ {X : Type 0} where
  -- the state of a segment
  abbrev pub shown : List X → List Extent → ℕ → SegmentState X
  shown items ss size = record { parts = parts_in items ss; size = size }

  pub shown-push : (items xs : List X) (ss : List Extent) (t : Extent) (used size : ℕ) → IsStored items ss used size → t ≡ record { offset = length items; len = length xs; live = true }
      → shown (items ++ xs) (ss ++ t ∷ []) size ≡ with_part (shown items ss size) xs
  shown-push items xs ss t used size h is =
      let parts = parts-push items xs ss t h.adjacent h.end (ap (λ (u : Extent). u.offset) is) (ap (λ (u : Extent). u.len) is) (ap (λ (u : Extent). u.live) is) in
      let fill = stored-fill items ss used size h in
      rw (parts, fill) refl
