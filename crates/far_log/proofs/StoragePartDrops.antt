-- What dropping a part changes in a segment.
use Rattle.std.proofs.Common.{sym, ◌≡◌, ℕ, zero, suc, ◌+◌, ◌-◌, ◌<◌, ◌≤◌, true, false, List, [], ◌∷◌, length, take, map, Some, cond, eqb, refl, ap, ◌∙◌, arith, length-take}
use Rattle.std.specs.Prelude.{filter, slice_get, slice_set, sum_by, not}
use Rattle.std.proofs.lemmas.Bool.{eq-eqb, ne_eqb}
use Rattle.std.proofs.lemmas.List.Sums.{sum_by-cons}
use Rattle.far_log.specs.declared.extents.Extent.{Extent}
use Rattle.far_log.specs.RegionState.{Part, SegmentState}
use Rattle.far_log.specs.Effects.{without_part}
use Rattle.far_log.specs.Storage.{AreAdjacent, extents_end, EndsLive, emptied_at, part_in, parts_in, IsStored}
use Rattle.far_log.proofs.StorageParts.{head-within, length-part, begins}
use Rattle.far_log.proofs.StorageLinks.{emptied-is}
use Rattle.far_log.proofs.StoragePartChanges.{parts-take, adjacent-take, end-take-le, shown}

-- an extent without its part
abbrev pub emptied : Extent → Extent
emptied s = record s { live = false }

-- the table with an extent emptied
pub adjacent-emptied : (from : ℕ) (ss : List Extent) (i : ℕ) (s : Extent) → AreAdjacent from ss → slice_get ss i ≡ Some s → AreAdjacent from (slice_set ss i (emptied s))
adjacent-emptied from [] i s h e = tt
adjacent-emptied from (t ∷ ss) zero s h e = let same : t ≡ s = cc in rw (← same) h
adjacent-emptied from (t ∷ ss) (suc i) s h e = (h.0, h.1, adjacent-emptied (from + t.len) ss i s h.2 e)

pub end-emptied : (from : ℕ) (ss : List Extent) (i : ℕ) (s : Extent) → slice_get ss i ≡ Some s → extents_end from (slice_set ss i (emptied s)) ≡ extents_end from ss
end-emptied from [] i s e = refl
end-emptied from (t ∷ ss) zero s e = let same : t ≡ s = cc in rw (← same) refl
end-emptied from (t ∷ ss) (suc i) s e = end-emptied (from + t.len) ss i s e

module _ {X : Type 0} (items : List X) where
  abbrev others : ℕ → List (Part X) → List (Part X)
  others offset ps = filter (λ p. not (eqb p.offset offset)) ps

  -- the parts with higher offsets
  others-later : (offset from : ℕ) (ss : List Extent) → AreAdjacent from ss → offset < from → others offset (parts_in items ss) ≡ parts_in items ss
  others-later offset from [] h lt = refl
  others-later offset from (s ∷ ss) h lt =
      let later = others-later offset (from + s.len) ss h.2 (omega arith) in
      let no : eqb s.offset offset ≡ false = ne_eqb s.offset offset (λ e. omega (arith, h.0)) in
      elim s.live as (λ b. others offset (map (part_in items) (cond b (s ∷ filter (λ u. u.live) ss) (filter (λ u. u.live) ss))) ≡ map (part_in items) (cond b (s ∷ filter (λ u. u.live) ss) (filter (λ u. u.live) ss))) [
        | true ↦ rw (no, later) refl
        | false ↦ later
      ]

  -- the parts after an extent is emptied
  pub parts-emptied : (offset from : ℕ) (ss : List Extent) (i : ℕ) (s : Extent) → AreAdjacent from ss → slice_get ss i ≡ Some s → s.live ≡ true → s.offset ≡ offset
      → parts_in items (slice_set ss i (emptied s)) ≡ others offset (parts_in items ss)
  parts-emptied offset from [] i s h e live at = absurd (cc)
  parts-emptied offset from (t ∷ ss) zero s h e live at =
      let same : t ≡ s = cc in
      let yes : eqb t.offset offset ≡ true = eq-eqb t.offset offset (ap (λ (u : Extent). u.offset) same ∙ at) in
      let alive : t.live ≡ true = ap (λ (u : Extent). u.live) same ∙ live in
      let later = others-later offset (from + t.len) ss h.2 (omega (arith, h.0, h.1, ap (λ (u : Extent). u.offset) same)) in
      rw (alive, yes, later) refl
  parts-emptied offset from (t ∷ ss) (suc i) s h e live at =
      let later = parts-emptied offset (from + t.len) ss i s h.2 e live at in
      let no : eqb t.offset offset ≡ false = ne_eqb t.offset offset (λ same. omega (arith, h.0, h.1, begins (from + t.len) ss i s h.2 e)) in
      elim t.live as (λ b. map (part_in items) (cond b (t ∷ filter (λ u. u.live) (slice_set ss i (emptied s))) (filter (λ u. u.live) (slice_set ss i (emptied s)))) ≡ others offset (map (part_in items) (cond b (t ∷ filter (λ u. u.live) ss) (filter (λ u. u.live) ss)))) [
        | true ↦ rw (no, later) refl
        | false ↦ later
      ]

  -- the total length of the parts
  pub used-emptied : (from : ℕ) (ss : List Extent) (i : ℕ) (s : Extent) → AreAdjacent from ss → extents_end from ss ≤ length items → slice_get ss i ≡ Some s → s.live ≡ true
      → sum_by (λ p. length p.list) (parts_in items (slice_set ss i (emptied s))) + s.len ≡ sum_by (λ p. length p.list) (parts_in items ss)
  used-emptied from [] i s h le e live = absurd (cc)
  used-emptied from (t ∷ ss) zero s h le e live =
      let same : t ≡ s = cc in
      let alive : t.live ≡ true = ap (λ (u : Extent). u.live) same ∙ live in
      let long = length-part items t (head-within items from t ss h le) in
      rw alive (omega (arith, long, ap (λ (u : Extent). u.len) same, sum_by-cons (λ (p : Part X). length p.list) (part_in items t) (parts_in items ss)))
  used-emptied from (t ∷ ss) (suc i) s h le e live =
      let later = used-emptied (from + t.len) ss i s h.2 le e live in
      elim t.live as (λ b. sum_by (λ p. length p.list) (map (part_in items) (cond b (t ∷ filter (λ u. u.live) (slice_set ss i (emptied s))) (filter (λ u. u.live) (slice_set ss i (emptied s))))) + s.len ≡ sum_by (λ p. length p.list) (map (part_in items) (cond b (t ∷ filter (λ u. u.live) ss) (filter (λ u. u.live) ss)))) [
        | true ↦ omega (arith, later, sum_by-cons (λ (p : Part X). length p.list) (part_in items t) (parts_in items (slice_set ss i (emptied s))), sum_by-cons (λ (p : Part X). length p.list) (part_in items t) (parts_in items ss))
        | false ↦ later
      ]

-- a part is dropped, and with it the dead extents at the table's end
pub record IsDropped {X : Type 0} (items : List X) (ss : List Extent) (offset : ℕ) (s : Extent) (left : List Extent) : Type 0 where
  pub adjacent : AreAdjacent 0 left
  pub within : extents_end 0 left ≤ length items
  pub parts : parts_in items left ≡ others items offset (parts_in items ss)
  pub sum : sum_by (λ p. length p.list) (parts_in items left) + s.len ≡ sum_by (λ p. length p.list) (parts_in items ss)

module _ {X : Type 0} (items : List X) (ss : List Extent) where
  pub dropped : (used size offset i n : ℕ) (s : Extent) → IsStored items ss used size → slice_get ss i ≡ Some s → s.live ≡ true → s.offset ≡ offset
      → filter (λ u. u.live) (take n (emptied_at ss i)) ≡ filter (λ u. u.live) (emptied_at ss i) → IsDropped items ss offset s (take n (emptied_at ss i))
  dropped used size offset i n s h e live at kept =
      let is : emptied_at ss i ≡ slice_set ss i (emptied s) = sym (emptied-is ss i s e) in
      let adjacent : AreAdjacent 0 (emptied_at ss i) = rw is (adjacent-emptied 0 ss i s h.adjacent e) in
      let same : parts_in items (take n (emptied_at ss i)) ≡ parts_in items (emptied_at ss i) = ap (map (part_in items)) kept in
      record {
        adjacent = adjacent-take n 0 (emptied_at ss i) adjacent;
        within = omega (arith, end-take-le n 0 (emptied_at ss i) adjacent, ap (extents_end 0) is, end-emptied 0 ss i s e, h.end);
        parts = same ∙ ap (parts_in items) is ∙ parts-emptied items offset 0 ss i s h.adjacent e live at;
        sum = omega (arith, ap (sum_by (λ (p : Part X). length p.list)) (same ∙ ap (parts_in items) is), used-emptied items 0 ss i s h.adjacent (omega (arith, h.end)) e live);
      }

  pub stored-dropped : (used size offset end : ℕ) (s : Extent) (left : List Extent) → IsStored items ss used size → IsDropped items ss offset s left → EndsLive left → end ≡ extents_end 0 left
      → IsStored (take end items) left (used - s.len) size
  stored-dropped used size offset end s left h d live is =
      let same = parts-take items end 0 left d.adjacent (omega (arith, is)) (omega (arith, is, d.within)) in
      record {
        adjacent = d.adjacent;
        end = omega (arith, is, d.within, length-take end items);
        live = live;
        sum = omega (arith, h.sum, d.sum, ap (sum_by (λ (p : Part X). length p.list)) same);
        enough = omega (arith, h.enough, length-take end items);
        small = h.small;
      }

  pub shown-dropped : (size offset end : ℕ) (s : Extent) (left : List Extent) → IsDropped items ss offset s left → end ≡ extents_end 0 left → shown (take end items) left size ≡ without_part (shown items ss size) offset
  shown-dropped size offset end s left d is =
      ap (λ ps. let r : SegmentState X = record { parts = ps; size = size } in r)
      (parts-take items end 0 left d.adjacent (omega (arith, is)) (omega (arith, is, d.within)) ∙ d.parts)
