-- The extent of the part that begins at an offset.
use Rattle.std.proofs.Common.{◌≡◌, ℕ, zero, suc, ◌+◌, ◌<◌, ◌≤◌, Bool, true, false, List, [], ◌∷◌, length, take, drop, map, Option, None, Some, IsSome, cond, eqb, refl, ap, ◌∙◌, arith}
use Rattle.std.specs.Prelude.{filter, slice_get, IsSomeAnd}
use Rattle.std.proofs.lemmas.Bool.{eqb-true, eq-eqb}
use Rattle.std.proofs.lemmas.Option.{slice_get_within}
use Rattle.far_log.specs.declared.extents.Extent.{Extent}
use Rattle.far_log.specs.RegionState.{list_at}
use Rattle.far_log.specs.Storage.{AreAdjacent, extents_end, part_in, parts_in}
use Rattle.far_log.proofs.StorageParts.{begin-le-end}

module _ {X : Type 0} where
  -- extent i has the part that begins at an offset
  pub record IsExtentOf (items : List X) (ss : List Extent) (offset i : ℕ) (s : Extent) : Type 0 where
    pub here : slice_get ss i ≡ Some s
    pub live : s.live ≡ true
    pub begins : s.offset ≡ offset
    pub shows : list_at (parts_in items ss) offset ≡ Some (take s.len (drop s.offset items))

module _ {X : Type 0} (items : List X) where
  abbrev Some-extent : List Extent → ℕ → Type 0
  Some-extent ss offset = (i : ℕ) × ((s : Extent) × IsExtentOf items ss offset i s)

  some-extent-step : (s : Extent) (ss : List Extent) (offset : ℕ) (live here : Bool) → s.live ≡ live → eqb s.offset offset ≡ here
      → (IsSome (list_at (parts_in items ss) offset) → Some-extent ss offset)
      → IsSome (list_at (map (part_in items) (cond live (s ∷ filter (λ u. u.live) ss) (filter (λ u. u.live) ss))) offset) → Some-extent (s ∷ ss) offset
  some-extent-step s ss offset true true l e later h = (0, (s, record { here = refl; live = l; begins = eqb-true s.offset offset e; shows = rw l (rw e refl) }))
  some-extent-step s ss offset true false l e later h =
      let r = later (rw e at h) in
      (suc r.0, (r.1.0, record { here = r.1.1.here; live = r.1.1.live; begins = r.1.1.begins; shows = rw l (rw e r.1.1.shows) }))
  some-extent-step s ss offset false here l e later h =
      let r = later h in
      (suc r.0, (r.1.0, record { here = r.1.1.here; live = r.1.1.live; begins = r.1.1.begins; shows = rw l r.1.1.shows }))

  pub some-extent : (ss : List Extent) (offset : ℕ) → IsSome (list_at (parts_in items ss) offset) → Some-extent ss offset
  some-extent [] offset h = absurd (cc)
  some-extent (s ∷ ss) offset h = some-extent-step s ss offset s.live (eqb s.offset offset) refl refl (some-extent ss offset) h

  -- the only extent that begins there
  pub extent-of : (ss : List Extent) (offset i : ℕ) (s : Extent) → IsSome (list_at (parts_in items ss) offset)
      → ((k : ℕ) (t : Extent) → slice_get ss k ≡ Some t → t.offset ≡ offset → i ≡ k) → slice_get ss i ≡ Some s → IsExtentOf items ss offset i s
  extent-of ss offset i s h only e =
      let found = some-extent ss offset h in
      let at : i ≡ found.0 = only found.0 found.1.0 found.1.1.here found.1.1.begins in
      let is : s ≡ found.1.0 = cc in
      rw (at, is) found.1.1

  pub extent-in-table : (ss : List Extent) (offset i : ℕ) → IsSome (list_at (parts_in items ss) offset)
      → ((k : ℕ) (t : Extent) → slice_get ss k ≡ Some t → t.offset ≡ offset → i ≡ k) → i < length ss
  extent-in-table ss offset i h only =
      let found = some-extent ss offset h in
      omega (arith, only found.0 found.1.0 found.1.1.here found.1.1.begins, slice_get_within ss found.0 found.1.0 found.1.1.here)

  -- a table with a part has an extent
  pub extent-in-some : (ss : List Extent) (offset : ℕ) → IsSome (list_at (parts_in items ss) offset) → 0 < length ss
  extent-in-some [] offset h = absurd (cc)
  extent-in-some (s ∷ ss) offset h = omega arith

  pub extent-is-live : (ss : List Extent) (offset i : ℕ) → IsSome (list_at (parts_in items ss) offset)
      → ((k : ℕ) (t : Extent) → slice_get ss k ≡ Some t → t.offset ≡ offset → i ≡ k) → IsSomeAnd (slice_get ss i) (λ s. s.live ≡ true)
  extent-is-live ss offset i h only =
      let found = some-extent ss offset h in
      rw (only found.0 found.1.0 found.1.1.here found.1.1.begins, found.1.1.here) found.1.1.live

  -- the extent that is found at the offset of a part
  pub extent-found : (ss : List Extent) (offset : ℕ) (r : Option Extent) (s : Extent) → r ≡ Some s → IsSome (list_at (parts_in items ss) offset)
      → ((k : ℕ) (t : Extent) → slice_get ss k ≡ Some t → t.offset ≡ offset → r ≡ Some t) → (i : ℕ) × IsExtentOf items ss offset i s
  extent-found ss offset r s is h found =
      let some = some-extent ss offset h in
      let here : r ≡ Some some.1.0 = found some.0 some.1.0 some.1.1.here some.1.1.begins in
      let same : s ≡ some.1.0 = cc in
      (some.0, rw same some.1.1)

  pub none-found : (ss : List Extent) (offset : ℕ) (r : Option Extent) → r ≡ None → IsSome (list_at (parts_in items ss) offset)
      → ((k : ℕ) (t : Extent) → slice_get ss k ≡ Some t → t.offset ≡ offset → r ≡ Some t) → ⊥
  none-found ss offset r is h found =
      let some = some-extent ss offset h in
      let here : r ≡ Some some.1.0 = found some.0 some.1.0 some.1.1.here some.1.1.begins in
      cc

  -- a live extent has the part at its offset
  live-step : (s : Extent) (ss : List Extent) (offset : ℕ) (live here : Bool) → s.live ≡ live → eqb s.offset offset ≡ here → IsSome (list_at (parts_in items ss) offset) → IsSome (list_at (parts_in items (s ∷ ss)) offset)
  live-step s ss offset true true l e h = rw l (rw e refl)
  live-step s ss offset true false l e h = rw l (rw e h)
  live-step s ss offset false here l e h = rw l h

  pub live-shows : (ss : List Extent) (offset i : ℕ) (s : Extent) → slice_get ss i ≡ Some s → s.live ≡ true → s.offset ≡ offset → IsSome (list_at (parts_in items ss) offset)
  live-shows [] offset i s e live at = absurd (cc)
  live-shows (t ∷ ss) offset zero s e live at =
      let same : t ≡ s = cc in
      rw (ap (λ (u : Extent). u.live) same ∙ live) (rw (eq-eqb t.offset offset (ap (λ (u : Extent). u.offset) same ∙ at)) refl)
  live-shows (t ∷ ss) offset (suc i) s e live at = live-step t ss offset t.live (eqb t.offset offset) refl refl (live-shows ss offset i s e live at)

-- an extent ends within its table
pub extent-within : (from : ℕ) (ss : List Extent) (i : ℕ) (s : Extent) → AreAdjacent from ss → slice_get ss i ≡ Some s → s.offset + s.len ≤ extents_end from ss
extent-within from [] i s h e = absurd (cc)
extent-within from (t ∷ ss) zero s h e =
    let later = begin-le-end (from + t.len) ss h.2 in let same : t ≡ s = cc in
    omega (arith, h.0, ap (λ (u : Extent). u.offset) same, ap (λ (u : Extent). u.len) same)
extent-within from (t ∷ ss) (suc i) s h e = extent-within (from + t.len) ss i s h.2 e

-- the last extent ends where the table does
pub last-ends : (from : ℕ) (ss : List Extent) (i : ℕ) (s : Extent) → AreAdjacent from ss → length ss ≡ suc i → slice_get ss i ≡ Some s → s.offset + s.len ≡ extents_end from ss
last-ends from [] i s h n e = absurd (cc)
last-ends from (t ∷ []) zero s h n e = let same : t ≡ s = cc in omega (arith, h.0, ap (λ (u : Extent). u.offset) same, ap (λ (u : Extent). u.len) same)
last-ends from (t ∷ (u ∷ ss)) zero s h n e = absurd (omega arith)
last-ends from (t ∷ ss) (suc i) s h n e = last-ends (from + t.len) ss i s h.2 (omega arith) e
