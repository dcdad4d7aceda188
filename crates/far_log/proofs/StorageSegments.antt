-- Segments that are stored in stacks and tables: the state of each, and what a change of one changes in the region.
use Rattle.std.proofs.Common.{◌≡◌, ℕ, zero, suc, ◌+◌, ◌<◌, ◌≤◌, ◌^◌, List, [], ◌∷◌, length, get_or, take, drop, replicate, Option, Some, None, IsSome, refl, sym, ap, subst, ◌∙◌, arith, length-take, length-drop}
use Rattle.std.specs.Prelude.{slice_set, sum_by, IsSomeAnd, All}
use Rattle.std.proofs.lemmas.List.{get_or_default, nil_from_length, length-map}
use Rattle.std.proofs.lemmas.List.Elements.{All-head, All-tail}
use Rattle.std.proofs.lemmas.List.Sums.{sum_by-cons}
use Rattle.far_log.specs.declared.extents.Extent.{Extent}
use Rattle.far_log.specs.declared.part_entry.PartEntry.{PartEntry}
use Rattle.far_log.specs.declared.table.Table.{Table}
use Rattle.far_log.specs.RegionState.{SegmentState, RegionState, fill_of, space_in, used_in, used_of, capacity_of, segment_of, list_at, IsLayout}
use Rattle.far_log.specs.Storage.{extents_of, parts_in, extents_end, AreAdjacent, IsSegmentStored, segment_states, AreSegmentsStored}
use Rattle.far_log.proofs.StorageParts.{stored-fill, begin-le-end, count-le-end, layout-parts}
use Rattle.far_log.proofs.EffectsGathering.{some-list, list-is}
use Rattle.far_log.proofs.StorageExtents.{some-extent, extent-within, IsExtentOf}
use Rattle.far_log.proofs.StoragePartChanges.{shown}
use Rattle.far_log.proofs.RegionStateLayouts.{fill-le-size}

-- a table without parts
abbrev pub default_value : Table
default_value = record { entries = []; used = 0 }

module _ {X : Type 0} (size : ℕ) where
  pub count-tables : (xss : List (List X)) (ts : List Table) → AreSegmentsStored size xss ts → length xss ≡ length ts
  count-tables [] [] h = refl
  count-tables [] (t ∷ ts) h = absurd h
  count-tables (xs ∷ xss) [] h = absurd h
  count-tables (xs ∷ xss) (t ∷ ts) h = ap suc (count-tables xss ts h.1)

  pub count-states : (xss : List (List X)) (ts : List Table) → AreSegmentsStored size xss ts → length (segment_states size xss ts) ≡ length ts
  count-states [] [] h = refl
  count-states [] (t ∷ ts) h = absurd h
  count-states (xs ∷ xss) [] h = absurd h
  count-states (xs ∷ xss) (t ∷ ts) h = ap suc (count-states xss ts h.1)

  kept-at : (xss : List (List X)) (ts : List Table) (k : ℕ) → AreSegmentsStored size xss ts → k < length ts → IsSegmentStored (get_or xss k []) (get_or ts k default_value) size
  kept-at [] [] k h lt = absurd (omega arith)
  kept-at [] (t ∷ ts) k h lt = absurd h
  kept-at (xs ∷ xss) [] k h lt = absurd h
  kept-at (xs ∷ xss) (t ∷ ts) zero h lt = h.0
  kept-at (xs ∷ xss) (t ∷ ts) (suc k) h lt = kept-at xss ts k h.1 (omega arith)

  state-at : (xss : List (List X)) (ts : List Table) (k : ℕ) → AreSegmentsStored size xss ts → k < length ts → segment_of (segment_states size xss ts) k ≡ shown (get_or xss k []) (extents_of (get_or ts k default_value).entries) size
  state-at [] [] k h lt = absurd (omega arith)
  state-at [] (t ∷ ts) k h lt = absurd h
  state-at (xs ∷ xss) [] k h lt = absurd h
  state-at (xs ∷ xss) (t ∷ ts) zero h lt = refl
  state-at (xs ∷ xss) (t ∷ ts) (suc k) h lt = state-at xss ts k h.1 (omega arith)

  -- segment k has another stack and another table
  pub states-set : (xss : List (List X)) (ts : List Table) (k : ℕ) (xs : List X) (t : Table) → segment_states size (slice_set xss k xs) (slice_set ts k t) ≡ slice_set (segment_states size xss ts) k (shown xs (extents_of t.entries) size)
  states-set [] ts k xs t = refl
  states-set (ys ∷ xss) [] zero xs t = refl
  states-set (ys ∷ xss) [] (suc k) xs t = refl
  states-set (ys ∷ xss) (u ∷ ts) zero xs t = refl
  states-set (ys ∷ xss) (u ∷ ts) (suc k) xs t = ap (λ rs. shown ys (extents_of u.entries) size ∷ rs) (states-set xss ts k xs t)

  pub kept-set : (xss : List (List X)) (ts : List Table) (k : ℕ) (xs : List X) (t : Table) → AreSegmentsStored size xss ts → IsSegmentStored xs t size → AreSegmentsStored size (slice_set xss k xs) (slice_set ts k t)
  kept-set [] [] k xs t h one = h
  kept-set [] (u ∷ ts) k xs t h one = absurd h
  kept-set (ys ∷ xss) [] k xs t h one = absurd h
  kept-set (ys ∷ xss) (u ∷ ts) zero xs t h one = (one, h.1)
  kept-set (ys ∷ xss) (u ∷ ts) (suc k) xs t h one = (h.0, kept-set xss ts k xs t h.1 one)

  -- segment k has another stack; the tables do not change
  pub states-set_stack : (xss : List (List X)) (ts : List Table) (k : ℕ) (xs : List X) → segment_states size (slice_set xss k xs) ts ≡ slice_set (segment_states size xss ts) k (shown xs (extents_of (get_or ts k default_value).entries) size)
  states-set_stack [] ts k xs = refl
  states-set_stack (ys ∷ xss) [] zero xs = refl
  states-set_stack (ys ∷ xss) [] (suc k) xs = refl
  states-set_stack (ys ∷ xss) (u ∷ ts) zero xs = refl
  states-set_stack (ys ∷ xss) (u ∷ ts) (suc k) xs = ap (λ rs. shown ys (extents_of u.entries) size ∷ rs) (states-set_stack xss ts k xs)

  pub kept-set_stack : (xss : List (List X)) (ts : List Table) (k : ℕ) (xs : List X) → AreSegmentsStored size xss ts → IsSegmentStored xs (get_or ts k default_value) size → AreSegmentsStored size (slice_set xss k xs) ts
  kept-set_stack [] [] k xs h one = h
  kept-set_stack [] (u ∷ ts) k xs h one = absurd h
  kept-set_stack (ys ∷ xss) [] k xs h one = absurd h
  kept-set_stack (ys ∷ xss) (u ∷ ts) zero xs h one = (one, h.1)
  kept-set_stack (ys ∷ xss) (u ∷ ts) (suc k) xs h one = (h.0, kept-set_stack xss ts k xs h.1 one)

  -- sums over all segments
  pub used-states : (xss : List (List X)) (ts : List Table) → AreSegmentsStored size xss ts → sum_by (λ t. t.used) ts ≡ used_of (segment_states size xss ts)
  used-states [] [] h = refl
  used-states [] (t ∷ ts) h = absurd h
  used-states (xs ∷ xss) [] h = absurd h
  used-states (xs ∷ xss) (t ∷ ts) h =
      omega (arith, h.0.stored.sum, used-states xss ts h.1, sum_by-cons (λ (u : Table). u.used) t ts, sum_by-cons (λ (s : SegmentState X). used_in s) (shown xs (extents_of t.entries) size) (segment_states size xss ts))

  pub filled-states : (xss : List (List X)) (ts : List Table) → AreSegmentsStored size xss ts → sum_by (λ xs. length xs) xss ≡ sum_by fill_of (segment_states size xss ts)
  filled-states [] [] h = refl
  filled-states [] (t ∷ ts) h = absurd h
  filled-states (xs ∷ xss) [] h = absurd h
  filled-states (xs ∷ xss) (t ∷ ts) h =
      omega (arith, stored-fill xs (extents_of t.entries) t.used size h.0.stored, filled-states xss ts h.1, sum_by-cons (λ (ys : List X). length ys) xs xss, sum_by-cons (λ (s : SegmentState X). fill_of s) (shown xs (extents_of t.entries) size) (segment_states size xss ts))

  -- no segment has a part
  pub states-none : (n : ℕ) → segment_states {X = X} size (replicate n []) (replicate n default_value) ≡ replicate n record { parts = []; size = size }
  states-none zero = refl
  states-none (suc n) = ap (λ (rs : RegionState X). record { parts = []; size = size } ∷ rs) (states-none n)

  pub kept-default_value : size < 2 ^ 32 → IsSegmentStored {X = X} [] default_value size
  kept-default_value small = record { stored = record { adjacent = tt; end = refl; live = tt; sum = refl; enough = omega arith; small = small }; linked = tt }

  -- a segment of the region: its stack and its table
  pub record IsSegment (state : RegionState X) (number : ℕ) (xs : List X) (t : Table) : Type 0 where
    pub kept : IsSegmentStored xs t size
    pub shows : segment_of state number ≡ shown xs (extents_of t.entries) size
    pub fill : fill_of (segment_of state number) ≡ length xs
    pub few : length t.entries < 2 ^ 32

  segment-from : (state : RegionState X) (number : ℕ) (xs : List X) (t : Table) → IsSegmentStored xs t size → segment_of state number ≡ shown xs (extents_of t.entries) size → IsSegment state number xs t
  segment-from state number xs t h e = record {
    kept = h;
    shows = e;
    fill = ap fill_of e ∙ stored-fill xs (extents_of t.entries) t.used size h.stored;
    few = omega (arith, count-le-end 0 (extents_of t.entries) h.stored.adjacent, length-map t.entries (λ (u : PartEntry). u.extent), h.stored.end, h.stored.enough, h.stored.small);
  }

  pub segment-is : (xss : List (List X)) (ts : List Table) (state : RegionState X) (number : ℕ) → AreSegmentsStored size xss ts → segment_states size xss ts ≡ state → number < length state → IsSegment state number (get_or xss number []) (get_or ts number default_value)
  segment-is xss ts state number h e lt =
      let there : number < length ts = omega (arith, lt, ap length e, count-states xss ts h) in
      segment-from state number (get_or xss number []) (get_or ts number default_value) (kept-at xss ts number h there) (ap (λ r. segment_of r number) (sym e) ∙ state-at xss ts number h there)

  -- a segment of the region, given its table
  pub segment-with : (xss : List (List X)) (ts : List Table) (state : RegionState X) (number : ℕ) (t : Table) → AreSegmentsStored size xss ts → segment_states size xss ts ≡ state → number < length state → t ≡ get_or ts number t → IsSegment state number (get_or xss number []) t
  segment-with xss ts state number t h e lt read =
      let there : number < length ts = omega (arith, lt, ap length e, count-states xss ts h) in
      subst (IsSegment state number (get_or xss number [])) (sym (read ∙ get_or_default ts number t default_value there)) (segment-is xss ts state number h e lt)

pub kept-none : (X : Type 0) (size n : ℕ) → size < 2 ^ 32 → AreSegmentsStored {X = X} size (replicate n []) (replicate n default_value)
kept-none X size zero small = tt
kept-none X size (suc n) small = (kept-default_value size small, kept-none X size n small)

-- a stack with a part has an element
pub some-element : {X : Type 0} (xs : List X) (ss : List Extent) (offset : ℕ) → AreAdjacent 0 ss → extents_end 0 ss ≡ length xs → IsSome (list_at (parts_in xs ss) offset) → 0 < length xs
some-element xs [] offset adjacent end some = absurd (cc)
some-element xs (s ∷ ss) offset adjacent end some = omega (arith, end, adjacent.1, begin-le-end (0 + s.len) ss adjacent.2)

-- the part has an element
pub part-some : {X : Type 0} (xs : List X) (ss : List Extent) (offset : ℕ) (list : List X) → AreAdjacent 0 ss → extents_end 0 ss ≡ length xs → list_at (parts_in xs ss) offset ≡ Some list → 0 < length list
part-some {X} xs ss offset list adjacent end is =
    let layout = layout-parts xs 0 0 (length xs) ss (omega arith) adjacent (omega (arith, end)) (omega arith) in
    let some = some-list 0 (length xs) (parts_in xs ss) offset layout (rw is refl) in
    omega (arith, some, ap (λ (ys : List X). length ys) (list-is (parts_in xs ss) offset list is))

-- a segment without parts has no elements
pub none-left : {X : Type 0} (xs : List X) (ss : List Extent) → AreAdjacent 0 ss → extents_end 0 ss ≡ length xs → length xs ≡ 0 → parts_in xs ss ≡ []
none-left xs ss adjacent end none = let no : ss ≡ [] = nil_from_length ss (omega (arith, count-le-end 0 ss adjacent, end, none)) in ap (parts_in xs) no

-- a part of known length
pub record Long {X : Type 0} (xs : List X) (ss : List Extent) (offset len : ℕ) : Type 0 where
  pub within : offset + len ≤ length xs
  pub some : 0 < length xs
  pub shows : list_at (parts_in xs ss) offset ≡ Some (take len (drop offset xs))

module _ {X : Type 0} (xs : List X) (ss : List Extent) (offset len : ℕ) (adjacent : AreAdjacent 0 ss) (end : extents_end 0 ss ≡ length xs) where
  long-of : (i : ℕ) (s : Extent) → IsExtentOf xs ss offset i s → IsSomeAnd (list_at (parts_in xs ss) offset) (λ list. length list ≡ len) → Long xs ss offset len
  long-of i s extent some =
      let ends = extent-within 0 ss i s adjacent extent.here in
      let n : length (take s.len (drop s.offset xs)) ≡ len = subst (λ (o : Option (List X)). IsSomeAnd o (λ list. length list ≡ len)) extent.shows some in
      let m : s.len ≡ len = omega (arith, n, length-take s.len (drop s.offset xs), length-drop s.offset xs, ends, end) in
      record {
        within = omega (arith, m, extent.begins, ends, end);
        some = some-element xs ss offset adjacent end (rw extent.shows refl);
        shows = extent.shows ∙ (λ j. Some (take (m j) (drop (extent.begins j) xs)));
      }

  pub long-in : IsSomeAnd (list_at (parts_in xs ss) offset) (λ list. length list ≡ len) → Long xs ss offset len
  long-in some = let found = some-extent xs ss offset (some-from (λ list. length list ≡ len) (list_at (parts_in xs ss) offset) some) in long-of found.0 found.1.0 found.1.1 some
    where
      some-from : {A : Type 0} (P : A → Type 0) (o : Option A) → IsSomeAnd o P → IsSome o
      some-from P (Some x) h = refl
      some-from P None h = absurd h

-- the spaces and fills add up to the sizes
pub space-rest : {X : Type 0} (state : RegionState X) → All IsLayout state → sum_by space_in state + sum_by fill_of state ≡ capacity_of state
space-rest [] h = refl
space-rest {X} (s ∷ state) h =
    let le = fill-le-size 0 s.size s.parts (All-head IsLayout s state h) in
    omega (arith, le, space-rest state (All-tail IsLayout s state h), sum_by-cons (λ (r : SegmentState X). space_in r) s state, sum_by-cons (λ (r : SegmentState X). fill_of r) s state, sum_by-cons (λ (r : SegmentState X). r.size) s state)
