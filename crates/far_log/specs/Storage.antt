-- How segments store their parts: the elements of a segment in a stack, and a table of extents.
-- Internal: no public contract cites it.
use Rattle.std.specs.Prelude.{◌≡◌, ℕ, zero, suc, ◌+◌, ◌≤◌, ◌<◌, ◌^◌, if◌then◌else◌, true, false, List, [], ◌∷◌, length, take, drop, map, filter, sum_by, slice_get, Some}
use Rattle.far_log.specs.declared.extents.Extent.{Extent}
use Rattle.far_log.specs.declared.links.Link.{Link}
use Rattle.far_log.specs.declared.part_entry.PartEntry.{PartEntry}
use Rattle.far_log.specs.declared.table.Table.{Table}
use Rattle.far_log.specs.RegionState.{Part, RegionState}

-- the extents in a table
abbrev pub extents_of : List PartEntry → List Extent
extents_of table = map (λ e. e.extent) table

-- the links in a table
abbrev pub links_of : List PartEntry → List Link
links_of table = map (λ e. e.link) table

-- each extent begins where the one before it ends, and is not empty
abbrev pub AreAdjacent : ℕ → List Extent → Type 0
AreAdjacent from [] = Unit {0}
AreAdjacent from (s ∷ ss) = (s.offset ≡ from) × (0 < s.len) × AreAdjacent (from + s.len) ss

-- each extent begins after those with lower numbers
abbrev pub IsSorted : List Extent → Type 0
IsSorted extents = (j k : ℕ) (s t : Extent) → slice_get extents j ≡ Some s
    → slice_get extents k ≡ Some t → j < k → s.offset < t.offset

-- the offset at which the last extent ends, or `from` if there is none
abbrev pub extents_end : ℕ → List Extent → ℕ
extents_end from [] = from
extents_end from (s ∷ ss) = extents_end (from + s.len) ss

-- the last extent, if there is one, has a part
abbrev pub EndsLive : List Extent → Type 0
EndsLive [] = Unit {0}
EndsLive (s ∷ []) = s.live ≡ true
EndsLive (s ∷ (t ∷ ss)) = EndsLive (t ∷ ss)

-- the extents after the part of extent `number` was dropped
abbrev pub emptied_at : List Extent → ℕ → List Extent
emptied_at [] number = []
emptied_at (s ∷ ss) zero = record s { live = false } ∷ ss
emptied_at (s ∷ ss) (suc number) = s ∷ emptied_at ss number

-- the live extents of a table, from this number on, are linked: each has the number, plus 1, of the live one before it, and that one has
-- its number. `before` and `behind` are the values for the extents before these
abbrev pub AreLinked : ℕ → ℕ → ℕ → List Extent → List Link → Type 0
AreLinked number before behind [] [] = Unit {0}
AreLinked number before behind [] (l ∷ ls) = ⊥
AreLinked number before behind (s ∷ ss) [] = ⊥
AreLinked number before behind (s ∷ ss) (l ∷ ls) =
    (s.live ≡ true → (l.before ≡ before) × (0 < before → behind ≡ number))
    × AreLinked (suc number) (if s.live then suc number else before)
    (if s.live then l.behind else behind) ss ls

-- the links with `behind` replaced in link i
abbrev pub with_behind : List Link → ℕ → ℕ → List Link
with_behind [] i behind = []
with_behind (l ∷ ls) zero behind = record l { behind = behind } ∷ ls
with_behind (l ∷ ls) (suc i) behind = l ∷ with_behind ls i behind

-- the links with `before` replaced in link i
abbrev pub with_before : List Link → ℕ → ℕ → List Link
with_before [] i before = []
with_before (l ∷ ls) zero before = record l { before = before } ∷ ls
with_before (l ∷ ls) (suc i) before = l ∷ with_before ls i before

module _ {X : Type 0} where
  -- the part of an extent
  abbrev pub part_in : List X → Extent → Part X
  part_in items s = record { offset = s.offset; list = take s.len (drop s.offset items) }

  -- the parts of the live extents
  abbrev pub parts_in : List X → List Extent → List (Part X)
  parts_in items extents = map (part_in items) (filter (λ s. s.live) extents)

  -- the table has the location of each part, and the elements end with the last part
  pub record IsStored (items : List X) (extents : List Extent) (used size : ℕ) : Type 0 where
    pub adjacent : AreAdjacent 0 extents
    pub end : extents_end 0 extents ≡ length items
    pub live : EndsLive extents
    pub sum : used ≡ sum_by (λ p. length p.list) (parts_in items extents)
    pub enough : length items ≤ size
    pub small : size < 2 ^ 32

  -- the table stores the segment's parts, and its live extents are linked
  pub record IsSegmentStored (items : List X) (table : Table) (size : ℕ) : Type 0 where
    pub stored : IsStored items (extents_of table.entries) table.used size
    pub linked : AreLinked 0 0 0 (extents_of table.entries) (links_of table.entries)

  -- the states of segments of this size
  abbrev pub segment_states : ℕ → List (List X) → List Table → RegionState X
  segment_states size [] ts = []
  segment_states size (xs ∷ xss) [] = []
  segment_states size (xs ∷ xss) (t ∷ ts) = record
      { parts = parts_in xs (extents_of t.entries); size = size }
      ∷ segment_states size xss ts

  -- each table stores its segment's parts
  abbrev pub AreSegmentsStored : ℕ → List (List X) → List Table → Type 0
  AreSegmentsStored size [] [] = Unit {0}
  AreSegmentsStored size [] (t ∷ ts) = ⊥
  AreSegmentsStored size (xs ∷ xss) [] = ⊥
  AreSegmentsStored size (xs ∷ xss) (t ∷ ts) = IsSegmentStored xs t size
      × AreSegmentsStored size xss ts
