-- The changes of a local region.
use Rattle.std.specs.Prelude.{◌≡◌, ◌≢◌, ℕ, ◌+◌, ◌-◌, ◌<◌, ◌==◌, not, if◌then◌else◌, List, [], ◌∷◌, ◌++◌, length, take, drop, map, filter, unwrap_or, Option, None, Some, IsSome, slice_set, slice_index, Contains, All, AllPairs}
use Rattle.far_pointer.specs.declared.pointer.At.{At}
use Rattle.far_log.specs.RegionState.{Part, SegmentState, RegionState, fill_of, list_at, segment_of, part_of, target_of}

-- new is old, except that the list at this location is `now`
pub record ChangesOnly {X : Type 0} (old new : RegionState X) (at : At)
    (now : Option (List X)) : Type 0 where
  pub here : part_of new at ≡ now
  pub others : (q : At) → q ≢ at → part_of new q ≡ part_of old q

module _ {X : Type 0} where
  -- the segment with this list as one more part, at its fill
  abbrev pub with_part : SegmentState X → List X → SegmentState X
  with_part s list =
      record s { parts = s.parts ++ record { offset = fill_of s; list = list } ∷ [] }

  -- the segment without the part that begins at an offset
  abbrev pub without_part : SegmentState X → ℕ → SegmentState X
  without_part s offset = record s { parts = filter (λ p. not (p.offset == offset)) s.parts }

  -- the part with this list if it begins at this offset, and else unchanged
  abbrev pub replaced : ℕ → List X → Part X → Part X
  replaced offset list p = if p.offset == offset then record p { list = list } else p

  -- the segment with another list in the part that begins at an offset
  abbrev pub with_list : SegmentState X → ℕ → List X → SegmentState X
  with_list s offset list = record s { parts = map (replaced offset list) s.parts }

  -- xs with ws written over its elements from index i on; its length does not change
  abbrev pub written_over : List X → ℕ → List X → List X
  written_over xs i ws = take (length xs) (take i xs ++ (ws ++ drop (i + length ws) xs))

  -- the part after ws is written over the elements of its segment from offset `from` on
  abbrev pub after_overwrite : ℕ → List X → Part X → Part X
  after_overwrite from ws p =
      record p { list = written_over p.list (from - p.offset) (drop (p.offset - from) ws) }

  -- the segment after ws is written over its elements from offset `from` on
  abbrev pub after_write : SegmentState X → ℕ → List X → SegmentState X
  after_write s from ws = record s { parts = map (after_overwrite from ws) s.parts }

  -- the region with another segment at this number
  abbrev pub with_segment : RegionState X → ℕ → SegmentState X → RegionState X
  with_segment state number s = slice_set state number s

  -- the region after ws is written over its elements from the i-th after a location on
  abbrev pub after_write_at : RegionState X → At → ℕ → List X → RegionState X
  after_write_at state at i ws =
      with_segment state at.segment (after_write (segment_of state at.segment) (at.offset + i) ws)

  -- the region with this list in the part at a location
  abbrev pub with_list_at : RegionState X → At → List X → RegionState X
  with_list_at state at list =
      with_segment state at.segment (with_list (segment_of state at.segment) at.offset list)

  -- new is old with another list in the part at this location
  pub record WritesPart (old new : RegionState X) (at : At) (list : List X) : Type 0 where
    pub state : new ≡ with_list_at old at list
    pub change : ChangesOnly old new at (Some list)

  -- the parts that lists form when they are placed one after another, from an offset on
  abbrev pub layout_from : ℕ → List (List X) → List (Part X)
  layout_from from [] = []
  layout_from from (xs ∷ xss) = record { offset = from; list = xs }
      ∷ layout_from (from + length xs) xss

  -- the list that begins at an offset, or the empty one if none does
  abbrev pub list_or_none : List (Part X) → ℕ → List X
  list_or_none parts offset = unwrap_or (list_at parts offset) []

  -- the parts at these offsets, moved in this order to the beginning of a segment
  abbrev pub gathered : List (Part X) → List ℕ → List (Part X)
  gathered parts order = layout_from 0 (map (list_or_none parts) order)

  -- the region after the parts of segment `from` were moved to segment `to` in this order
  abbrev pub compacted : RegionState X → ℕ → ℕ → List ℕ → RegionState X
  compacted state from to order =
      with_segment
      (with_segment state to
      (record (segment_of state to) { parts = gathered (segment_of state from).parts order }))
      from (record (segment_of state from) { parts = [] })

  -- the order lists the offset of each part of the segment once
  pub record IsOrder (parts : List (Part X)) (order : List ℕ) : Type 0 where
    pub listed : All (λ offset. IsSome (list_at parts offset)) order
    pub whole : (offset : ℕ) → IsSome (list_at parts offset) → Contains order offset
    pub once : AllPairs (λ offset other. offset ≢ other) order

  -- this location, where no part began, now has this list
  pub record AddsPart (old new : RegionState X) (at : At) (list : List X) : Type 0 where
    -- no part began there
    pub free : part_of old at ≡ None
    -- only this location changes
    pub change : ChangesOnly old new at (Some list)

  -- new is old with this list as one more part, at this location: the fill of the lowest segment that has the space
  pub record IsPlaced (old new : RegionState X) (at : At) (list : List X) : Type 0 where
    pub segment : target_of old (length list) ≡ Some at.segment
    pub offset : at.offset ≡ fill_of (segment_of old at.segment)
    pub state : new ≡ with_segment old at.segment (with_part (segment_of old at.segment) list)

  -- segment `to` is the lowest segment without parts, other than `from`
  pub record IsEmptyOther (state : RegionState X) (from to : ℕ) : Type 0 where
    pub within : to < length state
    pub other : to ≢ from
    pub empty : (segment_of state to).parts ≡ []
    pub lowest : (k : ℕ) → k < to → k ≢ from → (segment_of state k).parts ≢ []

  -- every segment other than `from` has a part
  abbrev pub HasNoEmptyOther : RegionState X → ℕ → Type 0
  HasNoEmptyOther state from = (k : ℕ) → k < length state → k ≢ from
      → (segment_of state k).parts ≢ []

  -- the parts of segment `from` were moved, in this order, to the beginning of segment `to`; these are their new offsets
  pub record Compacts (old new : RegionState X) (from to : ℕ)
      (order offsets : List ℕ) : Type 0 where
    pub target : IsEmptyOther old from to
    pub state : new ≡ compacted old from to order
    pub offsets_are : offsets ≡ map (λ p. p.offset) (gathered (segment_of old from).parts order)
    pub moved : (k : ℕ) → k < length order
        → list_at (segment_of new to).parts (slice_index offsets k)
        ≡ list_at (segment_of old from).parts (slice_index order k)
    pub only : (offset : ℕ) → IsSome (list_at (segment_of new to).parts offset)
        → Contains offsets offset
    pub emptied : (segment_of new from).parts ≡ []
    pub others : (number : ℕ) → number ≢ from → number ≢ to
        → segment_of new number ≡ segment_of old number
