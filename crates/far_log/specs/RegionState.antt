-- What contracts see of a local region: its parts, where each is, and how much space remains.
use Rattle.std.specs.Prelude.{◌≡◌, ℕ, ◌+◌, ◌-◌, ◌≤◌, ◌<◌, ◌==◌, nat_le, if◌then◌else◌, Bool, true, false, List, [], ◌∷◌, length, map, sum_by, position, All, is_some, Option, Some, None, slice_index_or, slice_index, slice_set}
use Rattle.std.specs.Option.{option_map_or}
use Rattle.far_pointer.specs.declared.pointer.At.{At}

-- a part: its offset in its segment, and its elements
pub record Part (X : Type 0) : Type 0 where
  pub offset : ℕ
  pub list : List X

-- the state of a segment: its parts by ascending offset, and its capacity in elements
pub record SegmentState (X : Type 0) : Type 0 where
  pub parts : List (Part X)
  pub size : ℕ

-- a region: the state of each of its segments
abbrev pub RegionState : Type 0 → Type 0
RegionState X = List (SegmentState X)

module _ {X : Type 0} where
  -- the offset at which a part ends
  abbrev pub end_of : Part X → ℕ
  end_of p = p.offset + length p.list

  -- the offset at which the last of some parts ends, or `from` if there is none
  abbrev pub fill_from : ℕ → List (Part X) → ℕ
  fill_from from [] = from
  fill_from from (p ∷ ps) = fill_from (end_of p) ps

  -- the fill of a segment: the end of its last part, 0 if it has none
  abbrev pub fill_of : SegmentState X → ℕ
  fill_of s = fill_from 0 s.parts

  -- the space of a segment: how many elements fit after its fill
  abbrev pub space_in : SegmentState X → ℕ
  space_in s = s.size - fill_of s

  -- the total length of a segment's parts
  abbrev pub used_in : SegmentState X → ℕ
  used_in s = sum_by (λ p. length p.list) s.parts

  -- each part is not empty and begins where the part before it ends or later; the last ends within the size
  abbrev pub IsLayoutFrom : ℕ → List (Part X) → ℕ → Type 0
  IsLayoutFrom from [] size = from ≤ size
  IsLayoutFrom from (p ∷ ps) size = (from ≤ p.offset)
      × (0 < length p.list)
      × IsLayoutFrom (end_of p) ps size

  -- the parts of a segment do not overlap, and are within it
  abbrev pub IsLayout : SegmentState X → Type 0
  IsLayout s = IsLayoutFrom 0 s.parts s.size

  -- the list of the part that begins at an offset
  abbrev pub list_at : List (Part X) → ℕ → Option (List X)
  list_at [] offset = None
  list_at (p ∷ ps) offset = if p.offset == offset then Some p.list else list_at ps offset

  -- the state of the segment with this number, or a segment without space if there is none
  abbrev pub segment_of : RegionState X → ℕ → SegmentState X
  segment_of state number = slice_index_or state number record { parts = []; size = 0 }

  -- the list of the part at a location
  abbrev pub part_of : RegionState X → At → Option (List X)
  part_of state at = list_at (segment_of state at.segment).parts at.offset

  -- the total length of all parts
  abbrev pub used_of : RegionState X → ℕ
  used_of state = sum_by used_in state

  -- the space of each segment
  abbrev pub spaces_of : RegionState X → List ℕ
  spaces_of state = map space_in state

  -- the total space of all segments
  abbrev pub space_of : RegionState X → ℕ
  space_of state = sum_by space_in state

  -- the total size of all segments
  abbrev pub capacity_of : RegionState X → ℕ
  capacity_of state = sum_by (λ s. s.size) state

-- the lowest segment with space for n elements, given the space of each
abbrev pub lowest_for : List ℕ → ℕ → Option ℕ
lowest_for spaces n = position (λ space. nat_le n space) spaces

-- whether lists of these lengths can be placed one after another, each in the lowest segment that has the space
abbrev pub fit_in_order : List ℕ → List ℕ → Bool
fit_in_order spaces [] = true
fit_in_order spaces (n ∷ ns) =
    option_map_or (λ i. fit_in_order (slice_set spaces i (slice_index spaces i - n)) ns)
    (lowest_for spaces n) false

module _ {X : Type 0} where
  -- the segment in which a list of n elements is placed: the lowest that has the space
  abbrev pub target_of : RegionState X → ℕ → Option ℕ
  target_of state n = lowest_for (spaces_of state) n

  -- whether some segment has the space for a list of n elements
  abbrev pub fits_in : RegionState X → ℕ → Bool
  fits_in state n = is_some (target_of state n)

  -- at most 65,536 segments, all with the capacity of the first, and without overlapping parts
  pub record IsRegion (state : RegionState X) : Type 0 where
    pub few : length state ≤ 65536
    pub same_length : All (λ s. s.size ≡ (segment_of state 0).size) state
    pub layout : All IsLayout state
