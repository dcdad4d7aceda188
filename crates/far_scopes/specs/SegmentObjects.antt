-- The objects with parts in a segment.
-- Internal: no public contract cites it.
use Rattle.std.specs.Prelude.{◌≡◌, ◌≢◌, ℕ, ◌<◌, ◌==◌, ◌&&◌, not, if◌then◌else◌, Bool, List, ◌++◌, length, map, Option, Some, None, All, AllPairs, Contains, slice_get, slice_index, slice_index_or, option_map, true, false}
use Rattle.std.specs.Option.{option_and_then}
use Rattle.std.specs.List.Sorted.{IsNonDecreasing}
use Rattle.far_pointer.specs.declared.pointer.Pointer.{Pointer}
use Rattle.far_pointer.specs.declared.pointer.Pointer.TheVariants.{Local, Remote}
use Rattle.far_pointer.specs.Layout.{with_hot, with_at}
use Rattle.far_scopes.specs.declared.memory.compaction.SegmentObject.{SegmentObject}

-- the offset of an object's part, if the part is in this segment and the object has this hot bit
abbrev pub offset_if : ℕ → Bool → Pointer → Option ℕ
offset_if segment hot (Local at dirty is_hot far) =
    if (at.segment == segment) && (if hot then is_hot else not is_hot) then Some at.offset else None
offset_if segment hot Remote = None

-- the offset of object o's part, if the part is in this segment and the object has this hot bit
abbrev pub offset_of : List Pointer → ℕ → Bool → ℕ → Option ℕ
offset_of words segment hot o = option_and_then (offset_if segment hot) (slice_get words o)

-- the list has, once, each object below n that has its part in the segment and this hot bit
pub record AreObjects (words : List Pointer) (segment : ℕ) (hot : Bool) (n : ℕ)
    (objects : List SegmentObject) : Type 0 where
  pub sound : All
      (λ found. (found.object < n)
      × (offset_of words segment hot found.object ≡ Some found.offset))
      objects
  pub whole : (o offset : ℕ) → o < n → offset_of words segment hot o ≡ Some offset
      → Contains objects record { object = o; offset = offset }
  pub once : AllPairs (λ o p. o ≢ p) (map (λ found. found.object) objects)

-- the list has all objects with parts in the segment and with this hot bit, by ascending offset
pub record AreSorted (words : List Pointer) (segment : ℕ) (hot : Bool)
    (objects : List SegmentObject) : Type 0 where
  pub all : AreObjects words segment hot (length words) objects
  pub sorted : IsNonDecreasing (map (λ found. found.offset) objects)

-- the objects with parts in a segment: first the hot objects, then the others, each group by ascending offset
pub record AreHotFirst (words : List Pointer) (segment : ℕ)
    (objects : List SegmentObject) : Type 0 where
  pub hot : List SegmentObject
  pub others : List SegmentObject
  pub joined : objects ≡ hot ++ others
  pub first : AreSorted words segment true hot
  pub rest : AreSorted words segment false others

-- new is old, except that the words of the first n of these objects have these offsets in segment `to` and are not hot
pub record Settles (old new : List Pointer) (objects : List SegmentObject) (to : ℕ)
    (offsets : List ℕ) (n : ℕ) : Type 0 where
  pub long : length new ≡ length old
  pub here : (k : ℕ) (d : SegmentObject) → k < n
      → slice_get new (slice_index_or objects k d).object
      ≡ option_map (λ word. with_hot
      (with_at word record { segment = to; offset = slice_index offsets k }) false)
      (slice_get old (slice_index_or objects k d).object)
  pub others : (p : ℕ)
      → ((k : ℕ) (d : SegmentObject) → k < n → (slice_index_or objects k d).object ≢ p)
      → slice_get new p ≡ slice_get old p
