-- The local memory of objects: the pointer word of each object, and the region that holds the lists of local objects.
use Rattle.std.specs.Prelude.{◌≡◌, ◌≢◌, ℕ, List, Option, None, Some, IsSome, slice_get}
use Rattle.std.specs.Option.{option_and_then}
use Rattle.far_pointer.specs.declared.pointer.At.{At}
use Rattle.far_pointer.specs.declared.pointer.Pointer.{Pointer}
use Rattle.far_pointer.specs.declared.pointer.Pointer.TheVariants.{Local, Remote}
use Rattle.far_log.specs.RegionState.{RegionState, part_of, IsRegion}

-- the pointer word of each object, and the region that holds the lists of local objects
pub record Memory (X : Type 0) : Type 0 where
  pub words : List Pointer
  pub state : RegionState X

-- the location in a word, if the word's object is local
abbrev pub at_of : Pointer → Option At
at_of (Local at dirty hot far) = Some at
at_of Remote = None

-- the location of object o's list, if the object is local
abbrev pub place_of : List Pointer → ℕ → Option At
place_of words o = option_and_then at_of (slice_get words o)

-- the list of an object, if it is local
abbrev pub list_in : {X : Type 0} → Memory X → ℕ → Option (List X)
list_in memory o = option_and_then (part_of memory.state) (place_of memory.words o)

-- only the list of object o changes: afterwards it is `now`, or there is none if `now` is `None`
pub record ChangesList {X : Type 0} (old new : ℕ → Option (List X)) (o : ℕ)
    (now : Option (List X)) : Type 0 where
  pub here : new o ≡ now
  pub others : (p : ℕ) → p ≢ o → new p ≡ old p

-- `place` maps objects to locations, and `part` maps locations to lists. Each location of an object has a list, no two objects share a
-- location, and each list belongs to an object
pub record OwnPlaces {X : Type 0} (place : ℕ → Option At)
    (part : At → Option (List X)) : Type 0 where
  pub placed : (o : ℕ) (at : At) → place o ≡ Some at → IsSome (part at)
  pub disjoint : (o p : ℕ) (at : At) → place o ≡ Some at → place p ≡ Some at → o ≡ p
  pub only : (at : At) → IsSome (part at) → (o : ℕ) × (place o ≡ Some at)

-- each local object owns one part of the region, and there is no other part
pub record IsMemory {X : Type 0} (words : List Pointer) (state : RegionState X) : Type 0 where
  pub region : IsRegion state
  pub own : OwnPlaces (place_of words) (part_of state)
