-- The state of objects: their words, lists, records and order of use. Objects are numbered from 0, in the order in which they were created.
use Rattle.std.specs.Prelude.{◌≡◌, ◌≢◌, ℕ, ◌≤◌, ◌<◌, ◌^◌, Bool, true, false, List, length, Option, Some, is_some, IfSome, IsSomeAnd, option_map, slice_get}
use Rattle.std.specs.Option.{option_map_or, option_and_then, option_or}
use Rattle.far_pointer.specs.declared.pointer.Pointer.{Pointer}
use Rattle.far_pointer.specs.declared.pointer.Pointer.TheVariants.{Local, Remote}
use Rattle.far_pointer.specs.Layout.{is_dirty, is_hot}
use Rattle.far_scopes.specs.declared.object_record.ObjectRecord.{ObjectRecord}
use Rattle.far_scopes.specs.Recency.{has, Once}
use Rattle.far_scopes.specs.Memory.{Memory, place_of, list_in}

-- objects with lists of X, and with tickets of type K for their far copies: the frame's number, the limits of writes and evictions, the
-- local memory, the record of each object, and the local objects in the order of use, the most recently used first
pub record Movement (X K : Type 0) : Type 0 where
  pub number : ℕ
  pub max_writes : ℕ
  pub leavings : ℕ
  pub memory : Memory X
  pub records : List (ObjectRecord K)
  pub order : List ℕ

-- every object except o keeps its word and its record
pub record ChangesObject {X K : Type 0} (old new : Movement X K) (o : ℕ) : Type 0 where
  pub words : (p : ℕ) → p ≢ o
      → slice_get new.memory.words p ≡ slice_get old.memory.words p
  pub records : (p : ℕ) → p ≢ o → slice_get new.records p ≡ slice_get old.records p

-- whether the word's object has a far copy, up to date or not
abbrev pub has_copy : Pointer → Bool
has_copy (Local at dirty hot far) = far
has_copy Remote = true

module _ {X K : Type 0} where
  -- the pointer word of an object, if there is one
  abbrev pub word_of : Movement X K → ℕ → Option Pointer
  word_of m o = slice_get m.memory.words o

  -- the record of an object, if there is one
  abbrev pub record_of : Movement X K → ℕ → Option (ObjectRecord K)
  record_of m o = slice_get m.records o

  -- whether an object is local
  abbrev pub is_local : Movement X K → ℕ → Bool
  is_local m o = is_some (place_of m.memory.words o)

  -- whether an object is local and dirty: written since its far copy was made, or without a far copy
  abbrev pub dirty : Movement X K → ℕ → Bool
  dirty m o = option_map_or is_dirty (word_of m o) false

  -- whether an object is local and hot
  abbrev pub hot : Movement X K → ℕ → Bool
  hot m o = option_map_or is_hot (word_of m o) false

  -- how often an object was written
  abbrev pub version_of : Movement X K → ℕ → ℕ
  version_of m o = option_map_or (λ e. e.version) (record_of m o) 0

  -- how often an object was evicted
  abbrev pub leavings_of : Movement X K → ℕ → ℕ
  leavings_of m o = option_map_or (λ e. e.leavings) (record_of m o) 0

  -- how many pins an object has
  abbrev pub pins_of : Movement X K → ℕ → ℕ
  pins_of m o = option_map_or (λ e. e.pins) (record_of m o) 0

  -- the ticket of the newest far copy of an object, if it has one
  abbrev pub ticket_of : Movement X K → ℕ → Option K
  ticket_of m o = option_and_then (λ e. e.ticket) (record_of m o)

  -- the ticket of each object is of the store with this id
  abbrev pub AreHere : (K → List ℕ → Type 0) → List ℕ → Movement X K → Type 0
  AreHere is_of id m = (o : ℕ) → IfSome (ticket_of m o) (λ ticket. is_of ticket id)

  module _ (meaning : List ℕ → List X) (content : K → List ℕ) where
    -- the list that a ticket's content encodes
    abbrev pub meant : K → List X
    meant ticket = meaning (content ticket)

    -- the list of an object, local or away
    abbrev pub list_of : Movement X K → ℕ → Option (List X)
    list_of m o = option_or (list_in m.memory o) (option_map meant (ticket_of m o))

    -- each clean object's list is the list that its ticket's content encodes
    abbrev pub AreClean : Movement X K → Type 0
    AreClean m = (o : ℕ) → dirty m o ≡ false
        → list_of m o ≡ option_map meant (ticket_of m o)

    module _ (spelled : List X → List ℕ → Type 0) where
      -- the invariant of one object, given its word, its list if it is local, and its record
      pub record IsTracked (max_writes leavings : ℕ) (word : Pointer) (list : Option (List X))
          (object_record : ObjectRecord K) : Type 0 where
        pub version : object_record.version ≤ max_writes
        pub left : object_record.leavings ≤ leavings
        pub some : 0 < object_record.len
        pub long : IfSome list (λ xs. length xs ≡ object_record.len)
        pub away : word ≡ Remote
            → (object_record.pins ≡ 0)
            × IsSomeAnd object_record.ticket
            (λ ticket. length (meant ticket) ≡ object_record.len)
        pub copy : has_copy word ≡ is_some object_record.ticket
        pub far : IfSome object_record.ticket (λ ticket. spelled (meant ticket) (content ticket))

      -- the invariant of all objects: each has a word and a record, and the order of use has each local object once and no other object
      pub record AreTracked (m : Movement X K) : Type 0 where
        pub same_length : length m.records ≡ length m.memory.words
        pub few : length m.records ≤ 2 ^ 28
        pub each : (o : ℕ) (word : Pointer) (object_record : ObjectRecord K)
            → word_of m o ≡ Some word → record_of m o ≡ Some object_record
            → IsTracked m.max_writes m.leavings word (list_in m.memory o) object_record
        pub once : Once m.order
        pub ordered : (o : ℕ) → has m.order o ≡ is_local m o
