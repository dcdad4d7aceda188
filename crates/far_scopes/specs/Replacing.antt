-- Replacing the lists of several objects at once.
use Rattle.std.specs.Prelude.{◌≡◌, ◌≢◌, ℕ, ◌-◌, not, Bool, true, false, List, [], ◌∷◌, length, take, map, Option, Some, option_map, All, AllPairs, slice_get, slice_set}
use Rattle.std.specs.Option.{option_map_or}
use Rattle.far_types.specs.declared.refusal.Refusal.{Refusal}
use Rattle.far_types.specs.declared.refusal.Refusal.TheVariants as refusal
use Rattle.far_pointer.specs.declared.pointer.At.{At}
use Rattle.far_pointer.specs.declared.pointer.Pointer.{Pointer}
use Rattle.far_pointer.specs.Layout.{with_at}
use Rattle.far_log.specs.RegionState.{RegionState, spaces_of, fits_in, fit_in_order}
use Rattle.far_scopes.specs.declared.replacement.Replacement.{Replacement}
use Rattle.far_scopes.specs.Memory.{Memory, place_of, list_in}
use Rattle.far_scopes.specs.Placing.{spot, with_new, without_at}
use Rattle.far_scopes.specs.Movement.{Movement, dirty, ticket_of, meant, list_of}

-- the words with this location in the word of object o, if it is local
abbrev pub with_place : List Pointer → ℕ → At → List Pointer
with_place words o at = option_map_or (λ word. slice_set words o (with_at word at))
    (slice_get words o) words

module _ {X : Type 0} where
  -- no object is listed twice
  abbrev pub AreListedOnce : List (Replacement X) → Type 0
  AreListedOnce lists = AllPairs (λ r s. r.object ≢ s.object) lists

  -- an object is not listed
  abbrev pub IsUnlisted : List (Replacement X) → ℕ → Type 0
  IsUnlisted lists o = All (λ r. o ≢ r.object) lists

  -- only the lists of listed objects change: each gets its new list
  pub record ChangesLists (old new : ℕ → Option (List X))
      (lists : List (Replacement X)) : Type 0 where
    pub here : All (λ r. new r.object ≡ Some r.list.items) lists
    pub others : (p : ℕ) → IsUnlisted lists p → new p ≡ old p

  -- whether the new lists, placed one after another, do not fit, and the refusal
  abbrev pub no_space_for_all : RegionState X → List (Replacement X) → Bool × Refusal
  no_space_for_all state lists = (
    not
        (fit_in_order (spaces_of state) (map (λ r. length r.list.items) lists)),
    refusal.RegionFull,
  )

  -- whether the first of the new lists fits, if there is one
  abbrev pub first_fits : RegionState X → List (Replacement X) → Bool
  first_fits state [] = true
  first_fits state (r ∷ rs) = fits_in state (length r.list.items)

  -- the region with the new lists, placed one after another
  abbrev pub with_all : RegionState X → List (Replacement X) → RegionState X
  with_all state [] = state
  with_all state (r ∷ rs) = with_all (with_new state r.list.items) rs

  -- the region without the parts of the listed objects
  abbrev pub without_all : RegionState X → List Pointer → List (Replacement X) → RegionState X
  without_all state words [] = state
  without_all state words (r ∷ rs) = without_at (without_all state words rs)
      (place_of words r.object)

  -- the words with the locations of the new lists in the words of the listed objects
  abbrev pub moved_all : RegionState X → List Pointer → List (Replacement X) → List Pointer
  moved_all state words [] = words
  moved_all state words (r ∷ rs) = with_place (moved_all (with_new state r.list.items) words rs)
      r.object (spot state (length r.list.items))

  -- each listed object, which is local, has its new list; all new lists were placed before an old list was dropped
  abbrev pub replaced_all : Memory X → List (Replacement X) → Memory X
  replaced_all memory lists = record {
    words = moved_all memory.state memory.words lists;
    state = without_all (with_all memory.state lists) memory.words lists;
  }

  -- each listed object, which is local, has its new list
  pub record ReplacesLists (old new : Memory X) (lists : List (Replacement X)) : Type 0 where
    -- the new state
    pub state : new ≡ replaced_all old lists
    -- only the listed objects' lists change
    pub each : ChangesLists (list_in old) (list_in new) lists

  -- the memory without the last object, whose part now belongs to object o
  abbrev pub after_take_over : Memory X → ℕ → Memory X
  after_take_over memory o =
      let last : ℕ = length memory.words - 1
      in record {
        words = option_map_or (with_place (take last memory.words) o) (place_of memory.words last)
            memory.words;
        state = without_at memory.state (place_of memory.words o);
      }

  -- the list of each clean object that is not listed is the list that its ticket's content encodes
  abbrev pub AreCleanElsewhere : {K : Type 0} → (List ℕ → List X) → (K → List ℕ)
      → Movement X K → List (Replacement X) → Type 0
  AreCleanElsewhere meaning content m lists = (o : ℕ)
      → IsUnlisted lists o → dirty m o ≡ false
      → list_of meaning content m o ≡ option_map (meant meaning content) (ticket_of m o)
