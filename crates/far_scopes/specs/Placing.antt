-- Changes of the local memory.
use Rattle.std.specs.Prelude.{ℕ, ◌-◌, true, false, List, [], ◌∷◌, ◌++◌, length, take, unwrap_or, Option, None, Some, slice_get, slice_set}
use Rattle.std.specs.Option.{option_map_or}
use Rattle.far_pointer.specs.declared.pointer.At.{At}
use Rattle.far_pointer.specs.declared.pointer.Pointer.{Pointer}
use Rattle.far_pointer.specs.declared.pointer.Pointer.TheVariants.{Local, Remote}
use Rattle.far_pointer.specs.Layout.{with_dirty, with_hot, with_at}
use Rattle.far_log.specs.RegionState.{RegionState, segment_of, fill_of, target_of}
use Rattle.far_log.specs.Effects.{with_segment, with_part, without_part, after_write_at}
use Rattle.far_scopes.specs.Memory.{Memory, place_of}

module _ {X : Type 0} where
  -- the location for a new part of n elements: in the lowest segment that has the space, at its fill
  abbrev pub spot : RegionState X → ℕ → At
  spot state n =
      let segment : ℕ = unwrap_or (target_of state n) 0
      in record { segment = segment; offset = fill_of (segment_of state segment) }

  -- the region with one more part, which has this list
  abbrev pub with_new : RegionState X → List X → RegionState X
  with_new state list =
      let segment : ℕ = unwrap_or (target_of state (length list)) 0
      in with_segment state segment (with_part (segment_of state segment) list)

  -- the region without the part at a location
  abbrev pub without_at : RegionState X → Option At → RegionState X
  without_at state None = state
  without_at state (Some at) = with_segment state at.segment
      (without_part (segment_of state at.segment) at.offset)

  -- the memory with one more object, which is local with this list, dirty and hot, and has no far copy
  abbrev pub with_object : Memory X → List X → Memory X
  with_object memory list = record {
    words = memory.words ++ Local (spot memory.state (length list)) true true false ∷ [];
    state = with_new memory.state list;
  }

  -- the memory without the last object
  abbrev pub after_remove_last : Memory X → Memory X
  after_remove_last memory =
      let last : ℕ = length memory.words - 1
      in record {
        words = take last memory.words;
        state = without_at memory.state (place_of memory.words last);
      }

  -- the memory with the word of object o changed by a function
  abbrev pub with_word : Memory X → ℕ → (Pointer → Pointer) → Memory X
  with_word memory o change = record memory {
    words = option_map_or
        (λ word. slice_set memory.words o (change word)) (slice_get memory.words o) memory.words;
  }

  -- object o is dirty and hot, if it is local
  abbrev pub after_mark : Memory X → ℕ → Memory X
  after_mark memory o = with_word memory o (λ word. with_hot (with_dirty word) true)

  -- object o is hot, if it is local
  abbrev pub after_heat : Memory X → ℕ → Memory X
  after_heat memory o = with_word memory o (λ word. with_hot word true)

  -- object o is away, and its part is dropped
  abbrev pub after_send_away : Memory X → ℕ → Memory X
  after_send_away memory o = record {
    words = slice_set memory.words o Remote;
    state = without_at memory.state (place_of memory.words o);
  }

  -- object o, which was away, is local with this list, clean and hot
  abbrev pub after_bring : Memory X → ℕ → List X → Memory X
  after_bring memory o list = record {
    words = slice_set memory.words o (Local (spot memory.state (length list)) false true true);
    state = with_new memory.state list;
  }

  -- ws is written over the elements of object o from index i on
  abbrev pub after_overwrite : Memory X → ℕ → ℕ → List X → Memory X
  after_overwrite memory o i ws = record memory {
    state = option_map_or (λ at. after_write_at memory.state at i ws) (place_of memory.words o)
        memory.state;
  }

  -- object o, which is local, has this list, which was placed before the old one was dropped
  abbrev pub replaced : Memory X → ℕ → List X → Memory X
  replaced memory o list = record {
    words = (with_word memory o (λ word. with_at word (spot memory.state (length list)))).words;
    state = without_at (with_new memory.state list) (place_of memory.words o);
  }
