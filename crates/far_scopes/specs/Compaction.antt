-- The local memory after a segment is compacted.
use Rattle.std.specs.Prelude.{◌≡◌, ℕ, ◌+◌, ◌==◌, ◌&&◌, not, if◌then◌else◌, Bool, false, List, [], ◌∷◌, ◌++◌, length, map, filter}
use Rattle.std.specs.List.{list_any}
use Rattle.far_pointer.specs.declared.pointer.At.{At}
use Rattle.far_pointer.specs.declared.pointer.Pointer.{Pointer}
use Rattle.far_pointer.specs.declared.pointer.Pointer.TheVariants.{Local, Remote}
use Rattle.far_pointer.specs.Layout.{is_hot}
use Rattle.far_log.specs.RegionState.{RegionState, Part, segment_of}
use Rattle.far_log.specs.Effects.{list_or_none, compacted, IsEmptyOther}
use Rattle.far_scopes.specs.Memory.{Memory}

-- whether a word has this location
abbrev pub begins_at : At → Pointer → Bool
begins_at here (Local at dirty hot far) = (at.segment == here.segment) && (at.offset == here.offset)
begins_at here Remote = false

-- whether the object at this location is hot
abbrev pub hot_at : List Pointer → At → Bool
hot_at words here = list_any (λ word. begins_at here word && is_hot word) words

module _ {X : Type 0} where
  -- the offsets of a segment's parts, ascending
  abbrev pub offsets_in : RegionState X → ℕ → List ℕ
  offsets_in state segment = map (λ p. p.offset) (segment_of state segment).parts

  -- the order of a compaction: the offsets of the parts of hot objects, then the offsets of the other parts, each group ascending
  abbrev pub hot_first : Memory X → ℕ → List ℕ
  hot_first memory segment =
      let hot : ℕ → Bool =
      λ offset. hot_at memory.words record { segment = segment; offset = offset }
      in filter hot (offsets_in memory.state segment)
      ++ filter (λ offset. not (hot offset)) (offsets_in memory.state segment)

  -- the new offset of the part that was at this offset: the total length of the parts before it in the order
  abbrev pub offset_after : List (Part X) → List ℕ → ℕ → ℕ
  offset_after parts [] offset = 0
  offset_after parts (o ∷ order) offset =
      if o == offset then 0
      else length (list_or_none parts o) + offset_after parts order offset

  -- the word of an object after the parts of segment `from` moved to segment `to` in this order: an object that was in `from` has its new
  -- location and is not hot, and any other word is unchanged
  abbrev pub moved_word : List (Part X) → List ℕ → ℕ → ℕ → Pointer → Pointer
  moved_word parts order from to (Local at dirty hot far) =
      if at.segment == from
      then Local record { segment = to; offset = offset_after parts order at.offset } dirty false
      far
      else Local at dirty hot far
  moved_word parts order from to Remote = Remote

  -- the memory after segment `from` is compacted into segment `to`
  abbrev pub after_compact : Memory X → ℕ → ℕ → Memory X
  after_compact memory from to =
      let order : List ℕ = hot_first memory from
      in record {
        words = map (moved_word (segment_of memory.state from).parts order from to) memory.words;
        state = compacted memory.state from to order;
      }

  -- new is old with segment `from` compacted into the lowest other segment that has no parts
  pub record IsCompacted (old new : Memory X) (from : ℕ) : Type 0 where
    pub to : ℕ
    pub target : IsEmptyOther old.state from to
    pub memory : new ≡ after_compact old from to
