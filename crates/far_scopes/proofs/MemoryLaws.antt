-- The local memory after an object is added, removed or written.
use Rattle.std.proofs.Common.{◌≡◌, ◌≢◌, ℕ, ◌<◌, inl, inr, true, false, List, [], ◌∷◌, ◌++◌, length, Some, None, IsSome, refl, sym, ap, subst, ◌∙◌}
use Rattle.std.specs.Prelude.{slice_get, slice_set}
use Rattle.std.specs.Option.{option_and_then, option_map_or}
use Rattle.std.proofs.lemmas.Bool.{cases_eq}
use Rattle.std.proofs.lemmas.List.{set-get_or}
use Rattle.std.proofs.lemmas.Option.{slice_get_within, get_or_from_slice_get}
use Rattle.far_pointer.specs.declared.pointer.At.{At}
use Rattle.far_pointer.specs.declared.pointer.Pointer.{Pointer}
use Rattle.far_pointer.specs.declared.pointer.Pointer.TheVariants.{Local, Remote}
use Rattle.far_pointer.specs.Layout.{is_dirty, is_hot, with_dirty, with_hot, with_at}
use Rattle.far_log.specs.RegionState.{RegionState, part_of, IsRegion}
use Rattle.far_log.specs.Effects.{ChangesOnly, IsPlaced}
use Rattle.far_scopes.specs.Placing.{spot, with_new, after_mark}
use Rattle.far_scopes.specs.Memory.{Memory, at_of, place_of, list_in, ChangesList, IsMemory}
use Rattle.far_scopes.proofs.MemoryPlaces.{own-lost, lists-lost, own-gained, lists-gained, own-moved, lists-moved, own-same, lists-same, not_some}
use Rattle.far_scopes.proofs.MemoryWordPlaces.{place-set_same, place-set_other, place-push_last, place-push_other, place-end}

module _ {X : Type 0} (words : List Pointer) (state state' : RegionState X) (m : IsMemory words state) where
  -- an object is evicted
  module _ (o : ℕ) (at : At) (within : o < length words) (was : place_of words o ≡ Some at) (change : ChangesOnly state state' at None) where
    pub memory-lost : IsRegion state' → IsMemory (slice_set words o Remote) state'
    memory-lost region = record {
      region = region;
      own = own-lost (place_of words) (place_of (slice_set words o Remote)) (part_of state) (part_of state') m.own o (place-set_other words o Remote) at was (place-set_same words o Remote within) change.here change.others;
    }

    pub list-lost : ChangesList (list_in record { words = words; state = state }) (list_in record { words = slice_set words o Remote; state = state' }) o None
    list-lost = lists-lost (place_of words) (place_of (slice_set words o Remote)) (part_of state) (part_of state') m.own o (place-set_other words o Remote) at was (place-set_same words o Remote within) change.here change.others

  -- an object is added
  module _ (word : Pointer) (at : At) (list : List X) (is : at_of word ≡ Some at) (free : part_of state at ≡ None) (change : ChangesOnly state state' at (Some list)) where
    pub memory-with_object : IsRegion state' → IsMemory (words ++ word ∷ []) state'
    memory-with_object region = record {
      region = region;
      own = own-gained (place_of words) (place_of (words ++ word ∷ [])) (part_of state) (part_of state') m.own (length words) (place-push_other words word) at list (place-end words) (place-push_last words word ∙ is) free change.here change.others;
    }

    pub list-with_object : ChangesList (list_in record { words = words; state = state }) (list_in record { words = words ++ word ∷ []; state = state' }) (length words) (Some list)
    list-with_object = lists-gained (place_of words) (place_of (words ++ word ∷ [])) (part_of state) (part_of state') m.own (length words) (place-push_other words word) at list (place-end words) (place-push_last words word ∙ is) free change.here change.others

  -- an object that was away becomes local
  module _ (o : ℕ) (word : Pointer) (at : At) (list : List X) (within : o < length words) (was : place_of words o ≡ None) (is : at_of word ≡ Some at) (free : part_of state at ≡ None) (change : ChangesOnly state state' at (Some list)) where
    pub memory-after_bring : IsRegion state' → IsMemory (slice_set words o word) state'
    memory-after_bring region = record {
      region = region;
      own = own-gained (place_of words) (place_of (slice_set words o word)) (part_of state) (part_of state') m.own o (place-set_other words o word) at list was (place-set_same words o word within ∙ is) free change.here change.others;
    }

    pub list-after_bring : ChangesList (list_in record { words = words; state = state }) (list_in record { words = slice_set words o word; state = state' }) o (Some list)
    list-after_bring = lists-gained (place_of words) (place_of (slice_set words o word)) (part_of state) (part_of state') m.own o (place-set_other words o word) at list was (place-set_same words o word within ∙ is) free change.here change.others

  -- the last object is removed
  module _ (rest : List Pointer) (word : Pointer) (at : At) (is : words ≡ rest ++ word ∷ []) (local : at_of word ≡ Some at) (change : ChangesOnly state state' at None) where
    others : (p : ℕ) → p ≢ length rest → place_of rest p ≡ place_of words p
    others p ne = rw is (sym (place-push_other rest word p ne))

    pub place-last : place_of words (length rest) ≡ Some at
    place-last = rw is (place-push_last rest word ∙ local)

    pub memory-after_remove_last : IsRegion state' → IsMemory rest state'
    memory-after_remove_last region = record {
      region = region;
      own = own-lost (place_of words) (place_of rest) (part_of state) (part_of state') m.own (length rest) others at place-last (place-end rest) change.here change.others;
    }

    pub list-after_remove_last : ChangesList (list_in record { words = words; state = state }) (list_in record { words = rest; state = state' }) (length rest) None
    list-after_remove_last = lists-lost (place_of words) (place_of rest) (part_of state) (part_of state') m.own (length rest) others at place-last (place-end rest) change.here change.others

  -- an object's list is replaced: the new part is placed, then the old one dropped
  module _ (o : ℕ) (word : Pointer) (at to : At) (list : List X) (between : RegionState X) (within : o < length words) (was : place_of words o ≡ Some at) (is : at_of word ≡ Some to) (free : part_of state to ≡ None)
      (placed : ChangesOnly state between to (Some list)) (dropped : ChangesOnly between state' at None) where
    disjoint : to ≢ at
    disjoint same = not_some (part_of state to) free (subst (λ q. IsSome (part_of state q)) (sym same) (m.own.placed o at was))

    here : part_of state' to ≡ Some list
    here = dropped.others to disjoint ∙ placed.here

    parts : (q : At) → q ≢ at → q ≢ to → part_of state' q ≡ part_of state q
    parts q ne ne' = dropped.others q ne ∙ placed.others q ne'

    pub memory-replaced : IsRegion state' → IsMemory (slice_set words o word) state'
    memory-replaced region = record {
      region = region;
      own = own-moved (place_of words) (place_of (slice_set words o word)) (part_of state) (part_of state') m.own o (place-set_other words o word) at to list was (place-set_same words o word within ∙ is) free here dropped.here parts;
    }

    pub list-replaced : ChangesList (list_in record { words = words; state = state }) (list_in record { words = slice_set words o word; state = state' }) o (Some list)
    list-replaced = lists-moved (place_of words) (place_of (slice_set words o word)) (part_of state) (part_of state') m.own o (place-set_other words o word) at to list was (place-set_same words o word within ∙ is) free here dropped.here parts

-- a word changes, and its location does not
module _ {X : Type 0} (words : List Pointer) (state : RegionState X) (m : IsMemory words state) (o : ℕ) (old word : Pointer) (was : slice_get words o ≡ Some old) (same : at_of word ≡ at_of old) where
  places-after_mark : (p : ℕ) → place_of (slice_set words o word) p ≡ place_of words p
  places-after_mark p = elim (cases_eq p o) [
    | inl is ↦ subst (λ k. place_of (slice_set words o word) k ≡ place_of words k) (sym is) (place-set_same words o word (slice_get_within words o old was) ∙ same ∙ sym (ap (option_and_then at_of) was))
    | inr ne ↦ place-set_other words o word p ne
  ]

  pub memory-after_mark : IsMemory (slice_set words o word) state
  memory-after_mark = record {
    region = m.region;
    own = own-same (place_of words) (place_of (slice_set words o word)) (part_of state) (part_of state) m.own places-after_mark (λ q h. h) (λ q h. h);
  }

  pub lists-after_mark : (p : ℕ) → list_in record { words = slice_set words o word; state = state } p ≡ list_in record { words = words; state = state } p
  lists-after_mark = lists-same (place_of words) (place_of (slice_set words o word)) (part_of state) (part_of state) m.own places-after_mark (λ q. refl)

-- a mark does not move an object
pub at-dirty_hot : (word : Pointer) → at_of (with_hot (with_dirty word) true) ≡ at_of word
at-dirty_hot (Local at dirty hot far) = refl
at-dirty_hot Remote = refl

-- marking a word that is dirty and hot changes nothing
pub after_mark-is : (word : Pointer) → is_dirty word ≡ true → is_hot word ≡ true → with_hot (with_dirty word) true ≡ word
after_mark-is (Local at true true far) dirty hot = refl
after_mark-is (Local at true false far) dirty hot = cc
after_mark-is (Local at false hot far) dirty hot' = cc
after_mark-is Remote dirty hot = refl

-- marking the object of such a word changes nothing
pub already-marked : {X : Type 0} (memory : Memory X) (o : ℕ) (word : Pointer) → slice_get memory.words o ≡ Some word → with_hot (with_dirty word) true ≡ word → memory ≡ after_mark memory o
already-marked memory o word was same =
    let unchanged : slice_set memory.words o word ≡ memory.words = ap (slice_set memory.words o) (sym (get_or_from_slice_get memory.words o word word was)) ∙ set-get_or memory.words o word in
    let words : option_map_or (λ w. slice_set memory.words o (with_hot (with_dirty w) true)) (slice_get memory.words o) memory.words ≡ memory.words =
    ap (λ w. option_map_or (λ w. slice_set memory.words o (with_hot (with_dirty w) true)) w memory.words) was ∙ ap (slice_set memory.words o) same ∙ unchanged in
    sym (λ j. record { words = words j; state = memory.state })

pub at-hot : (word : Pointer) → at_of (with_hot word true) ≡ at_of word
at-hot (Local at dirty hot far) = refl
at-hot Remote = refl

pub at-moved : (word : Pointer) (from to : At) → at_of word ≡ Some from → at_of (with_at word to) ≡ Some to
at-moved (Local at dirty hot far) from to is = refl
at-moved Remote from to is = cc

-- the new part is at the location for new parts
pub spot-is : {X : Type 0} (old new : RegionState X) (at : At) (list : List X) → IsPlaced old new at list → spot old (length list) ≡ at
spot-is old new at list placed = rw placed.segment (ap (λ (n : ℕ). let q : At = record { segment = at.segment; offset = n } in q) (sym placed.offset))

pub new-is : {X : Type 0} (old new : RegionState X) (at : At) (list : List X) → IsPlaced old new at list → with_new old list ≡ new
new-is old new at list placed = rw placed.segment (sym placed.state)
