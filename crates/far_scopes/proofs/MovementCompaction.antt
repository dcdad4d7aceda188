-- The invariant of all objects after many words change and no list does.
use Rattle.std.proofs.Common.{◌≡◌, ℕ, Bool, true, false, inl, inr, List, length, map, cond, eqb, Some, refl, sym, ap, subst, ◌∙◌}
use Rattle.std.specs.Prelude.{is_some, slice_get, option_map, IfSome}
use Rattle.std.specs.Option.{option_map_or, option_and_then}
use Rattle.std.proofs.lemmas.Option.{slice_get-map}
use Rattle.std.proofs.lemmas.Bool.{false≢true}
use Rattle.std.proofs.lemmas.List.{length-map}
use Rattle.far_pointer.specs.declared.pointer.Pointer.{Pointer}
use Rattle.far_pointer.specs.declared.pointer.Pointer.TheVariants.{Local, Remote}
use Rattle.far_pointer.specs.Layout.{is_dirty}
use Rattle.far_log.specs.RegionState.{Part, segment_of}
use Rattle.far_scopes.specs.Memory.{Memory, at_of, place_of, list_in}
use Rattle.far_scopes.specs.Compaction.{hot_first, offset_after, moved_word, IsCompacted}
use Rattle.far_scopes.specs.Movement.{Movement, has_copy, dirty, list_of, AreClean, AreTracked}
use Rattle.far_scopes.proofs.MemoryPlaces.{cases_option, none_or_some, same_some}

-- a change of words that keeps which objects are local, dirty and have a far copy
pub record Keeps (change : Pointer → Pointer) : Type 0 where
  pub copy : (word : Pointer) → has_copy (change word) ≡ has_copy word
  pub dirt : (word : Pointer) → is_dirty (change word) ≡ is_dirty word
  pub local : (word : Pointer) → is_some (at_of (change word)) ≡ is_some (at_of word)

-- an object that is away after the change was away before it
away-unchanged : (change : Pointer → Pointer) → Keeps change → (word : Pointer) → change word ≡ Remote → word ≡ Remote
away-unchanged change keeps (Local at dirty hot far) is = absurd (false≢true (sym (ap (λ w. is_some (at_of w)) is) ∙ keeps.local (Local at dirty hot far)))
away-unchanged change keeps Remote is = refl

module _ {X K : Type 0} (meaning : List ℕ → List X) (content : K → List ℕ) (m : Movement X K) (memory : Memory X) (change : Pointer → Pointer) (keeps : Keeps change)
    (words : memory.words ≡ map change m.memory.words) (lists : (o : ℕ) → list_in memory o ≡ list_in m.memory o) where
  abbrev pub changed : Movement X K
  changed = record m { memory = memory }

  word-now : (o : ℕ) → slice_get memory.words o ≡ option_map change (slice_get m.memory.words o)
  word-now o = ap (λ l. slice_get l o) words ∙ slice_get-map change m.memory.words o

  word-was : (o : ℕ) (word : Pointer) → slice_get memory.words o ≡ Some word → (old : Pointer) × (slice_get m.memory.words o ≡ Some old) × (word ≡ change old)
  word-was o word now = elim (cases_option (slice_get m.memory.words o)) [
    | inl none ↦ absurd (none_or_some (slice_get memory.words o) (word-now o ∙ ap (option_map change) none) now)
    | inr (old, is) ↦ (old, is, same_some (slice_get memory.words o) now (word-now o ∙ ap (option_map change) is))
  ]

  -- a property of words that the change keeps is kept for each object's word
  of-unchanged : {A : Type 0} (f : Pointer → A) (d : A) → ((word : Pointer) → f (change word) ≡ f word) → (o : ℕ) → option_map_or f (slice_get memory.words o) d ≡ option_map_or f (slice_get m.memory.words o) d
  of-unchanged f d same o = elim (cases_option (slice_get m.memory.words o)) [
    | inl none ↦ ap (λ w. option_map_or f w d) (word-now o ∙ ap (option_map change) none) ∙ sym (ap (λ w. option_map_or f w d) none)
    | inr (old, is) ↦ ap (λ w. option_map_or f w d) (word-now o ∙ ap (option_map change) is) ∙ same old ∙ sym (ap (λ w. option_map_or f w d) is)
  ]

  local-as : (o : ℕ) → is_some (place_of memory.words o) ≡ is_some (place_of m.memory.words o)
  local-as o = elim (cases_option (slice_get m.memory.words o)) [
    | inl none ↦ ap (λ w. is_some (option_and_then at_of w)) (word-now o ∙ ap (option_map change) none) ∙ sym (ap (λ w. is_some (option_and_then at_of w)) none)
    | inr (old, is) ↦ ap (λ w. is_some (option_and_then at_of w)) (word-now o ∙ ap (option_map change) is) ∙ keeps.local old ∙ sym (ap (λ w. is_some (option_and_then at_of w)) is)
  ]

  pub lists-changed : (o : ℕ) → list_of meaning content changed o ≡ list_of meaning content m o
  lists-changed o = rw (lists o) refl

  pub clean-changed : AreClean meaning content m → AreClean meaning content changed
  clean-changed clean = λ o is. lists-changed o ∙ clean o (sym (of-unchanged is_dirty false keeps.dirt o) ∙ is)

  pub tracked-changed : (spelled : List X → List ℕ → Type 0) → AreTracked meaning content spelled m → AreTracked meaning content spelled changed
  tracked-changed spelled tracked = record {
    same_length = tracked.same_length ∙ sym (ap (λ (l : List Pointer). length l) words ∙ length-map m.memory.words change);
    few = tracked.few;
    each = λ o word object_record now was.
        let w = word-was o word now in
        let t = tracked.each o w.0 object_record w.1 was in
        record {
          version = t.version;
          left = t.left;
          some = t.some;
          long = subst (λ l. IfSome l (λ xs. length xs ≡ object_record.len)) (sym (lists o)) t.long;
          away = λ is. t.away (away-unchanged change keeps w.0 (sym w.2 ∙ is));
          copy = ap has_copy w.2 ∙ keeps.copy w.0 ∙ t.copy;
          far = t.far;
        };
    once = tracked.once;
    ordered = λ p. tracked.ordered p ∙ sym (local-as p);
  }

module _ {X : Type 0} (parts : List (Part X)) (order : List ℕ) (from to : ℕ) where
  abbrev here-or-not : Bool → Pointer → Pointer
  here-or-not b (Local at dirty hot far) = cond b (Local record { segment = to; offset = offset_after parts order at.offset } dirty false far) (Local at dirty hot far)
  here-or-not b Remote = Remote

  -- a compaction keeps which objects are local, dirty and have a far copy
  pub keeps-moved : Keeps (moved_word parts order from to)
  keeps-moved = record { copy = copies; dirt = dirts; local = locals }
    where
      copies : (word : Pointer) → has_copy (moved_word parts order from to word) ≡ has_copy word
      copies (Local at dirty hot far) = elim (eqb at.segment from) as (λ b. has_copy (here-or-not b (Local at dirty hot far)) ≡ far) [ true ↦ refl | false ↦ refl ]
      copies Remote = refl

      dirts : (word : Pointer) → is_dirty (moved_word parts order from to word) ≡ is_dirty word
      dirts (Local at dirty hot far) = elim (eqb at.segment from) as (λ b. is_dirty (here-or-not b (Local at dirty hot far)) ≡ dirty) [ true ↦ refl | false ↦ refl ]
      dirts Remote = refl

      locals : (word : Pointer) → is_some (at_of (moved_word parts order from to word)) ≡ is_some (at_of word)
      locals (Local at dirty hot far) = elim (eqb at.segment from) as (λ b. is_some (at_of (here-or-not b (Local at dirty hot far))) ≡ true) [ true ↦ refl | false ↦ refl ]
      locals Remote = refl

module _ {X K : Type 0} (meaning : List ℕ → List X) (content : K → List ℕ) (m : Movement X K) (memory : Memory X) (from : ℕ) (compacted : IsCompacted m.memory memory from) (lists : (o : ℕ) → list_in memory o ≡ list_in m.memory o) where
  abbrev change : Pointer → Pointer
  change = moved_word (segment_of m.memory.state from).parts (hot_first m.memory from) from compacted.to

  keeps : Keeps change
  keeps = keeps-moved (segment_of m.memory.state from).parts (hot_first m.memory from) from compacted.to

  words : memory.words ≡ map change m.memory.words
  words = ap (λ n. n.words) compacted.memory

  pub lists-compacted : (o : ℕ) → list_of meaning content record m { memory = memory } o ≡ list_of meaning content m o
  lists-compacted = lists-changed meaning content m memory change keeps words lists

  pub clean-compacted : AreClean meaning content m → AreClean meaning content record m { memory = memory }
  clean-compacted = clean-changed meaning content m memory change keeps words lists

  pub tracked-compacted : (spelled : List X → List ℕ → Type 0) → AreTracked meaning content spelled m → AreTracked meaning content spelled record m { memory = memory }
  tracked-compacted = tracked-changed meaning content m memory change keeps words lists
