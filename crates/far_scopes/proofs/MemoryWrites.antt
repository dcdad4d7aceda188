-- Writing over the elements of an object moves no part.
use Rattle.std.proofs.Common.{◌≡◌, ℕ, ◌+◌, ◌-◌, ◌<◌, true, false, inl, inr, List, [], ◌∷◌, ◌++◌, length, take, drop, map, nat_eq, cond, Option, Some, None, IsSome, refl, sym}
use Rattle.std.specs.Prelude.{is_some, IsSomeAnd}
use Rattle.std.proofs.lemmas.Bool.{cases_eq}
use Rattle.std.proofs.lemmas.List.{get_or-set_same, get_or-set_other}
use Rattle.far_pointer.specs.declared.pointer.At.{At}
use Rattle.far_pointer.specs.declared.pointer.Pointer.{Pointer}
use Rattle.far_log.specs.RegionState.{Part, RegionState, list_at, segment_of, part_of}
use Rattle.far_log.specs.Effects.{after_write, after_write_at, after_overwrite, WritesPart}
use Rattle.far_log.proofs.RegionStateLayouts.{layout-after_write}
use Rattle.far_log.proofs.RegionStateLaws.{region-set, layout-segment, part-there}
use Rattle.far_scopes.specs.Memory.{place_of, list_in, ChangesList, IsMemory}
use Rattle.far_scopes.specs.Placing.{after_overwrite as after_overwrite_in}
use Rattle.far_scopes.proofs.MemoryPlaces.{own-same, lists-after_write}

some-is : {A B : Type 0} (one : Option A) (other : Option B) → is_some one ≡ is_some other → IsSome one → IsSome other
some-is (Some x) (Some y) same h = refl
some-is (Some x) None same h = cc
some-is None other same h = cc

pub some-within : {A : Type 0} (P : A → Type 0) (o : Option A) → IsSomeAnd o P → IsSome o
some-within P None h = absurd h
some-within P (Some x) h = refl

pub some-and : {A : Type 0} (P Q : A → Type 0) (o : Option A) → ((x : A) → P x → Q x) → IsSomeAnd o P → IsSomeAnd o Q
some-and P Q None f h = absurd h
some-and P Q (Some x) f h = f x h

module _ {X : Type 0} where
  -- a write does not change where a part begins
  begin-unchanged : (from : ℕ) (ws : List X) (ps : List (Part X)) (k : ℕ) → is_some (list_at (map (after_overwrite from ws) ps) k) ≡ is_some (list_at ps k)
  begin-unchanged from ws [] k = refl
  begin-unchanged from ws (p ∷ ps) k = elim (nat_eq p.offset k) as (λ b. is_some (cond b (Some (after_overwrite from ws p).list) (list_at (map (after_overwrite from ws) ps) k)) ≡ is_some (cond b (Some p.list) (list_at ps k))) [
    | true ↦ refl
    | false ↦ begin-unchanged from ws ps k
  ]

  part-unchanged : (state : RegionState X) (at : At) (i : ℕ) (ws : List X) (q : At) → at.segment < length state → is_some (part_of (after_write_at state at i ws) q) ≡ is_some (part_of state q)
  part-unchanged state at i ws q within = elim (cases_eq q.segment at.segment) [
    | inl same ↦ rw (same, get_or-set_same state at.segment (after_write (segment_of state at.segment) (at.offset + i) ws) record { parts = []; size = 0 } within) (begin-unchanged (at.offset + i) ws (segment_of state at.segment).parts q.offset)
    | inr ne ↦ rw (get_or-set_other state at.segment q.segment (after_write (segment_of state at.segment) (at.offset + i) ws) record { parts = []; size = 0 } ne) refl
  ]

  module _ (words : List Pointer) (state : RegionState X) (m : IsMemory words state) (o : ℕ) (at : At) (was : place_of words o ≡ Some at) where
    within : at.segment < length state
    within = part-there state at (m.own.placed o at was)

    pub memory-after_write : (i : ℕ) (ws : List X) → IsMemory words (after_write_at state at i ws)
    memory-after_write i ws = record {
      region = region-set state at.segment (after_write (segment_of state at.segment) (at.offset + i) ws) m.region within refl (layout-after_write (segment_of state at.segment) (at.offset + i) ws (layout-segment state at.segment m.region within));
      own = own-same (place_of words) (place_of words) (part_of state) (part_of (after_write_at state at i ws)) m.own (λ p. refl)
          (λ q. some-is (part_of (after_write_at state at i ws) q) (part_of state q) (part-unchanged state at i ws q within))
          (λ q. some-is (part_of state q) (part_of (after_write_at state at i ws) q) (sym (part-unchanged state at i ws q within)));
    }

    pub after_overwrite-is : (i : ℕ) (ws : List X) → after_overwrite_in record { words = words; state = state } o i ws ≡ record { words = words; state = after_write_at state at i ws }
    after_overwrite-is i ws = rw was refl

    pub list-is : list_in record { words = words; state = state } o ≡ part_of state at
    list-is = rw was refl

    pub list-after_write : (i : ℕ) (ws list : List X) → WritesPart state (after_write_at state at i ws) at list → ChangesList (list_in record { words = words; state = state }) (list_in (after_overwrite_in record { words = words; state = state } o i ws)) o (Some list)
    list-after_write i ws list writes = rw (after_overwrite-is i ws) (lists-after_write (place_of words) (place_of words) (part_of state) (part_of (after_write_at state at i ws)) m.own (λ p. refl) o at list was writes.change.here writes.change.others)

    -- writing over a range of the part's elements
    abbrev WritesRange : ℕ → ℕ → List X → Type 0
    WritesRange from to list = (range : List X) → length range ≡ to - from → WritesPart state (after_write_at state at from range) at (take from list ++ (range ++ drop to list))

    abbrev ChangesRange : ℕ → ℕ → List X → Type 0
    ChangesRange from to list = (range : List X) → length range ≡ to - from →
        ChangesList (list_in record { words = words; state = state }) (list_in (after_overwrite_in record { words = words; state = state } o from range)) o (Some (take from list ++ (range ++ drop to list)))

    pub range-after_write : (from to : ℕ) → IsSomeAnd (part_of state at) (WritesRange from to) → IsSomeAnd (list_in record { words = words; state = state } o) (ChangesRange from to)
    range-after_write from to writes = rw list-is (some-and (WritesRange from to) (ChangesRange from to) (part_of state at) (λ list alone range long. list-after_write from range (take from list ++ (range ++ drop to list)) (alone range long)) writes)
