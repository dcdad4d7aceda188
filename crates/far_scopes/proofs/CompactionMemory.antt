-- The local memory after a segment is compacted.
use Rattle.std.proofs.Common.{◌≡◌, ◌≢◌, ℕ, zero, suc, ◌+◌, ◌<◌, ◌≤◌, inl, inr, true, false, List, [], ◌∷◌, length, get_or, map, cond, eqb, Some, IsSome, refl, sym, ap, subst, ◌∙◌, arith}
use Rattle.std.specs.Prelude.{◌↔◌, IsErrOf, slice_get, slice_index, option_map, Contains, All, AllPairs}
use Rattle.std.specs.Option.{option_and_then}
use Rattle.std.proofs.lemmas.Bool.{cases_eq, cases_lt, eq-eqb, ne_eqb}
use Rattle.std.proofs.lemmas.Option.{same_Some, slice_get-map}
use Rattle.std.proofs.lemmas.List.{length-map, get_or-map, get_or_default}
use Rattle.std.proofs.lemmas.List.Elements.{All-get_or}
use Rattle.far_pointer.specs.declared.pointer.At.{At}
use Rattle.far_pointer.specs.declared.pointer.Pointer.{Pointer}
use Rattle.far_pointer.specs.declared.pointer.Pointer.TheVariants.{Local, Remote}
use Rattle.far_pointer.specs.Layout.{with_hot, with_at}
use Rattle.std.specs.declared.result.Result.TheVariants.{Ok}
use Rattle.far_types.specs.declared.refusal.Refusal.{Refusal}
use Rattle.far_log.specs.RegionState.{Part, RegionState, IsLayoutFrom, list_at, segment_of, part_of, IsRegion}
use Rattle.far_log.specs.Effects.{layout_from, list_or_none, gathered, IsOrder, Compacts}
use Rattle.far_log.proofs.EffectsGathering.{some-list}
use Rattle.far_log.proofs.RegionStateLaws.{layout-segment, part-there}
use Rattle.far_scopes.specs.declared.memory.compaction.SegmentObject.{SegmentObject}
use Rattle.far_scopes.specs.Memory.{at_of, place_of, list_in, IsMemory}
use Rattle.far_scopes.specs.Compaction.{hot_first, offset_after, moved_word, IsCompacted}
use Rattle.far_scopes.specs.SegmentObjects.{AreHotFirst, Settles}
use Rattle.far_scopes.proofs.MemoryPlaces.{cases_option, same_some, none_or_some, not_some}
use Rattle.far_scopes.proofs.Sorted.{in-read, Rises, rises-before, rises-disjoint}
use Rattle.far_scopes.proofs.CompactionOrder.{at-is, order-whole, order-is, objects-there, objects-within, objects-whole, objects-once}
use Rattle.far_scopes.proofs.MemoryRelocation.{own-relocated, lists-relocated}

-- a segment exists if the call is not refused because there is no such segment
pub not-missing : {A : Type 0} (x : A) (refusal : Refusal) (count segment : ℕ) → (IsErrOf (Ok x) refusal ↔ (count ≤ segment)) → segment < count
not-missing x refusal count segment h = elim (cases_lt segment count) [
  | inl there ↦ there
  | inr past ↦ absurd (let e = h.1 past in cc)
]

-- lists with the same elements are equal
pub same-slices : {A : Type 0} (xs ys : List A) → ((p : ℕ) → slice_get xs p ≡ slice_get ys p) → xs ≡ ys
same-slices [] [] h = refl
same-slices [] (y ∷ ys) h = absurd (let e = h zero in cc)
same-slices (x ∷ xs) [] h = absurd (let e = h zero in cc)
same-slices (x ∷ xs) (y ∷ ys) h = rw (same_Some x y (h zero), same-slices xs ys (λ p. h (suc p))) refl

-- in a list of numbers that all differ, each number has one index
same-index : (xs : List ℕ) (i j : ℕ) → AllPairs (λ o p. o ≢ p) xs → i < length xs → j < length xs → get_or xs i 0 ≡ get_or xs j 0 → i ≡ j
same-index xs i j disjoint first second same = elim (cases_lt i j) [
  | inl less ↦ absurd (disjoint i j 0 less second same)
  | inr le ↦ elim (cases_lt j i) [
    | inl more ↦ absurd (disjoint j i 0 more first (sym same))
    | inr ge ↦ omega (arith, le, ge)
  ]
]

module _ {X : Type 0} where
  -- the k-th part of an order begins after the parts before it
  after-is : (parts : List (Part X)) (from : ℕ) (order : List ℕ) (k : ℕ) → AllPairs (λ o p. o ≢ p) order → k < length order
      → from + offset_after parts order (get_or order k 0) ≡ get_or (map (λ p. p.offset) (layout_from from (map (list_or_none parts) order))) k 0
  after-is parts from [] k once lt = absurd (omega (arith, lt))
  after-is parts from (o ∷ order) zero once lt = rw (eq-eqb o o refl) (omega arith)
  after-is parts from (o ∷ order) (suc k) once lt =
      rw (ne_eqb o (get_or order k 0) (λ e. once zero (suc k) 0 (omega arith) lt e))
      (omega (arith, after-is parts (from + length (list_or_none parts o)) order k (λ i j d less within. once (suc i) (suc j) d (omega (arith, less)) (omega (arith, within))) (omega (arith, lt))))

  after-at : (parts : List (Part X)) (order : List ℕ) (k : ℕ) → AllPairs (λ o p. o ≢ p) order → k < length order → offset_after parts order (get_or order k 0) ≡ get_or (map (λ p. p.offset) (gathered parts order)) k 0
  after-at parts order k once lt = omega (arith, after-is parts 0 order k once lt)

  -- lists that are not empty begin at ascending offsets
  rises-picked : (pick : ℕ → List X) (from : ℕ) (order : List ℕ) → ((k : ℕ) → k < length order → 0 < length (pick (get_or order k 0))) → Rises from (map (λ p. p.offset) (layout_from from (map pick order)))
  rises-picked pick from [] h = tt
  rises-picked pick from (o ∷ order) h =
      (omega arith, rises-before (from + 1) (from + length (pick o)) (map (λ p. p.offset) (layout_from (from + length (pick o)) (map pick order))) (omega (arith, h zero (omega arith))) (rises-picked pick (from + length (pick o)) order (λ k lt. h (suc k) (omega (arith, lt)))))

  module _ (parts : List (Part X)) (order : List ℕ) (from to : ℕ) where
    -- the new location of a list
    abbrev pub moved_to : At → At
    moved_to at = cond (eqb at.segment from) record { segment = to; offset = offset_after parts order at.offset } at

    moved-here : (at : At) → at.segment ≡ from → moved_to at ≡ record { segment = to; offset = offset_after parts order at.offset }
    moved-here at same = rw (eq-eqb at.segment from same) refl

    moved-else : (at : At) → at.segment ≢ from → moved_to at ≡ at
    moved-else at ne = rw (ne_eqb at.segment from ne) refl

    at-moved : (word : Pointer) → at_of (moved_word parts order from to word) ≡ option_map moved_to (at_of word)
    at-moved (Local at dirty hot far) = elim (eqb at.segment from) as (λ b. at_of (cond b (Local record { segment = to; offset = offset_after parts order at.offset } dirty false far) (Local at dirty hot far)) ≡ Some (cond b record { segment = to; offset = offset_after parts order at.offset } at)) [ true ↦ refl | false ↦ refl ]
    at-moved Remote = refl

    pub places-moved : (words : List Pointer) (o : ℕ) → place_of (map (moved_word parts order from to) words) o ≡ option_map moved_to (place_of words o)
    places-moved words o = elim (cases_option (slice_get words o)) [
      | inl none ↦ ap (option_and_then at_of) (slice_get-map (moved_word parts order from to) words o ∙ ap (option_map (moved_word parts order from to)) none) ∙ sym (ap (λ w. option_map moved_to (option_and_then at_of w)) none)
      | inr (word, is) ↦ ap (option_and_then at_of) (slice_get-map (moved_word parts order from to) words o ∙ ap (option_map (moved_word parts order from to)) is) ∙ at-moved word ∙ sym (ap (λ w. option_map moved_to (option_and_then at_of w)) is)
    ]

    -- a word of another segment is unchanged; a word of this segment has its new location, and is not hot
    word-else : (word : Pointer) → ((at : At) → at_of word ≡ Some at → at.segment ≢ from) → moved_word parts order from to word ≡ word
    word-else (Local at dirty hot far) h = rw (ne_eqb at.segment from (h at refl)) refl
    word-else Remote h = refl

    word-here : (word : Pointer) (at : At) → at_of word ≡ Some at → at.segment ≡ from → moved_word parts order from to word ≡ with_hot (with_at word record { segment = to; offset = offset_after parts order at.offset }) false
    word-here (Local here dirty hot far) at is within =
        let same : here ≡ at = same_Some here at is in
        rw (eq-eqb here.segment from (ap (λ q. q.segment) same ∙ within)) (ap (λ q. Local record { segment = to; offset = offset_after parts order q.offset } dirty false far) same)
    word-here Remote at is within = cc

    -- the updated words are the words after the compaction
    module _ (old new : List Pointer) (objects : List SegmentObject) (offsets : List ℕ) (settled : Settles old new objects to offsets (length objects))
        (listed : map (λ (f : SegmentObject). f.offset) objects ≡ order) (once : AllPairs (λ o p. o ≢ p) order) (offsets-are : offsets ≡ map (λ p. p.offset) (gathered parts order))
        (there : (found : SegmentObject) → Contains objects found → place_of old found.object ≡ Some record { segment = from; offset = found.offset })
        (whole : (o : ℕ) (at : At) → place_of old o ≡ Some at → at.segment ≡ from → Contains objects record { object = o; offset = at.offset }) where
      untouched : (o : ℕ) → ((at : At) → place_of old o ≡ Some at → at.segment ≢ from) → slice_get new o ≡ slice_get old o
      untouched o h = settled.others o (λ k d lt same. h record { segment = from; offset = (get_or objects k d).offset } (subst (λ n. place_of old n ≡ Some record { segment = from; offset = (get_or objects k d).offset }) same (there (get_or objects k d) (in-read objects k d lt))) refl)

      settled-at : (o offset k : ℕ) → k < length objects → get_or objects k record { object = o; offset = offset } ≡ record { object = o; offset = offset }
          → slice_get new o ≡ option_map (λ word. with_hot (with_at word record { segment = to; offset = offset_after parts order offset }) false) (slice_get old o)
      settled-at o offset k lt is =
          let found : SegmentObject = record { object = o; offset = offset } in
          let within : k < length order = omega (arith, lt, length-map objects (λ (f : SegmentObject). f.offset), ap (λ (l : List ℕ). length l) listed) in
          let nth : get_or order k 0 ≡ offset = ap (λ l. get_or l k 0) (sym listed) ∙ get_or-map (λ (f : SegmentObject). f.offset) objects k found 0 lt ∙ ap (λ f. f.offset) is in
          let to-is : slice_index offsets k ≡ offset_after parts order offset = ap (λ l. get_or l k 0) offsets-are ∙ sym (after-at parts order k once within) ∙ ap (offset_after parts order) nth in
          let now = settled.here k found lt in
          ap (slice_get new) (sym (ap (λ f. f.object) is)) ∙ now ∙ ap (λ n. option_map (λ word. with_hot (with_at word record { segment = to; offset = n }) false) (slice_get old (get_or objects k found).object)) to-is
          ∙ ap (λ n. option_map (λ word. with_hot (with_at word record { segment = to; offset = offset_after parts order offset }) false) (slice_get old n)) (ap (λ f. f.object) is)

      one-word : (o : ℕ) → slice_get new o ≡ option_map (moved_word parts order from to) (slice_get old o)
      one-word o = elim (cases_option (slice_get old o)) [
        | inl none ↦ untouched o (λ at was. absurd (none_or_some (place_of old o) (ap (option_and_then at_of) none) was)) ∙ none ∙ sym (ap (option_map (moved_word parts order from to)) none)
        | inr (word, is) ↦ elim (cases_option (at_of word)) [
          | inl away ↦
              untouched o (λ at was. absurd (none_or_some (place_of old o) (ap (option_and_then at_of) is ∙ away) was)) ∙ is
              ∙ ap Some (sym (word-else word (λ at was. absurd (none_or_some (at_of word) away was)))) ∙ sym (ap (option_map (moved_word parts order from to)) is)
          | inr (at, lies) ↦ elim (cases_eq at.segment from) [
            | inl here ↦
                let k = whole o at (ap (option_and_then at_of) is ∙ lies) here in
                settled-at o at.offset k.0 k.1 k.2 ∙ ap (option_map (λ w. with_hot (with_at w record { segment = to; offset = offset_after parts order at.offset }) false)) is ∙ ap Some (sym (word-here word at lies here)) ∙ sym (ap (option_map (moved_word parts order from to)) is)
            | inr else ↦
                untouched o (λ q was same. else (ap (λ r. r.segment) (same_some (place_of old o) (ap (option_and_then at_of) is ∙ lies) was) ∙ same)) ∙ is
                ∙ ap Some (sym (word-else word (λ q was same. else (ap (λ r. r.segment) (same_some (at_of word) lies was) ∙ same)))) ∙ sym (ap (option_map (moved_word parts order from to)) is)
          ]
        ]
      ]

      pub words-settled : new ≡ map (moved_word parts order from to) old
      words-settled = same-slices new (map (moved_word parts order from to) old) (λ o. one-word o ∙ sym (slice_get-map (moved_word parts order from to) old o))

-- each list is at the location in its object's word
module _ {X : Type 0} (words : List Pointer) (state state' : RegionState X) (m : IsMemory words state) (from to : ℕ) (order offsets : List ℕ)
    (compacts : Compacts state state' from to order offsets) (listed : IsOrder (segment_of state from).parts order) (sound : IsRegion state') where
  abbrev source : List (Part X)
  source = (segment_of state from).parts

  abbrev moved : At → At
  moved = moved_to source order from to

  -- the order has each part of the segment
  part-listed : (at : At) → at.segment ≡ from → IsSome (part_of state at) → (k : ℕ) × (k < length order) × (get_or order k 0 ≡ at.offset)
  part-listed at here some =
      let w = listed.whole at.offset (subst (λ n. IsSome (list_at (segment_of state n).parts at.offset)) here some) in
      (w.0, w.1, get_or_default order w.0 0 at.offset w.1 ∙ w.2)

  -- part k of the order has the k-th new offset
  offset-at : (k : ℕ) → k < length order → offset_after source order (get_or order k 0) ≡ get_or offsets k 0
  offset-at k lt = after-at source order k listed.once lt ∙ ap (λ l. get_or l k 0) (sym compacts.offsets_are)

  length-layout : (start : ℕ) (xss : List (List X)) → length (layout_from start xss) ≡ length xss
  length-layout start [] = refl
  length-layout start (xs ∷ xss) = ap suc (length-layout (start + length xs) xss)

  pub offsets-long : length offsets ≡ length order
  offsets-long = ap (λ (l : List ℕ). length l) compacts.offsets_are ∙ length-map (gathered source order) (λ p. p.offset) ∙ length-layout 0 (map (list_or_none source) order) ∙ length-map order (list_or_none source)

  -- no part is in segment `to`, which was empty
  not-target : (at : At) → IsSome (part_of state at) → at.segment ≢ to
  not-target at some same = not_some (part_of state at) (ap (λ n. list_at (segment_of state n).parts at.offset) same ∙ ap (λ ps. list_at ps at.offset) compacts.target.empty) some

  unchanged : (at : At) → IsSome (part_of state at) → part_of state' (moved at) ≡ part_of state at
  unchanged at some = elim (cases_eq at.segment from) [
    | inl here ↦
        let w = part-listed at here some in
        ap (part_of state') (moved-here source order from to at here)
        ∙ ap (list_at (segment_of state' to).parts) (ap (offset_after source order) (sym w.2) ∙ offset-at w.0 w.1)
        ∙ compacts.moved w.0 w.1
        ∙ ap (list_at source) w.2 ∙ ap (λ n. list_at (segment_of state n).parts at.offset) (sym here)
    | inr else ↦ ap (part_of state') (moved-else source order from to at else) ∙ ap (λ s. list_at s.parts at.offset) (compacts.others at.segment else (not-target at some))
  ]

  -- the new offsets all differ
  offsets-disjoint : from < length state → AllPairs (λ o p. o ≢ p) offsets
  offsets-disjoint there =
      rw compacts.offsets_are (rises-disjoint 0 (map (λ p. p.offset) (gathered source order)) (rises-picked (list_or_none source) 0 order
      (λ k lt. some-list 0 (segment_of state from).size source (get_or order k 0) (layout-segment state from m.region there) (All-get_or (λ offset. IsSome (list_at source offset)) order k 0 lt listed.listed))))

  once : (q r : At) → IsSome (part_of state q) → IsSome (part_of state r) → moved q ≡ moved r → q ≡ r
  once q r one other same = elim (cases_eq q.segment from) [
    | inl here ↦ elim (cases_eq r.segment from) [
      | inl also ↦
          let w = part-listed q here one in
          let v = part-listed r also other in
          let offset : get_or offsets w.0 0 ≡ get_or offsets v.0 0 = sym (offset-at w.0 w.1) ∙ ap (offset_after source order) w.2 ∙ ap (λ at. at.offset) (sym (moved-here source order from to q here) ∙ same ∙ moved-here source order from to r also) ∙ ap (offset_after source order) (sym v.2) ∙ offset-at v.0 v.1 in
          let index : w.0 ≡ v.0 = same-index offsets w.0 v.0 (offsets-disjoint (subst (λ n. n < length state) here (part-there state q one))) (omega (arith, w.1, offsets-long)) (omega (arith, v.1, offsets-long)) offset in
          at-is q r.segment r.offset (here ∙ sym also) (sym w.2 ∙ ap (λ k. get_or order k 0) index ∙ v.2)
      | inr else ↦ absurd (not-target r other (ap (λ at. at.segment) (sym (moved-else source order from to r else) ∙ sym same ∙ moved-here source order from to q here)))
    ]
    | inr else ↦ elim (cases_eq r.segment from) [
      | inl also ↦ absurd (not-target q one (ap (λ at. at.segment) (sym (moved-else source order from to q else) ∙ same ∙ moved-here source order from to r also)))
      | inr too ↦ sym (moved-else source order from to q else) ∙ same ∙ moved-else source order from to r too
    ]
  ]

  came : (r : At) → IsSome (part_of state' r) → (q : At) × IsSome (part_of state q) × (moved q ≡ r)
  came r some = elim (cases_eq r.segment from) [
    | inl here ↦ absurd (not_some (part_of state' r) (ap (λ n. list_at (segment_of state' n).parts r.offset) here ∙ ap (λ ps. list_at ps r.offset) compacts.emptied) some)
    | inr ne ↦ elim (cases_eq r.segment to) [
      | inl target ↦
          let w = compacts.only r.offset (subst (λ n. IsSome (list_at (segment_of state' n).parts r.offset)) target some) in
          let within : w.0 < length order = omega (arith, w.1, offsets-long) in
          let at : At = record { segment = from; offset = get_or order w.0 0 } in (
            at,
            All-get_or (λ offset. IsSome (list_at source offset)) order w.0 0 within listed.listed,
            moved-here source order from to at refl ∙ sym (at-is r to (offset_after source order (get_or order w.0 0)) target (sym (offset-at w.0 within ∙ get_or_default offsets w.0 0 r.offset w.1 ∙ w.2))),
          )
      | inr else ↦ (r, subst IsSome (ap (λ s. list_at s.parts r.offset) (compacts.others r.segment ne else)) some, moved-else source order from to r ne)
    ]
  ]

  pub memory-compacted : IsMemory (map (moved_word source order from to) words) state'
  memory-compacted = record {
    region = sound;
    own = own-relocated (place_of words) (place_of (map (moved_word source order from to) words)) (part_of state) (part_of state') m.own moved (places-moved source order from to words) once unchanged came;
  }

  pub lists-compacted : (o : ℕ) → list_in record { words = map (moved_word source order from to) words; state = state' } o ≡ list_in record { words = words; state = state } o
  lists-compacted = lists-relocated (place_of words) (place_of (map (moved_word source order from to) words)) (part_of state) (part_of state') m.own moved (places-moved source order from to words) once unchanged came

-- the result of a compaction
pub record Done {X : Type 0} (words new : List Pointer) (state state' : RegionState X) (from : ℕ) : Type 0 where
  pub compacted : IsCompacted record { words = words; state = state } record { words = new; state = state' } from
  pub memory : IsMemory new state'
  pub lists : (o : ℕ) → list_in record { words = new; state = state' } o ≡ list_in record { words = words; state = state } o

-- a compaction of a segment, step by step
module _ {X : Type 0} (words : List Pointer) (state : RegionState X) (m : IsMemory words state) (from : ℕ) (within : from < length state) (objects : List SegmentObject) (are : AreHotFirst words from objects) where
  abbrev parts : List (Part X)
  parts = (segment_of state from).parts

  abbrev order : List ℕ
  order = map (λ (f : SegmentObject). f.offset) objects

  layout : IsLayoutFrom 0 parts (segment_of state from).size
  layout = layout-segment state from m.region within

  in-order : order ≡ hot_first record { words = words; state = state } from
  in-order = order-is words state from layout m.own objects are

  -- the arguments for the region
  pub order-listed : IsOrder parts order
  order-listed = rw in-order (order-whole words state from layout)

  -- the arguments for the words
  pub within-words : All (λ (f : SegmentObject). f.object < length words) objects
  within-words = objects-within words state from layout m.own objects are

  pub once-each : AllPairs (λ o p. o ≢ p) (map (λ (f : SegmentObject). f.object) objects)
  once-each = objects-once words state from layout m.own objects are

  module _ (state' : RegionState X) (to : ℕ) (offsets : List ℕ) (compacts : Compacts state state' from to order offsets) (sound : IsRegion state') where
    pub long-enough : length offsets ≡ length objects
    long-enough = offsets-long words state state' m from to order offsets compacts order-listed sound ∙ length-map objects (λ (f : SegmentObject). f.offset)

    module _ (new : List Pointer) (settled : Settles words new objects to offsets (length objects)) where
      settled-words : new ≡ map (moved_word parts order from to) words
      settled-words = words-settled parts order from to words new objects offsets settled refl order-listed.once compacts.offsets_are (objects-there words state from layout m.own objects are) (objects-whole words state from layout m.own objects are)

      pub compacted-done : Done words new state state' from
      compacted-done = record {
        compacted = record { to = to; target = compacts.target; memory = rw (settled-words, compacts.state, in-order) refl };
        memory = rw settled-words (memory-compacted words state state' m from to order offsets compacts order-listed sound);
        lists = rw settled-words (lists-compacted words state state' m from to order offsets compacts order-listed sound);
      }
