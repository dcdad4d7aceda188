-- The objects of a segment, the hot ones first, and the order in which their parts are compacted.
use Rattle.std.proofs.Common.{◌≡◌, ◌≢◌, ℕ, ◌+◌, ◌<◌, inl, inr, Bool, true, false, ◌&&◌, List, [], ◌∷◌, ◌++◌, length, get_or, map, cond, eqb, Some, None, IsSome, refl, sym, ap, subst, ◌∙◌, arith}
use Rattle.std.specs.Prelude.{not, filter, slice_get, Contains, All, AllPairs}
use Rattle.std.specs.Option.{option_and_then}
use Rattle.std.proofs.lemmas.Bool.{eq-eqb, eqb-true}
use Rattle.std.proofs.lemmas.List.Folds.{list_any_at, list_any_none}
use Rattle.std.proofs.lemmas.Option.{get_or_from_slice_get, same_Some, slice_get-get_or, slice_get_within}
use Rattle.std.proofs.lemmas.List.{length-map, get_or-map, map-append}
use Rattle.std.proofs.lemmas.List.Elements.{All-contains, All-append, Contains-append_left, Contains-append_right, Contains-append_cases}
use Rattle.far_pointer.specs.declared.pointer.At.{At}
use Rattle.far_pointer.specs.declared.pointer.Pointer.{Pointer}
use Rattle.far_pointer.specs.declared.pointer.Pointer.TheVariants.{Local, Remote}
use Rattle.far_pointer.specs.Layout.{is_hot}
use Rattle.far_log.specs.RegionState.{Part, RegionState, end_of, IsLayoutFrom, list_at, segment_of, part_of}
use Rattle.far_log.specs.Effects.{IsOrder}
use Rattle.far_scopes.specs.declared.memory.compaction.SegmentObject.{SegmentObject}
use Rattle.far_scopes.specs.Memory.{Memory, at_of, place_of, OwnPlaces}
use Rattle.far_scopes.specs.Compaction.{begins_at, hot_at, offsets_in, hot_first}
use Rattle.far_scopes.specs.SegmentObjects.{offset_if, offset_of, AreSorted, AreHotFirst}
use Rattle.far_scopes.proofs.MemoryPlaces.{cases_option, same_some, none_or_some}
use Rattle.far_scopes.proofs.Sorted.{in-head, in-tail, in-none, in-cases, in-filter, from-filter, in-read, pairs-append, in-map, from-map, Rises, rises-before, rises-filter, rises-sorted, rises-disjoint, same-sorted}
use Rattle.far_scopes.proofs.SegmentObjectsWords.{disjoint-at}

-- a location with this segment and this offset is the record of both
pub at-is : (at : At) (segment offset : ℕ) → at.segment ≡ segment → at.offset ≡ offset → at ≡ record { segment = segment; offset = offset }
at-is at segment offset e f = ap (λ (n : ℕ). let q : At = record { segment = n; offset = at.offset } in q) e ∙ ap (λ (n : ℕ). let q : At = record { segment = segment; offset = n } in q) f

both : {A : Type 0} (b c : Bool) (x y : A) → cond (b && c) (Some x) None ≡ Some y → (b ≡ true) × (c ≡ true) × (x ≡ y)
both true true x y is = (refl, refl, same_Some x y is)
both true false x y is = cc
both false c x y is = cc

heat : (h hot : Bool) → cond h hot (not hot) ≡ true → hot ≡ h
heat true true is = refl
heat true false is = cc
heat false true is = cc
heat false false is = refl

-- the location and the hot bit of a word, if `offset_if` finds its offset
offset-is : (segment : ℕ) (h : Bool) (word : Pointer) (offset : ℕ) → offset_if segment h word ≡ Some offset → (at_of word ≡ Some record { segment = segment; offset = offset }) × (is_hot word ≡ h)
offset-is segment h (Local at dirty hot far) offset is =
    let w = both (eqb at.segment segment) (cond h hot (not hot)) at.offset offset is in
    (ap Some (at-is at segment offset (eqb-true at.segment segment w.0) w.2), heat h hot w.1)
offset-is segment h Remote offset is = cc

own-heat : (hot : Bool) → cond hot hot (not hot) ≡ true
own-heat true = refl
own-heat false = refl

offset-there : (segment : ℕ) (word : Pointer) (at : At) → at_of word ≡ Some at → at.segment ≡ segment → offset_if segment (is_hot word) word ≡ Some at.offset
offset-there segment (Local here dirty hot far) at is within =
    let same : here ≡ at = same_Some here at is in
    rw (eq-eqb here.segment segment (ap (λ q. q.segment) same ∙ within), own-heat hot) (ap (λ q. Some q.offset) same)
offset-there segment Remote at is within = cc

begins-is : (at : At) (word : Pointer) → begins_at at word ≡ true → at_of word ≡ Some at
begins-is at (Local here dirty hot far) is = let w = two (eqb here.segment at.segment) (eqb here.offset at.offset) is in ap Some (at-is here at.segment at.offset (eqb-true here.segment at.segment w.0) (eqb-true here.offset at.offset w.1))
  where
    two : (b c : Bool) → (b && c) ≡ true → (b ≡ true) × (c ≡ true)
    two true true e = (refl, refl)
    two true false e = cc
    two false c e = cc
begins-is at Remote is = cc

begins-there : (at : At) (word : Pointer) → at_of word ≡ Some at → begins_at at word ≡ true
begins-there at (Local here dirty hot far) is =
    let same : here ≡ at = same_Some here at is in
    rw (eq-eqb here.segment at.segment (ap (λ q. q.segment) same), eq-eqb here.offset at.offset (ap (λ q. q.offset) same)) refl
begins-there at Remote is = cc

and-false : (b c : Bool) → (b ≡ true → c ≡ false) → (b && c) ≡ false
and-false true c h = h refl
and-false false c h = refl

some-word : (words : List Pointer) (o : ℕ) (at : At) → place_of words o ≡ Some at → (word : Pointer) × (slice_get words o ≡ Some word) × (at_of word ≡ Some at)
some-word words o at is = elim (cases_option (slice_get words o)) [
  | inl none ↦ absurd (none_or_some (place_of words o) (ap (option_and_then at_of) none) is)
  | inr (word, there) ↦ (word, there, sym (ap (option_and_then at_of) there) ∙ is)
]

true-or-not : (b : Bool) (A : Type 0) → (b ≡ true → A) → (b ≡ false → A) → A
true-or-not true A one other = one refl
true-or-not false A one other = other refl

both-heats : (b : Bool) → b ≡ true → b ≡ false → ⊥
both-heats b one other = cc

not-true : (b : Bool) → not b ≡ true → b ≡ false
not-true true e = cc
not-true false e = refl

module _ {X : Type 0} where
  -- the parts of a segment begin at ascending offsets
  pub rises-layout : (from size : ℕ) (parts : List (Part X)) → IsLayoutFrom from parts size → Rises from (map (λ p. p.offset) parts)
  rises-layout from size [] h = tt
  rises-layout from size (p ∷ ps) h = (h.0, rises-before (p.offset + 1) (end_of p) (map (λ p. p.offset) ps) (omega (arith, h.1)) (rises-layout (end_of p) size ps h.2))

  pub offset-some : (parts : List (Part X)) (offset : ℕ) → Contains (map (λ p. p.offset) parts) offset → IsSome (list_at parts offset)
  offset-some [] offset h = absurd (in-none offset h)
  offset-some (p ∷ ps) offset h = elim (in-cases p.offset offset (map (λ p. p.offset) ps) h) [
    | inl same ↦ rw (eq-eqb p.offset offset (sym same)) refl
    | inr later ↦ let rest = offset-some ps offset later in elim (eqb p.offset offset) as (λ b. IsSome (cond b (Some p.list) (list_at ps offset))) [ true ↦ refl | false ↦ rest ]
  ]

  first-or-rest : (p : Part X) (ps : List (Part X)) (offset : ℕ) (b : Bool) → eqb p.offset offset ≡ b → (IsSome (list_at ps offset) → Contains (map (λ p. p.offset) ps) offset) → IsSome (cond b (Some p.list) (list_at ps offset)) → Contains (map (λ p. p.offset) (p ∷ ps)) offset
  first-or-rest p ps offset true is rest some = subst (λ n. Contains (n ∷ map (λ p. p.offset) ps) offset) (sym (eqb-true p.offset offset is)) (in-head offset (map (λ p. p.offset) ps))
  first-or-rest p ps offset false is rest some = in-tail p.offset offset (map (λ p. p.offset) ps) (rest some)

  pub some-offset : (parts : List (Part X)) (offset : ℕ) → IsSome (list_at parts offset) → Contains (map (λ p. p.offset) parts) offset
  some-offset [] offset some = cc
  some-offset (p ∷ ps) offset some = first-or-rest p ps offset (eqb p.offset offset) refl (some-offset ps offset) some

  module _ (words : List Pointer) (state : RegionState X) (from : ℕ) (layout : IsLayoutFrom 0 (segment_of state from).parts (segment_of state from).size) where
    abbrev here : Memory X
    here = record { words = words; state = state }

    abbrev hot-from : ℕ → Bool
    hot-from offset = hot_at words record { segment = from; offset = offset }

    abbrev cold-from : ℕ → Bool
    cold-from offset = not (hot-from offset)

    abbrev offsets : List ℕ
    offsets = offsets_in state from

    in-order : (offset : ℕ) → Contains offsets offset → Contains (hot_first here from) offset
    in-order offset there = true-or-not (hot-from offset) (Contains (hot_first here from) offset)
        (λ hot. Contains-append_left (filter hot-from offsets) (filter cold-from offsets) offset (in-filter hot-from offsets offset there hot))
        (λ cold. Contains-append_right (filter hot-from offsets) (filter cold-from offsets) offset (in-filter cold-from offsets offset there (ap not cold)))

    -- the order lists each part of the segment once
    pub order-whole : IsOrder (segment_of state from).parts (hot_first here from)
    order-whole =
        let up = rises-layout 0 (segment_of state from).size (segment_of state from).parts layout in
        record {
          listed = All-append (λ offset. IsSome (list_at (segment_of state from).parts offset)) (filter hot-from offsets) (filter cold-from offsets)
              (λ k d lt. offset-some (segment_of state from).parts (get_or (filter hot-from offsets) k d) (from-filter hot-from offsets (get_or (filter hot-from offsets) k d) (in-read (filter hot-from offsets) k d lt)).0)
              (λ k d lt. offset-some (segment_of state from).parts (get_or (filter cold-from offsets) k d) (from-filter cold-from offsets (get_or (filter cold-from offsets) k d) (in-read (filter cold-from offsets) k d lt)).0);
          whole = λ offset some. in-order offset (some-offset (segment_of state from).parts offset some);
          once = pairs-append (λ o p. o ≢ p) (filter hot-from offsets) (filter cold-from offsets) (rises-disjoint 0 (filter hot-from offsets) (rises-filter hot-from 0 offsets up)) (rises-disjoint 0 (filter cold-from offsets) (rises-filter cold-from 0 offsets up))
              (λ o p one other same. let is = (from-filter hot-from offsets o one).1 in let not-is = not-true (hot-from p) (from-filter cold-from offsets p other).1 in
              let also : hot-from o ≡ false = ap hot-from same ∙ not-is in cc);
        }

    -- facts about the objects of the segment
    module _ (own : OwnPlaces (place_of words) (part_of state)) where
      -- the object at a location is hot exactly if its word is hot
      hot-is : (o : ℕ) (word : Pointer) (at : At) → slice_get words o ≡ Some word → at_of word ≡ Some at → hot_at words at ≡ is_hot word
      hot-is o word at there is = true-or-not (is_hot word) (hot_at words at ≡ is_hot word)
          (λ hot. list_any_at (λ w. begins_at at w && is_hot w) words o word (slice_get_within words o word there) (rw (get_or_from_slice_get words o word word there, begins-there at word is) hot) ∙ sym hot)
          (λ cold. list_any_none (λ w. begins_at at w && is_hot w) words (λ k d lt. and-false (begins_at at (get_or words k d)) (is_hot (get_or words k d)) (λ begins.
          let read = slice_get-get_or words k d lt in
          let same : k ≡ o = own.disjoint k o at (ap (option_and_then at_of) read ∙ begins-is at (get_or words k d) begins) (ap (option_and_then at_of) there ∙ is) in
          ap is_hot (same_Some (get_or words k d) word (sym read ∙ ap (slice_get words) same ∙ there)) ∙ cold)) ∙ sym cold)

      -- facts about an object that was found
      found-is : (h : Bool) (o offset : ℕ) → offset_of words from h o ≡ Some offset → (place_of words o ≡ Some record { segment = from; offset = offset }) × (hot-from offset ≡ h)
      found-is h o offset is = elim (cases_option (slice_get words o)) [
        | inl none ↦ absurd (none_or_some (offset_of words from h o) (ap (option_and_then (offset_if from h)) none) is)
        | inr (word, there) ↦
            let w = offset-is from h word offset (sym (ap (option_and_then (offset_if from h)) there) ∙ is) in
            (ap (option_and_then at_of) there ∙ w.0, hot-is o word record { segment = from; offset = offset } there w.0 ∙ w.1)
      ]

      -- an object that is in the segment is found
      is-found : (h : Bool) (o : ℕ) (at : At) → place_of words o ≡ Some at → at.segment ≡ from → hot-from at.offset ≡ h → offset_of words from h o ≡ Some at.offset
      is-found h o at was within heat =
          let w = some-word words o at was in
          let hot : is_hot w.0 ≡ h = sym (hot-is o w.0 record { segment = from; offset = at.offset } w.1 (w.2 ∙ ap Some (at-is at from at.offset within refl))) ∙ heat in
          ap (option_and_then (offset_if from h)) w.1 ∙ subst (λ b. offset_if from b w.0 ≡ Some at.offset) hot (offset-there from w.0 at w.2 within)

      module _ (h : Bool) (objects : List SegmentObject) (are : AreSorted words from h objects) where
        there : (found : SegmentObject) → Contains objects found → (place_of words found.object ≡ Some record { segment = from; offset = found.offset }) × (hot-from found.offset ≡ h)
        there found in-it = found-is h found.object found.offset (All-contains (λ (f : SegmentObject). (f.object < length words) × (offset_of words from h f.object ≡ Some f.offset)) objects found are.all.sound in-it).1

        -- different objects have different offsets
        offsets-disjoint : AllPairs (λ o p. o ≢ p) (map (λ (f : SegmentObject). f.offset) objects)
        offsets-disjoint i j d lt within same =
            let none : SegmentObject = record { object = 0; offset = 0 } in
            let long = length-map objects (λ (f : SegmentObject). f.offset) in
            let second : j < length objects = omega (arith, within, long) in
            let first : i < length objects = omega (arith, lt, second) in
            let offset : (get_or objects i none).offset ≡ (get_or objects j none).offset = sym (get_or-map (λ (f : SegmentObject). f.offset) objects i none d first) ∙ same ∙ get_or-map (λ (f : SegmentObject). f.offset) objects j none d second in
            let one = (there (get_or objects i none) (in-read objects i none first)).0 in
            let two = (there (get_or objects j none) (in-read objects j none second)).0 in
            disjoint-at objects i j none are.all.once (λ e. omega (arith, lt, e)) first second
            (own.disjoint (get_or objects i none).object (get_or objects j none).object record { segment = from; offset = (get_or objects j none).offset } (one ∙ ap (λ (n : ℕ). let at : At = record { segment = from; offset = n } in Some at) offset) two)

        -- the objects' offsets are the offsets in the region that pass
        sorted-is : (passes : ℕ → Bool) → ((offset : ℕ) → passes offset ≡ true → hot-from offset ≡ h) → ((offset : ℕ) → hot-from offset ≡ h → passes offset ≡ true) → map (λ (f : SegmentObject). f.offset) objects ≡ filter passes offsets
        sorted-is passes to back =
            same-sorted 0 (map (λ (f : SegmentObject). f.offset) objects) (filter passes offsets)
            (rises-sorted (map (λ (f : SegmentObject). f.offset) objects) are.sorted offsets-disjoint)
            (rises-filter passes 0 offsets (rises-layout 0 (segment_of state from).size (segment_of state from).parts layout))
            (λ offset in-it.
            let w = from-map (λ (f : SegmentObject). f.offset) objects offset in-it in
            let v = there w.0 w.1 in
            subst (λ n. Contains (filter passes offsets) n) w.2 (in-filter passes offsets w.0.offset (some-offset (segment_of state from).parts w.0.offset (own.placed w.0.object record { segment = from; offset = w.0.offset } v.0)) (back w.0.offset v.1)))
            (λ offset in-it.
            let w = from-filter passes offsets offset in-it in
            let at : At = record { segment = from; offset = offset } in
            let v = own.only at (offset-some (segment_of state from).parts offset w.0) in
            let u = some-word words v.0 at v.1 in
            in-map (λ (f : SegmentObject). f.offset) objects record { object = v.0; offset = offset } (are.all.whole v.0 offset (slice_get_within words v.0 u.0 u.1) (is-found h v.0 at v.1 refl (to offset w.1))))

      module _ (objects : List SegmentObject) (are : AreHotFirst words from objects) where
        -- the objects' offsets are the order of the compaction
        pub order-is : map (λ (f : SegmentObject). f.offset) objects ≡ hot_first here from
        order-is =
            let one = sorted-is true are.hot are.first hot-from (λ offset e. e) (λ offset e. e) in
            let two = sorted-is false are.others are.rest cold-from (λ offset e. not-true (hot-from offset) e) (λ offset e. ap not e) in
            ap (map (λ (f : SegmentObject). f.offset)) are.joined ∙ map-append (λ (f : SegmentObject). f.offset) are.hot are.others ∙ ap (λ l. l ++ map (λ (f : SegmentObject). f.offset) are.others) one ∙ ap (λ l. filter hot-from offsets ++ l) two

        pub objects-there : (found : SegmentObject) → Contains objects found → place_of words found.object ≡ Some record { segment = from; offset = found.offset }
        objects-there found in-it = elim (Contains-append_cases are.hot are.others found (subst (λ l. Contains l found) are.joined in-it)) [
          | inl hot ↦ (there true are.hot are.first found hot).0
          | inr other ↦ (there false are.others are.rest found other).0
        ]

        pub objects-within : All (λ (f : SegmentObject). f.object < length words) objects
        objects-within k d lt =
            let found : SegmentObject = get_or objects k d in
            let u = some-word words found.object record { segment = from; offset = found.offset } (objects-there found (in-read objects k d lt)) in
            slice_get_within words found.object u.0 u.1

        pub objects-whole : (o : ℕ) (at : At) → place_of words o ≡ Some at → at.segment ≡ from → Contains objects record { object = o; offset = at.offset }
        objects-whole o at was within =
            let u = some-word words o at was in
            let below = slice_get_within words o u.0 u.1 in
            rw are.joined (true-or-not (hot-from at.offset) (Contains (are.hot ++ are.others) record { object = o; offset = at.offset })
            (λ hot. Contains-append_left are.hot are.others record { object = o; offset = at.offset } (are.first.all.whole o at.offset below (is-found true o at was within hot)))
            (λ cold. Contains-append_right are.hot are.others record { object = o; offset = at.offset } (are.rest.all.whole o at.offset below (is-found false o at was within cold))))

        pub objects-once : AllPairs (λ o p. o ≢ p) (map (λ (f : SegmentObject). f.object) objects)
        objects-once =
            rw (are.joined, map-append (λ (f : SegmentObject). f.object) are.hot are.others) (pairs-append (λ o p. o ≢ p) (map (λ (f : SegmentObject). f.object) are.hot) (map (λ (f : SegmentObject). f.object) are.others) are.first.all.once are.rest.all.once
            (λ o p one other same.
            let w = from-map (λ (f : SegmentObject). f.object) are.hot o one in
            let v = from-map (λ (f : SegmentObject). f.object) are.others p other in
            let a = there true are.hot are.first w.0 w.1 in
            let b = there false are.others are.rest v.0 v.1 in
            let place : (let at : At = record { segment = from; offset = w.0.offset } in at) ≡ record { segment = from; offset = v.0.offset } = same_some (place_of words v.0.object) (ap (place_of words) (v.2 ∙ sym same ∙ sym w.2) ∙ a.0) b.0 in
            let also : hot-from v.0.offset ≡ true = ap (λ at. hot-from at.offset) (sym place) ∙ a.1 in
            both-heats (hot-from v.0.offset) also b.1))
