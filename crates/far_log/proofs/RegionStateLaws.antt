-- What a change of one segment changes in the region.
use Rattle.std.proofs.Common.{◌≡◌, ◌≢◌, ℕ, ◌+◌, ◌-◌, ◌*◌, ◌<◌, ◌≤◌, List, [], ◌∷◌, ◌++◌, length, get_or, take, drop, map, Option, Some, None, IsSome, refl, sym, ap, subst, ◌∙◌, inl, inr, arith, get_or-set_same, get_or-set_other, length-set}
use Rattle.std.specs.Prelude.{All, slice_set, slice_index, nat_le, IsSomeAnd}
use Rattle.std.proofs.lemmas.Bool.{cases_eq, cases_lt, leb-true}
use Rattle.std.proofs.lemmas.List.Quantifiers.{position-Some}
use Rattle.std.proofs.lemmas.List.{append-nil, drop_all, length-map, map-set, get_or-map, get_or_default, get_or_past}
use Rattle.std.proofs.Common.{replicate, zero, suc}
use Rattle.std.proofs.lemmas.List.{length-replicate}
use Rattle.std.proofs.lemmas.List.Elements.{All-head, All-tail, All-set, All-get_or, All-replicate}
use Rattle.std.proofs.lemmas.List.Sums.{sum_by-cons}
use Rattle.std.proofs.Math.Nat.{suc-mul}
use Rattle.far_pointer.specs.declared.pointer.At.{At}
use Rattle.far_log.specs.RegionState.{SegmentState, RegionState, fill_of, space_in, IsLayout, list_at, segment_of, part_of, spaces_of, capacity_of, target_of, IsRegion}
use Rattle.far_log.specs.Effects.{ChangesOnly, WritesPart, with_segment, with_part, with_list, after_write_at, with_list_at}
use Rattle.far_log.proofs.RegionStateLayouts.{ChangesList, space-with_part, layout-with_part, changes-placed, changes-replaced, no-list-at-fill, no-list-behind, after_write-one}

-- a location is its two numbers
same-at : (q at : At) → q.segment ≡ at.segment → q.offset ≡ at.offset → q ≡ at
same-at q at e f =
    let is : (n m : ℕ) → n ≡ at.segment → m ≡ at.offset → (let p : At = record { segment = n; offset = m } in p) ≡ at = λ n m a b. rw (a, b) refl in
    is q.segment q.offset e f

module _ {X : Type 0} (state : RegionState X) where
  -- the parts of the region change as the segment's parts do
  pub changes-segment : (at : At) (s : SegmentState X) (now : Option (List X)) → at.segment < length state → ChangesList (segment_of state at.segment) s at.offset now → ChangesOnly state (with_segment state at.segment s) at now
  changes-segment at s now lt h = record {
    here = ap (λ t. list_at t.parts at.offset) (get_or-set_same state at.segment s _ lt) ∙ h.here;
    others = λ q ne. elim (cases_eq q.segment at.segment) [
      | inl same ↦
          let disjoint : q.offset ≢ at.offset = λ e. ne (same-at q at same e) in
          ap (λ k. list_at (segment_of (with_segment state at.segment s) k).parts q.offset) same
          ∙ ap (λ t. list_at t.parts q.offset) (get_or-set_same state at.segment s _ lt) ∙ h.others q.offset disjoint
          ∙ ap (λ k. list_at (segment_of state k).parts q.offset) (sym same)
      | inr other ↦ ap (λ t. list_at t.parts q.offset) (get_or-set_other state at.segment q.segment s _ other)
    ];
  }

  -- each segment has the capacity of the first
  pub same_length-sizes : (k : ℕ) → IsRegion state → k < length state → (segment_of state k).size ≡ (segment_of state 0).size
  same_length-sizes k h lt = All-get_or (λ s. s.size ≡ (segment_of state 0).size) state k _ lt h.same_length

  -- replacing a segment by one of the same size keeps the first segment's size
  first-size : (number : ℕ) (s : SegmentState X) → number < length state → s.size ≡ (segment_of state number).size → (segment_of (with_segment state number s) 0).size ≡ (segment_of state 0).size
  first-size number s lt same = elim (cases_eq 0 number) [
    | inl first ↦ ap (λ k. (segment_of (with_segment state number s) k).size) first ∙ ap (λ t. t.size) (get_or-set_same state number s _ lt) ∙ same ∙ ap (λ k. (segment_of state k).size) (sym first)
    | inr later ↦ ap (λ t. t.size) (get_or-set_other state number 0 s _ later)
  ]

  pub region-set : (number : ℕ) (s : SegmentState X) → IsRegion state → number < length state → s.size ≡ (segment_of state number).size → IsLayout s → IsRegion (with_segment state number s)
  region-set number s h lt same layout =
      let first = first-size number s lt same in
      record {
        few = omega (arith, h.few, length-set state number s);
        same_length = rw first (All-set (λ t. t.size ≡ (segment_of state 0).size) state number s (same ∙ same_length-sizes number h lt) h.same_length);
        layout = All-set IsLayout state number s layout h.layout;
      }

  -- the segment that a read by number returns
  pub segment-read : (number : ℕ) (s : SegmentState X) → number < length state → s ≡ get_or state number s → s ≡ segment_of state number
  segment-read number s lt e = e ∙ get_or_default state number s _ lt

  pub layout-segment : (number : ℕ) → IsRegion state → number < length state → IsLayout (segment_of state number)
  layout-segment number h lt = All-get_or IsLayout state number _ lt h.layout

  -- a list at a location is in a segment
  pub part-there : (at : At) → IsSome (part_of state at) → at.segment < length state
  part-there at some = elim (cases_lt at.segment (length state)) [
    | inl lt ↦ lt
    | inr le ↦ absurd (let none : part_of state at ≡ None = ap (λ s. list_at s.parts at.offset) (get_or_past state at.segment _ le) in let no : IsSome {T = List X} None = subst IsSome none some in cc)
  ]

  -- the segment that is picked for a list takes it
  pub target-takes : (n i : ℕ) → target_of state n ≡ Some i → (i < length state) × (n ≤ space_in (segment_of state i))
  target-takes n i e =
      let found = position-Some (λ space. nat_le n space) (map space_in state) i 0 e in
      let lt : i < length state = omega (arith, found.0, length-map state space_in) in
      let at : get_or (map space_in state) i 0 ≡ space_in (segment_of state i) = get_or-map space_in state i _ 0 lt in
      (lt, leb-true n (space_in (segment_of state i)) (rw at at found.1))

  -- the space of each segment after a placement
  pub spaces-placed : (i : ℕ) (list : List X) → i < length state → spaces_of (with_segment state i (with_part (segment_of state i) list)) ≡ slice_set (spaces_of state) i (slice_index (spaces_of state) i - length list)
  spaces-placed i list lt =
      let at : get_or (map space_in state) i 0 ≡ space_in (segment_of state i) = get_or-map space_in state i _ 0 lt in
      map-set space_in state i (with_part (segment_of state i) list) ∙ ap (slice_set (map space_in state) i) (space-with_part (segment_of state i) list ∙ ap (λ n. n - length list) (sym at))

  -- a list is placed in the segment that was chosen for it
  pub record Places (at : At) (list : List X) : Type 0 where
    pub within : at.segment < length state
    pub fits : length list ≤ space_in (segment_of state at.segment)
    pub region : IsRegion (with_segment state at.segment (with_part (segment_of state at.segment) list))
    pub free : part_of state at ≡ None
    pub change : ChangesOnly state (with_segment state at.segment (with_part (segment_of state at.segment) list)) at (Some list)

  pub places : (at : At) (list : List X) → IsRegion state → 0 < length list → target_of state (length list) ≡ Some at.segment → at.offset ≡ fill_of (segment_of state at.segment) → Places at list
  places at list h some e fill =
      let takes = target-takes (length list) at.segment e in
      let layout = layout-segment at.segment h takes.0 in
      let s : SegmentState X = segment_of state at.segment in
      record {
        within = takes.0;
        fits = takes.1;
        region = region-set at.segment (with_part s list) h takes.0 refl (layout-with_part s list layout some takes.1);
        free = ap (list_at s.parts) fill ∙ no-list-at-fill 0 s.size s.parts layout;
        change = changes-segment at (with_part s list) (Some list) takes.0 (rw fill (changes-placed s list layout));
      }

  -- a write within a part, for the region
  pub writes-part : (at : At) (i : ℕ) (ws xs : List X) → IsRegion state → part_of state at ≡ Some xs → i + length ws ≤ length xs → WritesPart state (after_write_at state at i ws) at (take i xs ++ (ws ++ drop (i + length ws) xs))
  writes-part at i ws xs h e le =
      let lt = part-there at (rw e refl) in
      let s : SegmentState X = segment_of state at.segment in
      let list : List X = take i xs ++ (ws ++ drop (i + length ws) xs) in
      let one = after_write-one s at.offset i ws xs (layout-segment at.segment h lt) e le in
      let same : after_write_at state at i ws ≡ with_list_at state at list = ap (slice_set state at.segment) one in
      record {
        state = same;
        change = rw same (changes-segment at (with_list s at.offset list) (Some list) lt (changes-replaced s at.offset list (rw e refl)));
      }

  -- the whole of a part is written
  pub writes-whole : (at : At) (ws xs : List X) → IsRegion state → part_of state at ≡ Some xs → length ws ≡ length xs → WritesPart state (after_write_at state at 0 ws) at ws
  writes-whole at ws xs h e long =
      let same : take 0 xs ++ (ws ++ drop (0 + length ws) xs) ≡ ws = ap (λ ys. ws ++ ys) (drop_all (0 + length ws) xs (omega arith)) ∙ append-nil ws in
      rw same at (writes-part at 0 ws xs h e (omega arith))

  -- a range of a part is written
  pub writes-range : (at : At) (from to : ℕ) → IsRegion state → from ≤ to → IsSomeAnd (part_of state at) (λ list. to ≤ length list)
      → IsSomeAnd (part_of state at) (λ list. (left : List X) → length left ≡ to - from → WritesPart state (after_write_at state at from left) at (take from list ++ (left ++ drop to list)))
  writes-range at from to h le some = go (part_of state at) refl some
    where
      go : (o : Option (List X)) → part_of state at ≡ o → IsSomeAnd o (λ list. to ≤ length list) → IsSomeAnd o (λ list. (left : List X) → length left ≡ to - from → WritesPart state (after_write_at state at from left) at (take from list ++ (left ++ drop to list)))
      go None e s = absurd s
      go (Some xs) e s = λ left long.
          let same : from + length left ≡ to = omega arith in
          subst (λ n. WritesPart state (after_write_at state at from left) at (take from xs ++ (left ++ drop n xs))) same (writes-part at from left xs h e (omega arith))

  pub range-there : (at : At) (to : ℕ) → IsSomeAnd (part_of state at) (λ list. to ≤ length list) → at.segment < length state
  range-there at to some = part-there at (go (part_of state at) some)
    where
      go : (o : Option (List X)) → IsSomeAnd o (λ list. to ≤ length list) → IsSome o
      go None s = absurd s
      go (Some xs) s = refl

-- a region without parts
pub region-new : {X : Type 0} (n size : ℕ) → n ≤ 65536 → IsRegion {X = X} (replicate n record { parts = []; size = size })
region-new zero size le = record { few = omega arith; same_length = λ k d lt. absurd (omega arith); layout = λ k d lt. absurd (omega arith) }
region-new {X} (suc n) size le =
    let empty : SegmentState X = record { parts = []; size = size } in
    record {
      few = omega (arith, length-replicate (suc n) empty);
      same_length = All-replicate (λ s. s.size ≡ size) (suc n) empty refl;
      layout = All-replicate IsLayout (suc n) empty (omega arith);
    }

-- the total size of segments of equal size
pub sizes-sum : {X : Type 0} (n : ℕ) (state : RegionState X) → All (λ s. s.size ≡ n) state → capacity_of state ≡ length state * n
sizes-sum n [] h = omega arith
sizes-sum n (s ∷ state) h =
    let first : s.size ≡ n = All-head (λ t. t.size ≡ n) s state h in
    let rest = sizes-sum n state (All-tail (λ t. t.size ≡ n) s state h) in
    sum_by-cons (λ t. t.size) s state ∙ omega (arith, first, rest, suc-mul (length state) n)

-- parts begin within their segment, and each segment has the size of the first
pub below-size : {X : Type 0} (state : RegionState X) (number offset : ℕ) → IsRegion state → IsSome (list_at (segment_of state number).parts offset) → offset < (segment_of state 0).size
below-size state number offset h some =
    let lt = part-there state record { segment = number; offset = offset } some in
    elim (cases_lt offset (segment_of state 0).size) [
      | inl under ↦ under
      | inr over ↦
          let none = no-list-behind 0 (segment_of state number).size (segment_of state number).parts offset (layout-segment state number h lt) (omega (arith, same_length-sizes state number h lt)) in
          absurd (let never = rw none at some in cc)
    ]
