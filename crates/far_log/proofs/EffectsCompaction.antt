-- The region after the parts of one segment were moved to another.
use Rattle.std.proofs.Common.{◌≡◌, ◌≢◌, ℕ, zero, suc, ◌+◌, ◌<◌, ◌≤◌, List, [], ◌∷◌, ◌++◌, length, get_or, map, Some, IsSome, refl, sym, ap, subst, ◌∙◌, inl, inr, arith}
use Rattle.std.specs.Prelude.{slice_set, sum_by, Contains}
use Rattle.far_log.specs.RegionState.{Part, SegmentState, RegionState, segment_of, space_in, fill_from, list_at, IsLayoutFrom, IsRegion}
use Rattle.far_log.specs.Effects.{gathered, compacted, layout_from, list_or_none, IsOrder, IsEmptyOther, Compacts, with_segment}
use Rattle.std.proofs.Common.{get_or-set_same, get_or-set_other, length-set, take, drop}
use Rattle.std.proofs.lemmas.List.{set-get_or, set-set}
use Rattle.std.proofs.lemmas.Bool.{eq-eqb, ne_eqb, cases_eq}
use Rattle.std.proofs.lemmas.List.{take_at}
use Rattle.std.proofs.lemmas.List.Sums.{sum_by-cons}
use Rattle.std.proofs.lemmas.List.Elements.{All-get_or}
use Rattle.far_log.proofs.EffectsGathering.{list-there, lens-le-size, some-list}
use Rattle.far_log.proofs.RegionStateLaws.{region-set, layout-segment, same_length-sizes}
use Rattle.far_log.specs.declared.skip.Skip.{Skip}
use Rattle.far_log.specs.Skipping.{IsSkip, IsSpaced}
use Rattle.far_log.proofs.SkippingLaws.{skip-set, skip-less}

-- lists that are not empty, placed one after another
module _ {X : Type 0} (pick : ℕ → List X) where
  abbrev layout-at : ℕ → List ℕ → List (Part X)
  layout-at from order = layout_from from (map pick order)

  abbrev AllNonEmpty : List ℕ → Type 0
  AllNonEmpty order = (k : ℕ) → k < length order → 0 < length (pick (get_or order k 0))

  begins-at-least : (from : ℕ) (order : List ℕ) (k : ℕ) → k < length order → from ≤ get_or (map (λ p. p.offset) (layout-at from order)) k 0
  begins-at-least from [] k lt = absurd (omega arith)
  begins-at-least from (o ∷ os) zero lt = omega arith
  begins-at-least from (o ∷ os) (suc k) lt = let later = begins-at-least (from + length (pick o)) os k (omega arith) in omega arith

  rest-non_empty : (o : ℕ) (os : List ℕ) → AllNonEmpty (o ∷ os) → AllNonEmpty os
  rest-non_empty o os h = λ k lt. h (suc k) (omega arith)

  layout-picked : (from size : ℕ) (order : List ℕ) → AllNonEmpty order → from + sum_by (λ o. length (pick o)) order ≤ size → IsLayoutFrom from (layout-at from order) size
  layout-picked from size [] h le = omega arith
  layout-picked from size (o ∷ os) h le =
      (omega arith, h zero (omega arith), layout-picked (from + length (pick o)) size os (rest-non_empty o os h) (omega (arith, sum_by-cons (λ n. length (pick n)) o os)))

  picked-at : (from : ℕ) (order : List ℕ) (k : ℕ) → AllNonEmpty order → k < length order → list_at (layout-at from order) (get_or (map (λ p. p.offset) (layout-at from order)) k 0) ≡ Some (pick (get_or order k 0))
  picked-at from [] k h lt = absurd (omega arith)
  picked-at from (o ∷ os) zero h lt = rw (eq-eqb from from refl) refl
  picked-at from (o ∷ os) (suc k) h lt =
      let some = h zero (omega arith) in
      let later = begins-at-least (from + length (pick o)) os k (omega arith) in
      rw (ne_eqb from (get_or (map (λ p. p.offset) (layout-at (from + length (pick o)) os)) k 0) (λ e. omega arith)) (picked-at (from + length (pick o)) os k (rest-non_empty o os h) (omega arith))

-- a part begins at the location of each list
some-offset : {X : Type 0} (ps : List (Part X)) (offset : ℕ) → IsSome (list_at ps offset) → Contains (map (λ p. p.offset) ps) offset
some-offset [] offset some = absurd (cc)
some-offset (p ∷ ps) offset some =
    elim (cases_eq p.offset offset) [
      | inl same ↦ (zero, omega arith, same)
      | inr other ↦
          let later = some-offset ps offset (rw (ne_eqb p.offset offset other) at some) in
          (suc later.0, omega (arith, later.1), later.2)
    ]

module _ {X : Type 0} (old : RegionState X) (from to : ℕ) (order : List ℕ) (region : IsRegion old) (there : from < length old) (target : IsEmptyOther old from to) (listed : IsOrder (segment_of old from).parts order) where
  source : SegmentState X
  source = segment_of old from

  filled : AllNonEmpty (list_or_none (segment_of old from).parts) order
  filled k lt = some-list 0 (segment_of old from).size (segment_of old from).parts (get_or order k 0) (layout-segment old from region there) (All-get_or (λ o. IsSome (list_at (segment_of old from).parts o)) order k 0 lt listed.listed)

  layout-gathered : IsLayoutFrom 0 (gathered (segment_of old from).parts order) (segment_of old to).size
  layout-gathered =
      layout-picked (list_or_none (segment_of old from).parts) 0 (segment_of old to).size order filled
      (omega (arith, lens-le-size (segment_of old from) order (layout-segment old from region there) listed, same_length-sizes old from region there, same_length-sizes old to region target.within))

  abbrev filled_state : RegionState X
  filled_state = with_segment old to (record (segment_of old to) { parts = gathered (segment_of old from).parts order })

  stays : (number : ℕ) → number ≢ to → segment_of filled_state number ≡ segment_of old number
  stays number ne = get_or-set_other old to number _ _ ne

  pub compacted-region : IsRegion (compacted old from to order)
  compacted-region =
      region-set filled_state from (record (segment_of old from) { parts = [] })
      (region-set old to (record (segment_of old to) { parts = gathered (segment_of old from).parts order }) region target.within refl layout-gathered)
      (omega (arith, there, length-set old to (record (segment_of old to) { parts = gathered (segment_of old from).parts order })))
      (ap (λ s. s.size) (sym (stays from (λ e. target.other (sym e)))))
      (omega arith)

  -- the skip, after the emptied segment is recorded
  pub compacted-skip : (known new : Skip) → IsSkip old known → IsSpaced known new from (segment_of old 0).size → IsSkip (compacted old from to order) new
  compacted-skip known new skip spaced =
      let filled_one : SegmentState X = record (segment_of old to) { parts = gathered (segment_of old from).parts order } in
      let empty_one : SegmentState X = record (segment_of old from) { parts = [] } in
      let empty : fill_from 0 (segment_of old to).parts ≡ 0 = ap (fill_from 0) target.empty in
      let space : space_in empty_one ≡ (segment_of old 0).size = omega (arith, same_length-sizes old from region there) in
      skip-set filled_state known (skip-less old known skip to filled_one target.within (omega (arith, empty))) from empty_one new
      (omega (arith, there, length-set old to filled_one))
      (subst (IsSpaced known new from) (sym space) spaced)

  at-target : segment_of (compacted old from to order) to ≡ record (segment_of old to) { parts = gathered (segment_of old from).parts order }
  at-target = get_or-set_other filled_state from to _ _ target.other ∙ get_or-set_same old to _ _ target.within

  at-source : segment_of (compacted old from to order) from ≡ record (segment_of old from) { parts = [] }
  at-source = get_or-set_same filled_state from _ _ (omega (arith, there, length-set old to (record (segment_of old to) { parts = gathered (segment_of old from).parts order })))

  pub compacts : (new : RegionState X) (offsets : List ℕ) → new ≡ compacted old from to order → offsets ≡ map (λ p. p.offset) (gathered (segment_of old from).parts order) → Compacts old new from to order offsets
  compacts new offsets is are = rw (is, are) (record {
    target = target;
    state = refl;
    offsets_are = refl;
    moved = λ k lt.
        let o : ℕ = get_or order k 0 in
        ap (λ s. list_at s.parts (get_or (map (λ p. p.offset) (gathered (segment_of old from).parts order)) k 0)) at-target
        ∙ picked-at (list_or_none (segment_of old from).parts) 0 order k filled lt
        ∙ sym (list-there (segment_of old from).parts o (All-get_or (λ n. IsSome (list_at (segment_of old from).parts n)) order k 0 lt listed.listed));
    only = λ offset some. some-offset (gathered (segment_of old from).parts order) offset (rw at-target at some);
    emptied = ap (λ s. s.parts) at-source;
    others = λ number disjoint other. get_or-set_other filled_state from number _ _ disjoint ∙ stays number other;
  })

-- a slice that is returned to its Vec is the Vec's whole list
pub whole-back : {X : Type 0} (n : ℕ) (old new : List X) → n ≡ length new → take n (new ++ drop (length new) old) ≡ new
whole-back n old new e = take_at new _ n (sym e)

pub length-compacted : {X : Type 0} (old : RegionState X) (from to : ℕ) (order : List ℕ) → length (compacted old from to order) ≡ length old
length-compacted old from to order =
    length-set (with_segment old to (record (segment_of old to) { parts = gathered (segment_of old from).parts order })) from (record (segment_of old from) { parts = [] })
    ∙ length-set old to (record (segment_of old to) { parts = gathered (segment_of old from).parts order })

-- removing the parts of a segment without parts changes nothing
pub emptied-unchanged : {X : Type 0} (state : RegionState X) (to : ℕ) → (segment_of state to).parts ≡ [] → with_segment state to (record (segment_of state to) { parts = [] }) ≡ state
emptied-unchanged {X} state to none =
    let s : SegmentState X = segment_of state to in
    let same : (let r : SegmentState X = record { parts = []; size = s.size } in r) ≡ s = ap (λ ps. let r : SegmentState X = record { parts = ps; size = s.size } in r) (sym none) in
    ap (slice_set state to) same ∙ set-get_or state to record { parts = []; size = 0 }

-- adding parts to an empty segment and removing them again changes nothing
pub emptied-again : {X : Type 0} (state : RegionState X) (to : ℕ) (s : SegmentState X) → to < length state → (segment_of state to).parts ≡ [] → s.size ≡ (segment_of state to).size
    → with_segment (with_segment state to s) to (record (segment_of (with_segment state to s) to) { parts = [] }) ≡ state
emptied-again {X} state to s within none same =
    let size : (segment_of (with_segment state to s) to).size ≡ (segment_of state to).size = ap (λ (r : SegmentState X). r.size) (get_or-set_same state to s record { parts = []; size = 0 } within) ∙ same in
    ap (λ n. slice_set (slice_set state to s) to (let r : SegmentState X = record { parts = []; size = n } in r)) size
    ∙ set-set state to s (record (segment_of state to) { parts = [] }) ∙ emptied-unchanged state to none
