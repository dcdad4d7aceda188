-- The list of a local object is no longer than a segment.
use Rattle.std.proofs.Common.{◌≡◌, ◌==◌, ℕ, ◌≤◌, List, [], ◌∷◌, length, Option, Some, None, subst, arith, inl, inr}
use Rattle.std.specs.Option.{option_and_then}
use Rattle.std.proofs.lemmas.Bool.{cases_Bool}
use Rattle.far_pointer.specs.declared.pointer.At.{At}
use Rattle.far_log.specs.RegionState.{Part, RegionState, end_of, IsLayoutFrom, list_at, segment_of, part_of, IsRegion}
use Rattle.far_log.proofs.RegionStateLayouts.{from-le-fill, fill-le-size}
use Rattle.far_log.proofs.RegionStateLaws.{layout-segment, part-there, same_length-sizes}
use Rattle.far_scopes.specs.Memory.{Memory, place_of, list_in}
use Rattle.far_scopes.proofs.MemoryPlaces.{is_some}

same-list : {X : Type 0} {xs ys : List X} → Some xs ≡ Some ys → xs ≡ ys
same-list e = cc

module _ {X : Type 0} where
  -- a part of a layout is no longer than its segment
  part-short : (from size : ℕ) (ps : List (Part X)) (offset : ℕ) (list : List X) → IsLayoutFrom from ps size → list_at ps offset ≡ Some list → length list ≤ size
  part-short from size [] offset list layout is = cc
  part-short from size (p ∷ ps) offset list layout is = elim (cases_Bool (p.offset == offset)) [
    | inl here ↦
        let same : p.list ≡ list = same-list (rw here at is) in
        let low = from-le-fill (end_of p) size ps layout.2 in
        let high = fill-le-size (end_of p) size ps layout.2 in
        subst (λ (xs : List X). length xs ≤ size) same (omega (arith, low, high))
    | inr other ↦ part-short (end_of p) size ps offset list layout.2 (rw other at is)
  ]

  list-short : (state : RegionState X) (at : At) (list : List X) → IsRegion state → part_of state at ≡ Some list → length list ≤ (segment_of state 0).size
  list-short state at list region is =
      let there = part-there state at (is_some (part_of state at) is) in
      subst (λ (n : ℕ). length list ≤ n) (same_length-sizes state at.segment region there)
      (part-short 0 (segment_of state at.segment).size (segment_of state at.segment).parts at.offset list (layout-segment state at.segment region there) is)

  placed-short : (state : RegionState X) (at : Option At) (list : List X) → IsRegion state → option_and_then (part_of state) at ≡ Some list → length list ≤ (segment_of state 0).size
  placed-short state None list region is = cc
  placed-short state (Some at) list region is = list-short state at list region is

  -- the list of a local object is no longer than the first segment
  pub lists-short : (memory : Memory X) (o : ℕ) (list : List X) → IsRegion memory.state → list_in memory o ≡ Some list → length list ≤ (segment_of memory.state 0).size
  lists-short memory o list region is = placed-short memory.state (place_of memory.words o) list region is
