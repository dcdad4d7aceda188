-- Runs of row groups that are folded into one partial each: their places and their results.
use Rattle.std.proofs.Common.{◌≡◌, inl, inr, ℕ, ◌+◌, ◌-◌, ◌*◌, ◌/◌, ◌<◌, ◌≤◌, ◌^◌, List, [], ◌++◌, length, take, drop, max, sym, ap, subst, ◌∙◌, arith, slice_index_or}
use Rattle.std.proofs.Math.Nat.{mul_assoc, mul_comm, mul-le-mul_right, div-lt_iff_lt-mul, lt-div-mul-add, div-mul-le_self}
use Rattle.std.proofs.Math.Seq.{take-add}
use Rattle.std.proofs.lemmas.Bool.{cases_lt}
use Rattle.std.proofs.lemmas.List.{take_all, drop_all, length-take, length-drop, drop-drop}
use Rattle.std.proofs.lemmas.List.Elements.{filter_map-append}
use Rattle.far_types.specs.declared.spec.Spec.{Spec}
use Rattle.far_types.specs.Answers.{Totals, totals, extrema}
use Rattle.far_types.specs.Effects.{joined_totals, joined_extrema}
use Rattle.far_types.specs.Table.{Place, groups, in_group, place_pair}
use Rattle.far_types.proofs.EffectsLaws.{totals-append, extrema-append}
use Rattle.far_groups.specs.Live.{TotalsState, CanJoin}
use Rattle.far_groups.proofs.LivePairs.{can_join}
use Rattle.far_offload.specs.declared.partial.PartialDone.{PartialDone}
use Rattle.far_offload.specs.Partials.{partial_of}
use Rattle.far_aggregates.specs.Accumulators.{pairs_here, group_pairs}
use Rattle.far_aggregates.specs.Recounting.{partial_at, partials_from}
use Rattle.far_aggregates.proofs.PairsLaws.{pairs-few}
use Rattle.far_table.specs.declared.piece.Piece.{Piece}
use Rattle.far_table.specs.declared.recounting.WideCut.{WideCut}
use Rattle.far_table.specs.Pieces.{begin_of, run_of, AreBegun, IsWideCut, IsPiece, AreFolded, all_partials, AreWhole, HaveFewFaults}
use Rattle.far_table.proofs.PiecesLaws.{AreFrom, all-from, few-faults}
use Rattle.far_table.proofs.WatchingScans.{begun}

-- ---- sums and products

next-times : (n s : ℕ) → (n + 1) * s ≡ n * s + s
next-times n s = omega arith

both-times : (a b s : ℕ) → (a + b) * s ≡ a * s + b * s
both-times a b s = omega arith

no-times : (s : ℕ) → 0 * s ≡ 0
no-times s = omega arith

chain : (l c f a w : ℕ) → l ≤ c → c ≤ f → f ≡ a + w → l ≤ a + w
chain l c f a w h k e = omega (arith, h, k, e)

at-most : (l c f : ℕ) → l ≤ c → c ≤ f → l ≤ f
at-most l c f h k = omega (arith, h, k)

rounded-up : (len size q p : ℕ) → 0 < size → len + size - 1 < q + size → p ≡ q → len ≤ p
rounded-up len size q p some up same = omega (arith, some, up, same)

rounded-down : (len size q p : ℕ) → q ≤ len + size - 1 → p ≡ q → p ≤ len + size - 1
rounded-down len size q p low same = omega (arith, low, same)

below-next : (len wide p : ℕ) → 0 < wide → len ≤ p → len + wide - 1 < p + wide
below-next len wide p some h = omega (arith, some, h)

few-times : (len wide pieces : ℕ) → 0 < wide → len ≤ pieces * wide → (len + wide - 1) / wide ≤ pieces
few-times len wide pieces some h =
    let below : len + wide - 1 < (pieces + 1) * wide = subst (λ n. len + wide - 1 < n) (sym (next-times pieces wide)) (below-next len wide (pieces * wide) some h) in
    let less = (div-lt_iff_lt-mul {k = wide} {x = len + wide - 1} {y = pieces + 1} some).1 below in
    omega (arith, less)

-- a piece has at most as many row groups as the table
pub ceil-short : (count workers ceil : ℕ) → 0 < workers → ceil * workers < count + workers → ceil ≤ count
ceil-short count workers ceil some last =
    elim (cases_lt count ceil) [
      | inl more ↦
          let up : (count + 1) * workers ≤ ceil * workers = mul-le-mul_right workers (omega (arith, more)) in
          let one : 1 * count ≤ workers * count = mul-le-mul_right count (omega (arith, some)) in
          absurd (omega (arith, up, next-times count workers, one, mul_comm workers count, last))
      | inr within ↦ within
    ]

abbrev pub live_of : ℕ → Totals → TotalsState
live_of left totals = record { left = left; totals = totals }

-- ---- the places of a run

module _ (places : List Place) where
  same-part : (n m a b : ℕ) → n ≡ m → a ≡ b → take n (drop a places) ≡ take m (drop b places)
  same-part n m a b first start = ap (λ k. take k (drop a places)) first ∙ ap (λ k. take m (drop k places)) start

  -- a range that reaches past the end has all places up to the end
  to-the-end : (n m a : ℕ) → length places ≤ a + n → length places ≤ a + m → take n (drop a places) ≡ take m (drop a places)
  to-the-end n m a one other =
      let rest = length-drop a places in
      take_all n (drop a places) (omega (arith, rest)) ∙ sym (take_all m (drop a places) (omega (arith, rest)))

  past-the-end : (n m a b : ℕ) → length places ≤ a → length places ≤ b → take n (drop a places) ≡ take m (drop b places)
  past-the-end n m a b one other =
      let first = take_all n (drop a places) (omega (arith, length-drop a places)) ∙ drop_all a places one in
      let second = take_all m (drop b places) (omega (arith, length-drop b places)) ∙ drop_all b places other in
      first ∙ sym second

  -- a piece of several row groups is one row group of a table with wider row groups
  pub run-wide : (size count long i : ℕ) → length places ≤ count * size → run_of size (begin_of count long i) (begin_of count long (i + 1)) places ≡ in_group (long * size) i places
  run-wide size count long i all =
      let next = next-times i long in
      let start = mul_assoc i long size in
      let from = begin_of count long i in
      let to = begin_of count long (i + 1) in
      elim (cases_lt count ((i + 1) * long)) [
        | inr within ↦
            let from-is : from ≡ i * long = omega (arith, within, next) in
            let long-is : to - from ≡ long = omega (arith, within, next) in
            same-part ((to - from) * size) (long * size) (from * size) (i * (long * size)) (ap (λ n. n * size) long-is) (ap (λ n. n * size) from-is ∙ start)
        | inl over ↦
            let to-is : to ≡ count = omega (arith, over) in
            elim (cases_lt count (i * long)) [
              | inl past ↦
                  let from-is : from ≡ count = omega (arith, past) in
                  let far : count * size ≤ i * long * size = mul-le-mul_right size (omega (arith, past)) in
                  past-the-end ((to - from) * size) (long * size) (from * size) (i * (long * size))
                  (subst (λ n. length places ≤ n) (sym (ap (λ n. n * size) from-is)) all)
                  (subst (λ n. length places ≤ n) start (at-most (length places) (count * size) (i * long * size) all far))
              | inr within ↦
                  let from-is : from ≡ i * long = omega (arith, within) in
                  let sum : from + (to - from) ≡ count = omega (arith, over, within) in
                  let sums : from * size + (to - from) * size ≡ count * size = sym (both-times from (to - from) size) ∙ ap (λ n. n * size) sum in
                  let far : count * size ≤ (i + 1) * long * size = mul-le-mul_right size (omega (arith, over)) in
                  let wide : (i + 1) * long * size ≡ from * size + long * size = ap (λ n. n * size) next ∙ both-times (i * long) long size ∙ ap (λ n. n * size + long * size) (sym from-is) in
                  to-the-end ((to - from) * size) (long * size) (from * size)
                  (subst (λ n. length places ≤ n) (sym sums) all)
                  (chain (length places) (count * size) ((i + 1) * long * size) (from * size) (long * size) all far wide)
                  ∙ ap (λ k. take (long * size) (drop k places)) (ap (λ n. n * size) from-is ∙ start)
            ]
      ]

  -- ---- one more row group

  -- a run of no row group has no places
  pub run-none : (size from : ℕ) → run_of size from from places ≡ []
  run-none size from =
      let level : from - from ≡ 0 = omega arith in
      let none : (from - from) * size ≡ 0 = ap (λ n. n * size) level ∙ no-times size in
      ap (λ n. take n (drop (from * size) places)) none

  pub run-more : (size from group : ℕ) → from ≤ group → run_of size from (group + 1) places ≡ run_of size from group places ++ in_group size group places
  run-more size from group low =
      let longer : group + 1 - from ≡ group - from + 1 = omega (arith, low) in
      let many : (group + 1 - from) * size ≡ (group - from) * size + size = ap (λ n. n * size) longer ∙ next-times (group - from) size in
      let sum : from + (group - from) ≡ group = omega (arith, low) in
      let at : from * size + (group - from) * size ≡ group * size = sym (both-times from (group - from) size) ∙ ap (λ n. n * size) sum in
      ap (λ n. take n (drop (from * size) places)) many
      ∙ take-add ((group - from) * size) size (drop (from * size) places)
      ∙ ap (λ l. run_of size from group places ++ take size l) (drop-drop ((group - from) * size) (from * size) places ∙ ap (λ n. drop n places) at)

  few-run : (spec : Spec) (size from to : ℕ) → length (pairs_here spec (run_of size from to places)) ≤ length places
  few-run spec size from to =
      let a = pairs-few spec (run_of size from to places) in
      let b = length-take ((to - from) * size) (drop (from * size) places) in
      let c = length-drop (from * size) places in
      omega (arith, a, b, c)

  few-group : (spec : Spec) (size group : ℕ) → length (group_pairs spec size group places) ≤ length places
  few-group spec size group =
      let a = pairs-few spec (in_group size group places) in
      let b = length-take size (drop (group * size) places) in
      let c = length-drop (group * size) places in
      omega (arith, a, b, c)

  pub run-joins : (spec : Spec) (size from group : ℕ) → length places ≤ 2 ^ 24 → CanJoin (totals (pairs_here spec (run_of size from group places))) (totals (group_pairs spec size group places))
  run-joins spec size from group few =
      can_join (pairs_here spec (run_of size from group places)) (group_pairs spec size group places) (omega (arith, few, few-run spec size from group, few-group spec size group))

  pub run-joined : (spec : Spec) (size from group : ℕ) → from ≤ group → joined_totals (totals (pairs_here spec (run_of size from group places))) (totals (group_pairs spec size group places)) ≡ totals (pairs_here spec (run_of size from (group + 1) places))
  run-joined spec size from group low =
      sym (totals-append (pairs_here spec (run_of size from group places)) (group_pairs spec size group places))
      ∙ ap totals (sym (filter_map-append (place_pair spec) (run_of size from group places) (in_group size group places)))
      ∙ ap (λ l. totals (pairs_here spec l)) (sym (run-more size from group low))

  pub run-observed : (spec : Spec) (size from group : ℕ) → from ≤ group → joined_extrema (extrema (pairs_here spec (run_of size from group places))) (extrema (group_pairs spec size group places)) ≡ extrema (pairs_here spec (run_of size from (group + 1) places))
  run-observed spec size from group low =
      sym (extrema-append (pairs_here spec (run_of size from group places)) (group_pairs spec size group places))
      ∙ ap extrema (sym (filter_map-append (place_pair spec) (run_of size from group places) (in_group size group places)))
      ∙ ap (λ l. extrema (pairs_here spec l)) (sym (run-more size from group low))

-- the partial of a piece is the partial of its wide row group
pub as-one : (spec : Spec) (places : List Place) (size count long i : ℕ) → length places ≤ count * size
    → partial_of spec.fold (pairs_here spec (run_of size (begin_of count long i) (begin_of count long (i + 1)) places)) ≡ partial_at spec (long * size) places i
as-one spec places size count long i all = ap (λ (ps : List Place). partial_of spec.fold (pairs_here spec ps)) (run-wide places size count long i all)

-- ---- the number of pieces

pub positive : (long size : ℕ) → 0 < long → 0 < size → 0 < long * size
positive long size some many = let up : 1 * size ≤ long * size = mul-le-mul_right size (omega (arith, some)) in omega (arith, up, many)

pub few-wide : (len size count long pieces : ℕ) → 0 < long * size → len ≤ count * size → count ≤ pieces * long → groups (long * size) len ≤ pieces
few-wide len size count long pieces some all enough =
    let up : count * size ≤ pieces * long * size = mul-le-mul_right size enough in
    let wide : len ≤ pieces * (long * size) = subst (λ n. len ≤ n) (mul_assoc pieces long size) (at-most len (count * size) (pieces * long * size) all up) in
    few-times len (long * size) pieces some wide

-- the counted row groups hold all places
pub all-held : (len size count : ℕ) → 0 < size → count ≡ groups size len → len ≤ count * size
all-held len size count some is =
    rounded-up len size ((len + size - 1) / size * size) (count * size) some (lt-div-mul-add {a = len + size - 1} {b = size} some) (ap (λ n. n * size) is)

-- at most the last row group is not full
pub not-much-more : (len size count : ℕ) → count ≡ groups size len → count * size ≤ len + size - 1
not-much-more len size count is = rounded-down len size ((len + size - 1) / size * size) (count * size) (div-mul-le_self (len + size - 1) size) (ap (λ n. n * size) is)

-- so a piece has fewer than 2 ^ 25 places
pub narrow : (len size count long : ℕ) → size ≤ 2 ^ 16 → len ≤ 2 ^ 24 → count ≡ groups size len → long ≤ max count 1 → long * size < 2 ^ 25
narrow len size count long small few is short =
    let most = not-much-more len size count is in
    elim (cases_lt count 1) [
      | inl none ↦ let up : long * size ≤ 1 * size = mul-le-mul_right size (omega (arith, none, short)) in omega (arith, up, small)
      | inr some ↦ let up : long * size ≤ count * size = mul-le-mul_right size (omega (arith, some, short)) in omega (arith, up, most, few, small)
    ]

-- the counted row groups are those that are begun
pub all-begun : (len size count : ℕ) → 0 < size → count ≡ groups size len → AreBegun size len count
all-begun len size count some is = record {
  begun = λ group below. begun group size len some (subst (λ n. group < n) is below);
  all = all-held len size count some is;
}

-- ---- pieces that are identified by their numbers

module _ (may_fail : Type 0) (spec : Spec) (wide : ℕ) (places : List Place) (number : ℕ) (pieces : List Piece) (folded : AreFolded may_fail spec wide places number pieces) where
  in-order : AreFrom may_fail spec wide places 0 pieces
  in-order k d within =
      let at : k ≡ 0 + k = omega arith in
      subst (λ n. IsPiece may_fail spec wide places n (slice_index_or pieces k d)) at (folded.each k d (omega (arith, within, folded.len)))

  pub folded-few : HaveFewFaults may_fail pieces
  folded-few = few-faults may_fail spec wide places 0 pieces in-order

  pub folded-whole : AreWhole pieces → all_partials pieces ≡ partials_from spec wide places 0 number
  folded-whole whole = all-from may_fail spec wide places 0 pieces in-order whole ∙ ap (partials_from spec wide places 0) folded.len

-- the partials of all pieces are the partials of a table with wider row groups
pub folded-given : (may_fail : Type 0) (spec : Spec) (places : List Place) (size len counted : ℕ) (wide : WideCut) (pieces : List Piece) (partials : List PartialDone) → counted ≡ len → IsWideCut size len wide → AreFolded may_fail spec (wide.cut.long * size) places wide.pieces pieces → AreWhole pieces → partials ≡ all_partials pieces
    → partials ≡ partials_from spec wide.size places 0 (groups wide.size counted)
folded-given may_fail spec places size len counted wide pieces partials same cut folded whole gathered =
    gathered
    ∙ folded-whole may_fail spec (wide.cut.long * size) places wide.pieces pieces folded whole
    ∙ ap (λ n. partials_from spec n places 0 wide.pieces) (sym cut.size)
    ∙ ap (partials_from spec wide.size places 0) (cut.pieces ∙ ap (groups wide.size) (sym same))
