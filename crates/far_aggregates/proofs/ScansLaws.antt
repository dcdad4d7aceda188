-- How a scanned row group changes an aggregate.
use Rattle.std.proofs.Common.{inl, inr, ◌≡◌, ◌≢◌, ℕ, zero, suc, ◌+◌, ◌-◌, ◌*◌, ◌/◌, ◌<◌, ◌≤◌, Bool, true, false, cond, List, [], ◌∷◌, ◌++◌, length, map, take, drop, refl, sym, ap, ◌∙◌, subst, arith, None, Some, slice_get, slice_set, slice_index_or, replicate, length-append, length-drop, ◌^◌}
use Rattle.std.specs.Prelude.{nat_eq}
use Rattle.std.specs.List.{filter_map, cons_option}
use Rattle.std.specs.FinMap as fin
use Rattle.std.proofs.lemmas.Bool.Decides.{nat_tests}
use Rattle.std.proofs.lemmas.List.{get_or-set_same, get_or-set_other, take_all, length-replicate, length-take}
use Rattle.std.proofs.lemmas.List.Sums.{sum_by-cons}
use Rattle.std.proofs.Math.Nat.{div-mul-le_self, lt-div-mul-add, div-eq_of_lt-le}
use Rattle.far_types.specs.declared.spec.Spec.{Spec}
use Rattle.far_types.specs.declared.spec.Fold.{Fold}
use Rattle.far_types.specs.declared.spec.Fold.TheVariants as fold
use Rattle.far_types.specs.Answers.{Extrema, totals, extrema}
use Rattle.far_types.specs.Effects.{joined_totals}
use Rattle.far_types.specs.Pairs.{Pair}
use Rattle.far_types.specs.Table.{Place, place_pair, is_pending, left, in_group}
use Rattle.far_types.proofs.EffectsLaws.{totals-cons, totals-among, totals-append}
use Rattle.far_extrema.specs.Live.{after_reserve}
use Rattle.far_groups.specs.Live as groups
use Rattle.far_groups.specs.Live.{CanJoin}
use Rattle.far_offload.specs.declared.partial.PartialDone.{PartialDone}
use Rattle.far_offload.specs.declared.partial.PartialDone.TheVariants as partial
use Rattle.far_offload.specs.AtHand.{AreAtHand}
use Rattle.far_offload.specs.Columns.{Columns}
use Rattle.far_offload.specs.Partials.{partial_of, pairs_over}
use Rattle.far_offload.proofs.AtHandLaws.{at-hand}
use Rattle.far_groups.proofs.LivePairs.{can_join}
use Rattle.far_aggregates.specs.declared.aggregate.Aggregate.{Aggregate}
use Rattle.far_aggregates.specs.declared.aggregate.Accumulator.{Accumulator}
use Rattle.far_aggregates.specs.declared.aggregate.Accumulator.TheVariants as accumulator
use Rattle.far_aggregates.specs.Accumulators.{RegistryEntry, Change, scanned_pairs, pairs_here, group_pairs, scanned_group, fold_of, IsUpToDate, KeepsEntry}
use Rattle.far_aggregates.proofs.ReserveLaws.{accumulator-same}
use Rattle.far_aggregates.specs.Scans.{has_pending, IsScanned, IsSame, AccumulatorMayScan}
use Rattle.far_aggregates.specs.Aggregates.{flattened}
use Rattle.far_aggregates.specs.Pairs.{with_change}
use Rattle.far_aggregates.proofs.AccumulatorsTotals.{length-scanned}
use Rattle.far_aggregates.proofs.ListLaws.{index-replicate}
use Rattle.far_aggregates.proofs.PairsLaws.{pairs-few}
use Rattle.far_aggregates.proofs.AccumulatorsExtrema.{same_or_not}

-- a row group that is pending has a flag
flag-there : (pending : List Bool) (g : ℕ) → is_pending pending g ≡ true → g < length pending
flag-there [] g h = cc
flag-there (b ∷ pending) zero h = omega arith
flag-there (b ∷ pending) (suc g) h = let l = flag-there pending g h in omega arith

pub cleared-same : (pending : List Bool) (g : ℕ) → is_pending pending g ≡ true → is_pending (slice_set pending g false) g ≡ false
cleared-same pending g h = get_or-set_same pending g false false (flag-there pending g h)

pub cleared-other : (pending : List Bool) (g k : ℕ) → k ≢ g → is_pending (slice_set pending g false) k ≡ is_pending pending k
cleared-other pending g k n = get_or-set_other pending g k false false n

-- one fewer row group is pending
pub left-cleared : (pending : List Bool) (g : ℕ) → is_pending pending g ≡ true → left (slice_set pending g false) + 1 ≡ left pending
left-cleared [] g h = cc
left-cleared (true ∷ pending) zero h = let a = sum_by-cons (λ (b : Bool). cond b 1 0) true pending in let b = sum_by-cons (λ (b : Bool). cond b 1 0) false pending in omega arith
left-cleared (false ∷ pending) zero h = cc
left-cleared (b ∷ pending) (suc g) h =
    let i = left-cleared pending g h in
    let x = sum_by-cons (λ (b : Bool). cond b 1 0) b pending in
    let y = sum_by-cons (λ (b : Bool). cond b 1 0) b (slice_set pending g false) in
    omega arith

abbrev no_places : List Place
no_places = []

module _ (spec : Spec) (size : ℕ) (pending : List Bool) (g : ℕ) (there : is_pending pending g ≡ true) where
  -- the pair that a place of the row group adds
  abbrev added_pair : ℕ → Place → Change
  added_pair i p = cond (nat_eq (i / size) g) (place_pair spec p) None

  abbrev added_pairs : ℕ → List Place → List Pair
  added_pairs i [] = []
  added_pairs i (p ∷ ps) = cons_option (added_pair i p) (added_pairs (i + 1) ps)

  both : (c : Change) (xs ys zs : List Pair) → totals xs ≡ totals (ys ++ zs) → totals (cons_option c xs) ≡ totals (ys ++ cons_option c zs)
  both None xs ys zs h = h
  both (Some p) xs ys zs h = totals-cons p xs ∙ ap (λ m. with_change m (Some p)) h ∙ sym (totals-cons p (ys ++ zs)) ∙ sym (totals-among ys p zs)

  first : (c : Change) (xs ys zs : List Pair) → totals xs ≡ totals (ys ++ zs) → totals (cons_option c xs) ≡ totals (cons_option c ys ++ zs)
  first None xs ys zs h = h
  first (Some p) xs ys zs h = totals-cons p xs ∙ ap (λ m. with_change m (Some p)) h ∙ sym (totals-cons p (ys ++ zs))

  in_or_out : (k : ℕ) (c : Change) (xs ys zs : List Pair) → totals xs ≡ totals (ys ++ zs)
      → totals (cons_option (cond (is_pending (slice_set pending g false) k) None c) xs) ≡ totals (cons_option (cond (is_pending pending k) None c) ys ++ cons_option (cond (nat_eq k g) c None) zs)
  in_or_out k c xs ys zs h = elim (same_or_not k g) as (λ o. totals (cons_option (cond (is_pending (slice_set pending g false) k) None c) xs) ≡ totals (cons_option (cond (is_pending pending k) None c) ys ++ cons_option (cond (nat_eq k g) c None) zs)) [
    | inl e ↦
        let shut : is_pending pending k ≡ true = ap (is_pending pending) e ∙ there in
        let shown : is_pending (slice_set pending g false) k ≡ false = ap (is_pending (slice_set pending g false)) e ∙ cleared-same pending g there in
        let same : nat_eq k g ≡ true = grind (arith, nat_tests) in
        rw (shown, shut, same) (both c xs ys zs h)
    | inr n ↦
        let like : is_pending (slice_set pending g false) k ≡ is_pending pending k = cleared-other pending g k n in
        let not : nat_eq k g ≡ false = grind (arith, nat_tests) in
        rw (like, not) (first (cond (is_pending pending k) None c) xs ys zs h)
  ]

  scanned : (i : ℕ) (ps : List Place) → totals (scanned_pairs spec size (slice_set pending g false) i ps) ≡ totals (scanned_pairs spec size pending i ps ++ added_pairs i ps)
  scanned i [] = refl
  scanned i (p ∷ ps) = in_or_out (i / size) (place_pair spec p) (scanned_pairs spec size (slice_set pending g false) (i + 1) ps) (scanned_pairs spec size pending (i + 1) ps) (added_pairs (i + 1) ps) (scanned (i + 1) ps)

  out : (i : ℕ) (p : Place) → (i / size ≡ g → ⊥) → added_pair i p ≡ None
  out i p n = let e : nat_eq (i / size) g ≡ false = grind (arith, nat_tests) in ap (λ b. cond b (place_pair spec p) None) e

  behind : (i : ℕ) (ps : List Place) → 0 < size → g * size + size ≤ i → added_pairs i ps ≡ []
  behind i [] pos h = refl
  behind i (p ∷ ps) pos h =
      let far : i < i / size * size + size = lt-div-mul-add pos in
      ap (λ c. cons_option c (added_pairs (i + 1) ps)) (out i p (λ e. let f : i / size * size ≡ g * size = ap (λ k. k * size) e in absurd (omega arith)))
      ∙ behind (i + 1) ps pos (omega arith)

  within : (n i : ℕ) (ps : List Place) → 0 < size → g * size ≤ i → i + n ≡ g * size + size → added_pairs i ps ≡ filter_map (place_pair spec) (take n ps)
  within zero i ps pos l e = behind i ps pos (omega arith)
  within (suc n) i [] pos l e = refl
  within (suc n) i (p ∷ ps) pos l e =
      let at : i / size ≡ g = div-eq_of_lt-le size l (omega arith) in
      let same : nat_eq (i / size) g ≡ true = grind (arith, nat_tests) in
      ap (λ b. cons_option (cond b (place_pair spec p) None) (added_pairs (i + 1) ps)) same
      ∙ ap (cons_option (place_pair spec p)) (within n (i + 1) ps pos (omega arith) (omega arith))

  before : (d i : ℕ) (ps : List Place) → 0 < size → i + d ≡ g * size → added_pairs i ps ≡ filter_map (place_pair spec) (take size (drop d ps))
  before zero i ps pos e = within size i ps pos (omega arith) (omega arith)
  before (suc d) i [] pos e = sym (ap (filter_map (place_pair spec)) (take_all size no_places (omega arith)))
  before (suc d) i (p ∷ ps) pos e =
      let low = div-mul-le_self i size in
      ap (λ c. cons_option c (added_pairs (i + 1) ps)) (out i p (λ f. let h : i / size * size ≡ g * size = ap (λ k. k * size) f in absurd (omega arith)))
      ∙ before d (i + 1) ps pos (omega arith)

  -- the totals of the places with one more row group
  pub totals-scanned : (ps : List Place) → 0 < size → joined_totals (totals (scanned_pairs spec size pending 0 ps)) (totals (group_pairs spec size g ps)) ≡ totals (scanned_pairs spec size (slice_set pending g false) 0 ps)
  totals-scanned ps pos =
      sym (totals-append (scanned_pairs spec size pending 0 ps) (group_pairs spec size g ps))
      ∙ ap (λ l. totals (scanned_pairs spec size pending 0 ps ++ l)) (sym (before (g * size) 0 ps pos (omega arith)))
      ∙ sym (scanned 0 ps)

  -- the extrema of the places with one more row group
  pub groups-scanned : (ps : List Place) (gs : List Extrema) → ((h : ℕ) → slice_index_or gs h fin.empty ≡ scanned_group spec size pending ps h)
      → (h : ℕ) → slice_index_or (slice_set (after_reserve g gs) g (extrema (group_pairs spec size g ps))) h fin.empty ≡ scanned_group spec size (slice_set pending g false) ps h
  groups-scanned ps gs kept h =
      let e = extrema (group_pairs spec size g ps) in
      let none : Extrema = fin.empty in
      let more = length-append gs (replicate (g + 1 - length gs) none) in
      let many = length-replicate (g + 1 - length gs) none in
      elim (same_or_not h g) as (λ o. slice_index_or (slice_set (after_reserve g gs) g e) h fin.empty ≡ scanned_group spec size (slice_set pending g false) ps h) [
        | inl k ↦
            ap (λ n. slice_index_or (slice_set (after_reserve g gs) g e) n fin.empty) k
            ∙ get_or-set_same (after_reserve g gs) g e fin.empty (omega arith)
            ∙ sym (ap (λ b. cond b fin.empty e) (cleared-same pending g there))
            ∙ ap (scanned_group spec size (slice_set pending g false) ps) (sym k)
        | inr n ↦
            get_or-set_other (after_reserve g gs) g h e fin.empty n
            ∙ index-replicate gs (g + 1 - length gs) h fin.empty
            ∙ kept h
            ∙ ap (λ b. cond b fin.empty (extrema (group_pairs spec size h ps))) (sym (cleared-other pending g h n))
      ]

  pub left-scanned : left pending - 1 ≡ left (slice_set pending g false)
  left-scanned = let e = left-cleared pending g there in omega arith

  pub left-some : left pending ≡ 0 → ⊥
  left-some h = let e = left-cleared pending g there in absurd (omega arith)

-- an aggregate is up to date after a row group was scanned
pub accumulator-scanned : (size : ℕ) (ps : List Place) (a : Aggregate) (k k' : Accumulator) (g : ℕ) → is_pending a.pending g ≡ true → 0 < size → IsUpToDate size ps a k → IsScanned a.spec g (in_group size g ps) k k' → IsUpToDate size ps (record a { pending = slice_set a.pending g false }) k'
accumulator-scanned size ps a (accumulator.Totals live) k' g there pos h s = subst (IsUpToDate size ps (record a { pending = slice_set a.pending g false })) (sym s) (
  ap (λ m. joined_totals m (totals (group_pairs a.spec size g ps))) h.0 ∙ totals-scanned a.spec size a.pending g there ps pos,
  ap (λ n. n - 1) h.1 ∙ left-scanned a.spec size a.pending g there,
)
accumulator-scanned size ps a (accumulator.Extrema live) (accumulator.Totals new) g there pos h s = absurd s
accumulator-scanned size ps a (accumulator.Extrema live) (accumulator.Extrema new) g there pos h s = (
  (λ i. ap (λ gs. slice_index_or gs i fin.empty) s.1 ∙ groups-scanned a.spec size a.pending g there ps live.groups h.0 i),
  s.0 ∙ ap (λ n. n - 1) h.1 ∙ left-scanned a.spec size a.pending g there,
)

pub fold-scanned : (spec : Spec) (size g : ℕ) (ps : List Place) (k k' : Accumulator) → IsScanned spec g (in_group size g ps) k k' → fold_of k' ≡ fold_of k
fold-scanned spec size g ps (accumulator.Totals live) k' s = ap fold_of s
fold-scanned spec size g ps (accumulator.Extrema live) (accumulator.Totals new) s = absurd s
fold-scanned spec size g ps (accumulator.Extrema live) (accumulator.Extrema new) s = refl

-- an aggregate stays up to date if its accumulator has the same rows
same-in : (size : ℕ) (ps : List Place) (a : Aggregate) (k k' : Accumulator) → IsSame k k' → IsUpToDate size ps a k → IsUpToDate size ps a k'
same-in size ps a (accumulator.Totals live) k' s h = subst (IsUpToDate size ps a) (sym s) h
same-in size ps a (accumulator.Extrema live) (accumulator.Totals new) s h = absurd s
same-in size ps a (accumulator.Extrema live) (accumulator.Extrema new) s h = (λ i. ap (λ gs. slice_index_or gs i fin.empty) s.1 ∙ h.0 i, s.0 ∙ h.1)

same-fold : (k k' : Accumulator) → IsSame k k' → fold_of k' ≡ fold_of k
same-fold (accumulator.Totals live) k' s = ap fold_of s
same-fold (accumulator.Extrema live) (accumulator.Totals new) s = absurd s
same-fold (accumulator.Extrema live) (accumulator.Extrema new) s = refl

pub entry-same : (size : ℕ) (ps : List Place) (a : Aggregate) (k : Accumulator) → IsSame a.accumulator k → KeepsEntry size ps (Some a) → KeepsEntry size ps (Some (record a { accumulator = k }))
entry-same size ps a k s h = (same-fold a.accumulator k s ∙ h.0, accumulator-same size ps a (record a { accumulator = k }) k refl refl (same-in size ps a a.accumulator k s h.1))

-- a row group has no more places than the table
pub group-length : (size g : ℕ) (ps : List Place) → length (in_group size g ps) ≤ length ps
group-length size g ps =
    let b = length-take size (drop (g * size) ps) in
    let c = length-drop (g * size) ps in
    omega arith

group-few : (spec : Spec) (size g : ℕ) (ps : List Place) → length (group_pairs spec size g ps) ≤ length ps
group-few spec size g ps =
    let a = pairs-few spec (in_group size g ps) in
    let b = group-length size g ps in
    omega arith

pub may_scan : (size : ℕ) (ps : List Place) (a : Aggregate) (k : Accumulator) (g : ℕ) → is_pending a.pending g ≡ true → length ps ≤ 2 ^ 24 → IsUpToDate size ps a k → AccumulatorMayScan a.spec g (in_group size g ps) k
may_scan size ps a (accumulator.Totals live) g there few h = (
  (λ e. left-some a.spec size a.pending g there (sym h.1 ∙ e)),
  subst (λ m. CanJoin m (totals (group_pairs a.spec size g ps))) (sym h.0)
      (let b = length-scanned a.spec size a.pending 0 ps in
      let c = group-few a.spec size g ps in
      can_join (scanned_pairs a.spec size a.pending 0 ps) (group_pairs a.spec size g ps) (omega arith)),
)
may_scan size ps a (accumulator.Extrema live) g there few h = (
  (λ e. left-some a.spec size a.pending g there (sym h.1 ∙ e)),
  h.0 g ∙ ap (λ b. cond b fin.empty (extrema (group_pairs a.spec size g ps))) there,
)

pub entry-scanned : (size : ℕ) (ps : List Place) (a : Aggregate) (g : ℕ) (flags : List Bool) (k : Accumulator) → is_pending a.pending g ≡ true → 0 < size → KeepsEntry size ps (Some a) → flags ≡ slice_set a.pending g false → IsScanned a.spec g (in_group size g ps) a.accumulator k
    → KeepsEntry size ps (Some (record a { pending = flags; accumulator = k }))
entry-scanned size ps a g flags k there pos h e s =
    subst (λ u. KeepsEntry size ps (Some (record a { pending = u; accumulator = k }))) (sym e)
    (fold-scanned a.spec size g ps a.accumulator k s ∙ h.0, accumulator-same size ps (record a { pending = slice_set a.pending g false }) (record a { pending = slice_set a.pending g false; accumulator = k }) k refl refl (accumulator-scanned size ps a a.accumulator k g there pos h.1 s))

pub has-below : (registry : List RegistryEntry) (g a : ℕ) → has_pending g (flattened (slice_get registry a)) ≡ true → a < length registry
has-below [] g a h = cc
has-below (s ∷ registry) g zero h = omega arith
has-below (s ∷ registry) g (suc a) h = let l = has-below registry g a h in omega arith

-- the result of a fold of the columns that a row group lends

pub pairs-lent : (spec : Spec) (here : List Place) (columns : Columns) (flags : List Bool) → AreAtHand spec columns here → flags ≡ map (λ (place : Place). place.alive) here → pairs_over spec columns flags ≡ pairs_here spec here
pairs-lent spec here columns flags h is = ap (pairs_over spec columns) is ∙ at-hand spec columns here h

totals-of : (f : Fold) (live : groups.TotalsState) (pairs : List Pair) → partial.Totals live ≡ partial_of f pairs → live.totals ≡ totals pairs
totals-of fold.Totals live pairs h = let e : live ≡ record { left = 0; totals = totals pairs } = cc in ap (λ (l : groups.TotalsState). l.totals) e
totals-of fold.Extrema live pairs h = cc

extrema-of : (f : Fold) (observed : Extrema) (pairs : List Pair) → partial.Extrema observed ≡ partial_of f pairs → observed ≡ extrema pairs
extrema-of fold.Totals observed pairs h = cc
extrema-of fold.Extrema observed pairs h = cc

module _ (spec : Spec) (here : List Place) (columns : Columns) (flags : List Bool) (at_hand : AreAtHand spec columns here) (is : flags ≡ map (λ (place : Place). place.alive) here) (done : PartialDone) (folded : done ≡ partial_of spec.fold (pairs_over spec columns flags)) where
  pub totals-lent : (live : groups.TotalsState) → done ≡ partial.Totals live → live.totals ≡ totals (pairs_here spec here)
  totals-lent live h = totals-of spec.fold live (pairs_over spec columns flags) (sym h ∙ folded) ∙ ap totals (pairs-lent spec here columns flags at_hand is)

  pub extrema-lent : (observed : Extrema) → done ≡ partial.Extrema observed → observed ≡ extrema (pairs_here spec here)
  extrema-lent observed h = extrema-of spec.fold observed (pairs_over spec columns flags) (sym h ∙ folded) ∙ ap extrema (pairs-lent spec here columns flags at_hand is)
