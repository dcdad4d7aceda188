-- An aggregate stays up to date under an edit of the places.
use Rattle.std.proofs.Common.{◌≡◌, ℕ, ◌/◌, ◌<◌, Bool, true, false, cond, List, [], ◌∷◌, ◌++◌, length, refl, sym, ap, ◌∙◌, subst, arith, zero-add, None, Some, slice_get}
use Rattle.std.specs.Prelude.{option_map}
use Rattle.std.specs.List.{cons_option, filter_map}
use Rattle.std.specs.FinMap as fin
use Rattle.std.proofs.lemmas.List.Elements.{filter_map-append}
use Rattle.far_types.specs.declared.spec.Spec.{Spec}
use Rattle.far_types.specs.Answers.{Extrema, totals, extrema}
use Rattle.far_types.specs.Cells.{RowFits}
use Rattle.far_types.specs.Edits.{change_at}
use Rattle.far_types.specs.Pairs.{Pair, PairsFit}
use Rattle.far_types.specs.Table.{Place, place_pair, is_pending, in_group}
use Rattle.far_groups.specs.Live as groups
use Rattle.far_extrema.specs.Live as min_maxes
use Rattle.far_extrema.specs.Live.{group_at}
use Rattle.far_aggregates.specs.declared.aggregate.Accumulator.{Accumulator}
use Rattle.far_aggregates.specs.declared.aggregate.Accumulator.TheVariants as accumulator
use Rattle.far_aggregates.specs.Accumulators.{RegistryEntry, Change, PlacesFit, scanned_pair, scanned_pairs, pairs_here, group_pairs, scanned_group, KeepsEntry}
use Rattle.far_aggregates.specs.Pairs.{place_gives, change_of, with_change, without_change, with_observed_change}
use Rattle.far_aggregates.specs.Deltas.{delta_of, row_delta, with_delta}
use Rattle.far_aggregates.specs.Retract.{after_retract, MayRetract}
use Rattle.far_aggregates.specs.Reserve.{IsReserved}
use Rattle.far_aggregates.proofs.AccumulatorsTotals.{totals-more, totals-swap, others, scanned-separate, scanned-changed, scanned-appended, scanned_pair-fits, cons-fits, others-fits}
use Rattle.far_aggregates.proofs.AnswersCounts.{can_retract}
use Rattle.far_aggregates.proofs.AccumulatorsExtrema.{observed-more, observed-swap, rest, rest-separate, rest-changed, gone-leaves, gone-observed, groups_observed, groups_left, observed-is, left-is, observed-length, extrema-if-scanned, extrema-if-pending}
use Rattle.far_aggregates.proofs.TableGroups.{in_group-changed, in_group-appended, in_group-last, in_group-there, get-in_group, nth}
use Rattle.far_aggregates.proofs.PairsLaws.{extrema-joined}

abbrev pub entry : Spec → ℕ → List Bool → Accumulator → RegistryEntry
entry spec registration pending k = Some (record { spec = spec; registration = registration; pending = pending; accumulator = k })

module _ (spec : Spec) (registration : ℕ) (pending : List Bool) (g : ℕ) where
  added-is : (live : groups.TotalsState) (o : Change) → with_delta g (entry spec registration pending (accumulator.Totals live)) (option_map (delta_of g (accumulator.Totals live)) o) ≡ entry spec registration pending (accumulator.Totals (record { left = live.left; totals = with_change live.totals o }))
  added-is live None = refl
  added-is live (Some pair) = refl

  added-observed : (live : min_maxes.ExtremaState) (o : Change) → with_delta g (entry spec registration pending (accumulator.Extrema live)) (option_map (delta_of g (accumulator.Extrema live)) o) ≡ entry spec registration pending (accumulator.Extrema (record live { groups = groups_observed g live.groups o }))
  added-observed live None = refl
  added-observed live (Some pair) = refl

  retracted-is : (here : List Place) (live : groups.TotalsState) (o : Change) → after_retract g here (entry spec registration pending (accumulator.Totals live)) o ≡ entry spec registration pending (accumulator.Totals (record { left = live.left; totals = without_change live.totals o }))
  retracted-is here live None = refl
  retracted-is here live (Some pair) = refl

  retracted-left : (here : List Place) (live : min_maxes.ExtremaState) (o : Change) → after_retract g here (entry spec registration pending (accumulator.Extrema live)) o ≡ entry spec registration pending (accumulator.Extrema (record live { groups = groups_left g live.groups o (extrema (pairs_here spec here)) }))
  retracted-left here live None = refl
  retracted-left here live (Some pair) = refl

-- a row group that is scanned has the extrema of its places
accumulator-here : (spec : Spec) (size : ℕ) (pending : List Bool) (g : ℕ) (ps : List Place) (gs : List Extrema) → is_pending pending g ≡ false → ((h : ℕ) → group_at gs h ≡ scanned_group spec size pending ps h) → group_at gs g ≡ extrema (group_pairs spec size g ps)
accumulator-here spec size pending g ps gs is kept = kept g ∙ ap (λ b. cond b fin.empty (extrema (group_pairs spec size g ps))) is

-- one registry entry stays up to date under an insert

module _ (size : ℕ) (spec : Spec) (registration : ℕ) (pending : List Bool) (ps : List Place) (p : Place) (positive : 0 < size) where
  appended-observed : extrema (group_pairs spec size (length ps / size) (ps ++ p ∷ [])) ≡ with_observed_change (extrema (group_pairs spec size (length ps / size) ps)) (place_pair spec p)
  appended-observed =
      let mine = in_group size (length ps / size) ps in
      ap (λ l. extrema (filter_map (place_pair spec) l)) (in_group-last size ps p positive)
      ∙ ap extrema (filter_map-append (place_pair spec) mine (p ∷ []))
      ∙ extrema-joined (filter_map (place_pair spec) mine) (place_pair spec p)

  insert-extrema : (live : min_maxes.ExtremaState) (b : Bool) → is_pending pending (length ps / size) ≡ b → KeepsEntry size ps (entry spec registration pending (accumulator.Extrema live)) → length ps / size < length live.groups
      → KeepsEntry size (ps ++ p ∷ []) (with_delta (length ps / size) (entry spec registration pending (accumulator.Extrema live)) (option_map (delta_of (length ps / size) (accumulator.Extrema live)) (cond b None (place_pair spec p))))
  insert-extrema live true is h reserved = (h.0, (extrema-if-pending spec size pending (length ps / size) ps (ps ++ p ∷ []) (λ k n. in_group-appended size k ps p positive n) live.groups is h.1.0, h.1.1))
  insert-extrema live false is h reserved =
      let g = length ps / size in
      let o = place_pair spec p in
      let w = observed-is g live.groups o reserved in
      let new : with_observed_change (group_at live.groups g) o ≡ extrema (group_pairs spec size g (ps ++ p ∷ [])) = ap (λ m. with_observed_change m o) (accumulator-here spec size pending g ps live.groups is h.1.0) ∙ sym appended-observed in
      subst (KeepsEntry size (ps ++ p ∷ [])) (sym (added-observed spec registration pending g live o))
      (h.0, (extrema-if-scanned spec size pending g ps (ps ++ p ∷ []) (λ k n. in_group-appended size k ps p positive n) live.groups (groups_observed g live.groups o) is h.1.0 (w.0 ∙ new, w.1), h.1.1))

  accumulator-inserted : (k : Accumulator) → KeepsEntry size ps (entry spec registration pending k) → IsReserved (length ps / size) (entry spec registration pending k)
      → KeepsEntry size (ps ++ p ∷ []) (with_delta (length ps / size) (entry spec registration pending k) (row_delta size (length ps) (place_gives p) (entry spec registration pending k)))
  accumulator-inserted (accumulator.Totals live) h reserved =
      let o = scanned_pair spec size pending (length ps) p in
      subst (KeepsEntry size (ps ++ p ∷ [])) (sym (added-is spec registration pending (length ps / size) live o)) (h.0, (ap (λ m. with_change m o) h.1.0 ∙ scanned-appended spec size pending ps p, h.1.1))
  accumulator-inserted (accumulator.Extrema live) h reserved = insert-extrema live (is_pending pending (length ps / size)) refl h reserved

pub entry-insert : (size : ℕ) (ps : List Place) (p : Place) (s : RegistryEntry) → 0 < size → KeepsEntry size ps s → IsReserved (length ps / size) s
    → KeepsEntry size (ps ++ p ∷ []) (with_delta (length ps / size) s (row_delta size (length ps) (place_gives p) s))
entry-insert size ps p None positive h reserved = tt
entry-insert size ps p (Some a) positive h reserved = accumulator-inserted size a.spec a.registration a.pending ps p positive a.accumulator h reserved

-- one registry entry stays up to date under a set: a place x becomes y

module _ (size : ℕ) (f : Place → Place) (ps : List Place) (i : ℕ) (x y : Place) (positive : 0 < size) (here : slice_get ps i ≡ Some x) (there : slice_get (change_at f i ps) i ≡ Some y) where
  -- the other pairs of the row group
  abbrev elsewhere : Spec → List Pair
  elsewhere spec = rest spec (in_group size (i / size) ps) (nth size i)

  was-separate : (spec : Spec) → extrema (group_pairs spec size (i / size) ps) ≡ extrema (cons_option (place_pair spec x) (elsewhere spec))
  was-separate spec = rest-separate spec (in_group size (i / size) ps) (nth size i) x (get-in_group size i ps positive ∙ here)

  is-separate : (spec : Spec) → extrema (group_pairs spec size (i / size) (change_at f i ps)) ≡ extrema (cons_option (place_pair spec y) (elsewhere spec))
  is-separate spec =
      let mine = in_group size (i / size) ps in
      let same = in_group-there size f i ps positive in
      ap (λ l. extrema (filter_map (place_pair spec) l)) same
      ∙ rest-separate spec (change_at f (nth size i) mine) (nth size i) y (ap (λ l. slice_get l (nth size i)) (sym same) ∙ get-in_group size i (change_at f i ps) positive ∙ there)
      ∙ ap (λ r. extrema (cons_option (place_pair spec y) r)) (rest-changed spec f mine (nth size i))

  -- the extrema have observed the new pair, and still have the old pair
  both-in : (spec : Spec) (m : Extrema) → m ≡ extrema (group_pairs spec size (i / size) ps) → with_observed_change m (place_pair spec y) ≡ extrema (cons_option (place_pair spec x) (cons_option (place_pair spec y) (elsewhere spec)))
  both-in spec m h =
      ap (λ n. with_observed_change n (place_pair spec y)) (h ∙ was-separate spec)
      ∙ sym (observed-more (place_pair spec y) (cons_option (place_pair spec x) (elsewhere spec)))
      ∙ observed-swap (place_pair spec y) (place_pair spec x) (elsewhere spec)

  set-extrema : (spec : Spec) (registration : ℕ) (pending : List Bool) (live : min_maxes.ExtremaState) (b : Bool) → is_pending pending (i / size) ≡ b → KeepsEntry size ps (entry spec registration pending (accumulator.Extrema live)) → i / size < length live.groups
      → KeepsEntry size (change_at f i ps) (after_retract (i / size) (in_group size (i / size) (change_at f i ps)) (with_delta (i / size) (entry spec registration pending (accumulator.Extrema live)) (option_map (delta_of (i / size) (accumulator.Extrema live)) (cond b None (place_pair spec y)))) (cond b None (place_pair spec x)))
  set-extrema spec registration pending live true is h reserved = (h.0, (extrema-if-pending spec size pending (i / size) ps (change_at f i ps) (λ k n. in_group-changed size k f i ps positive n) live.groups is h.1.0, h.1.1))
  set-extrema spec registration pending live false is h reserved =
      let g = i / size in
      let delta = place_pair spec y in
      let went = place_pair spec x in
      let new = extrema (group_pairs spec size g (change_at f i ps)) in
      let mid = groups_observed g live.groups delta in
      let many = observed-length g live.groups delta in
      let one = observed-is g live.groups delta reserved in
      let two = left-is g mid went new (omega arith) in
      let left = gone-leaves went (cons_option delta (elsewhere spec)) _ new (one.0 ∙ both-in spec (group_at live.groups g) (accumulator-here spec size pending g ps live.groups is h.1.0)) (is-separate spec) in
      subst (KeepsEntry size (change_at f i ps)) (sym (ap (λ s. after_retract g (in_group size g (change_at f i ps)) s went) (added-observed spec registration pending g live delta) ∙ retracted-left spec registration pending g (in_group size g (change_at f i ps)) (record live { groups = mid }) went))
      (h.0, (extrema-if-scanned spec size pending g ps (change_at f i ps) (λ k n. in_group-changed size k f i ps positive n) live.groups (groups_left g mid went new) is h.1.0 (two.0 ∙ left, λ k n. two.1 k n ∙ one.1 k n), h.1.1))

  accumulator-set : (spec : Spec) (registration : ℕ) (pending : List Bool) (k : Accumulator) → KeepsEntry size ps (entry spec registration pending k) → IsReserved (i / size) (entry spec registration pending k)
      → KeepsEntry size (change_at f i ps) (after_retract (i / size) (in_group size (i / size) (change_at f i ps)) (with_delta (i / size) (entry spec registration pending k) (row_delta size i (place_gives y) (entry spec registration pending k))) (change_of size i (place_gives x) (entry spec registration pending k)))
  accumulator-set spec registration pending (accumulator.Totals live) h reserved =
      let delta = scanned_pair spec size pending i y in
      let went = scanned_pair spec size pending i x in
      let mid : groups.TotalsState = record { left = live.left; totals = with_change live.totals delta } in
      subst (KeepsEntry size (change_at f i ps)) (sym (ap (λ s. after_retract (i / size) (in_group size (i / size) (change_at f i ps)) s went) (added-is spec registration pending (i / size) live delta) ∙ retracted-is spec registration pending (i / size) (in_group size (i / size) (change_at f i ps)) mid went))
      (h.0, (ap (λ m. without_change (with_change m delta) went) h.1.0 ∙ scanned-changed spec size pending f ps i x y here there, h.1.1))
  accumulator-set spec registration pending (accumulator.Extrema live) h reserved = set-extrema spec registration pending live (is_pending pending (i / size)) refl h reserved

  pub entry-set : (s : RegistryEntry) → KeepsEntry size ps s → IsReserved (i / size) s → KeepsEntry size (change_at f i ps) (after_retract (i / size) (in_group size (i / size) (change_at f i ps)) (with_delta (i / size) s (row_delta size i (place_gives y) s)) (change_of size i (place_gives x) s))
  entry-set None h reserved = tt
  entry-set (Some a) h reserved = accumulator-set a.spec a.registration a.pending a.accumulator h reserved

  -- the old pair may be retracted

  may_retract-totals : (spec : Spec) (registration : ℕ) (pending : List Bool) (live : groups.TotalsState) (o : Change) (qs : List Pair) → live.totals ≡ totals (cons_option o qs) → PairsFit qs → MayRetract (i / size) (in_group size (i / size) (change_at f i ps)) (entry spec registration pending (accumulator.Totals live)) o
  may_retract-totals spec registration pending live None qs h fit = tt
  may_retract-totals spec registration pending live (Some p) qs h fit = subst (λ t. groups.CanRetract p.1 (fin.get t p.0)) (sym h) (can_retract p qs fit)

  may_retract-extrema : (spec : Spec) (registration : ℕ) (pending : List Bool) (live : min_maxes.ExtremaState) (o : Change) (qs : List Pair) → group_at live.groups (i / size) ≡ extrema (cons_option o qs) → extrema (group_pairs spec size (i / size) (change_at f i ps)) ≡ extrema qs → MayRetract (i / size) (in_group size (i / size) (change_at f i ps)) (entry spec registration pending (accumulator.Extrema live)) o
  may_retract-extrema spec registration pending live None qs h new = tt
  may_retract-extrema spec registration pending live (Some p) qs h new = gone-observed p qs (group_at live.groups (i / size)) (extrema (group_pairs spec size (i / size) (change_at f i ps))) h new

  set-may_retract-extrema : (spec : Spec) (registration : ℕ) (pending : List Bool) (live : min_maxes.ExtremaState) (b : Bool) → is_pending pending (i / size) ≡ b → KeepsEntry size ps (entry spec registration pending (accumulator.Extrema live)) → i / size < length live.groups
      → MayRetract (i / size) (in_group size (i / size) (change_at f i ps)) (with_delta (i / size) (entry spec registration pending (accumulator.Extrema live)) (option_map (delta_of (i / size) (accumulator.Extrema live)) (cond b None (place_pair spec y)))) (cond b None (place_pair spec x))
  set-may_retract-extrema spec registration pending live true is h reserved = tt
  set-may_retract-extrema spec registration pending live false is h reserved =
      let g = i / size in
      let delta = place_pair spec y in
      let one = observed-is g live.groups delta reserved in
      subst (λ s. MayRetract g (in_group size g (change_at f i ps)) s (place_pair spec x)) (sym (added-observed spec registration pending g live delta))
      (may_retract-extrema spec registration pending (record live { groups = groups_observed g live.groups delta }) (place_pair spec x) (cons_option delta (elsewhere spec))
      (one.0 ∙ both-in spec (group_at live.groups g) (accumulator-here spec size pending g ps live.groups is h.1.0)) (is-separate spec))

  module _ (fit : PlacesFit ps) (row : RowFits y.cells) where
    set-may_retract : (spec : Spec) (registration : ℕ) (pending : List Bool) (k : Accumulator) → KeepsEntry size ps (entry spec registration pending k) → IsReserved (i / size) (entry spec registration pending k)
        → MayRetract (i / size) (in_group size (i / size) (change_at f i ps)) (with_delta (i / size) (entry spec registration pending k) (row_delta size i (place_gives y) (entry spec registration pending k))) (change_of size i (place_gives x) (entry spec registration pending k))
    set-may_retract spec registration pending (accumulator.Totals live) h reserved =
        let delta = scanned_pair spec size pending i y in
        let went = scanned_pair spec size pending i x in
        let r = others spec size pending 0 ps i in
        let separate : totals (scanned_pairs spec size pending 0 ps) ≡ totals (cons_option went r) = scanned-separate spec size pending 0 ps i x here ∙ rw zero-add refl in
        subst (λ s. MayRetract (i / size) (in_group size (i / size) (change_at f i ps)) s went) (sym (added-is spec registration pending (i / size) live delta))
        (may_retract-totals spec registration pending (record { left = live.left; totals = with_change live.totals delta }) went (cons_option delta r)
        (ap (λ m. with_change m delta) (h.1.0 ∙ separate) ∙ sym (totals-more delta (cons_option went r)) ∙ totals-swap delta went r)
        (cons-fits delta r (scanned_pair-fits spec size pending i y row) (others-fits spec size pending 0 ps i fit)))
    set-may_retract spec registration pending (accumulator.Extrema live) h reserved = set-may_retract-extrema spec registration pending live (is_pending pending (i / size)) refl h reserved

    pub entry-may_retract : (s : RegistryEntry) → KeepsEntry size ps s → IsReserved (i / size) s → MayRetract (i / size) (in_group size (i / size) (change_at f i ps)) (with_delta (i / size) s (row_delta size i (place_gives y) s)) (change_of size i (place_gives x) s)
    entry-may_retract None h reserved = tt
    entry-may_retract (Some a) h reserved = set-may_retract a.spec a.registration a.pending a.accumulator h reserved
