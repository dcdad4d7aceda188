-- A delta that was applied to an aggregate can be undone, and then the aggregate is the same as before.
use Rattle.std.proofs.Common.{◌≡◌, ◌≢◌, ℕ, zero, suc, ◌<◌, ◌/◌, List, [], ◌∷◌, length, map, take, refl, sym, ap, ◌∙◌, subst, arith, Option, None, Some, slice_get, slice_set}
use Rattle.std.specs.Prelude.{ℤ, option_map}
use Rattle.std.specs.FinMap as fin
use Rattle.std.proofs.lemmas.List.{get_or-set_same, length-map, length-take-le, take-map, take_all}
use Rattle.far_types.specs.Answers.{Totals, Extrema, totals}
use Rattle.far_types.specs.Effects.{count_in, with_pair, without_pair, with_observed, min_max_with}
use Rattle.far_types.specs.Pairs.{Pair}
use Rattle.far_types.proofs.AnswersByKeyMaps.{get_inserted}
use Rattle.far_types.proofs.EffectsLaws.{totals-cons, without_pair-totals}
use Rattle.far_extrema.specs.Live.{group_at}
use Rattle.far_extrema.specs.MinMaxes.{put_min_max}
use Rattle.far_extrema.proofs.MinMaxesRemoval.{observed-undo}
use Rattle.far_groups.specs.Live.{CanRetract}
use Rattle.far_aggregates.specs.declared.aggregate.Aggregate.{Aggregate}
use Rattle.far_aggregates.specs.declared.aggregate.Accumulator.{Accumulator}
use Rattle.far_aggregates.specs.declared.aggregate.Accumulator.TheVariants as accumulator
use Rattle.far_aggregates.specs.declared.deltas.Delta.{Delta}
use Rattle.far_aggregates.specs.Accumulators.{RegistryEntry, Change}
use Rattle.far_aggregates.specs.Pairs.{ChangeBySpec, change_of, AccumulatorFolds, Folds, EachFolds}
use Rattle.far_aggregates.specs.Deltas.{delta_of, row_delta, delta_in, accumulator_more, with_delta, accumulator_undo, undo, AccumulatorMayAdd, AccumulatorMayUndo, MayUndo, EachMayUndo, AccumulatorFits, FitsEntry, EachFits}
use Rattle.far_aggregates.specs.Reserve.{AccumulatorIsReserved, IsReserved, AreReserved}
use Rattle.far_aggregates.specs.Until.{zip_until, zip_all}
use Rattle.far_aggregates.proofs.AnswersCounts.{few_under, can_retract}
use Rattle.far_aggregates.proofs.ListLaws.{set-again, set-own, length-written, length-zip_all, get-take}
use Rattle.far_aggregates.proofs.UntilLaws.{zip_until-take, zip_until-below, zip_until-undo, zip_until-all}

pub accumulator-may_add : (g : ℕ) (k : Accumulator) (c : Delta) → AccumulatorFits g k c → AccumulatorMayAdd g k c.pair
accumulator-may_add g (accumulator.Totals live) c h =
    let is : count_in (fin.get live.totals c.pair.0) ≡ count_in (fin.get (totals h.0) c.pair.0) = ap (λ m. count_in (fin.get m c.pair.0)) h.1 in
    let few = few_under h.0 c.pair.0 in
    let most = h.3 in
    omega arith
accumulator-may_add g (accumulator.Extrema live) c h = h.0

some_not : {A : Type 0} (x : A) (o : Option A) → o ≡ Some x → o ≢ None
some_not x None h e = cc
some_not x (Some y) h e = cc

-- a key that was observed in a row group has a min-max there
observed-there : (g : ℕ) (gs : List Extrema) (p : Pair) → g < length gs → fin.get (group_at (slice_set gs g (with_observed (group_at gs g) p)) g) p.0 ≢ None
observed-there g gs p l =
    let m = group_at gs g in
    some_not (min_max_with p.1 (fin.get m p.0)) _ (ap (λ n. fin.get n p.0) (get_or-set_same gs g (with_observed m p) fin.empty l) ∙ get_inserted m p.0 (min_max_with p.1 (fin.get m p.0)))

-- undoing the observation restores the row group
observed-undone : (g : ℕ) (gs : List Extrema) (p : Pair) (o : Option (ℤ × ℤ)) → g < length gs → o ≡ fin.get (group_at gs g) p.0
    → slice_set (slice_set gs g (with_observed (group_at gs g) p)) g (put_min_max (group_at (slice_set gs g (with_observed (group_at gs g) p)) g) p.0 o) ≡ gs
observed-undone g gs p o l h =
    let m = group_at gs g in
    set-again gs g (with_observed m p) (put_min_max (group_at (slice_set gs g (with_observed m p)) g) p.0 o)
    ∙ ap (λ n. slice_set gs g (put_min_max n p.0 o)) (get_or-set_same gs g (with_observed m p) fin.empty l)
    ∙ ap (λ s. slice_set gs g (put_min_max (with_observed m p) p.0 s)) h
    ∙ ap (slice_set gs g) (observed-undo m p)
    ∙ set-own gs g fin.empty

accumulator-may_undo : (g : ℕ) (k : Accumulator) (c : Delta) → AccumulatorFits g k c → AccumulatorMayUndo g (accumulator_more g k c.pair) c.pair
accumulator-may_undo g (accumulator.Totals live) c h = subst (λ m. CanRetract c.pair.1 (fin.get m c.pair.0)) (totals-cons c.pair h.0 ∙ ap (λ m. with_pair m c.pair) (sym h.1)) (can_retract c.pair h.0 h.2)
accumulator-may_undo g (accumulator.Extrema live) c h =
    let same = length-written live.groups g (with_observed (group_at live.groups g) c.pair) in
    let reserved = h.0 in
    (omega arith, observed-there g live.groups c.pair h.0)

undone : (m : Totals) (p : Pair) (ps : List Pair) → m ≡ totals ps → without_pair (with_pair m p) p ≡ m
undone m p ps h = ap (λ t. without_pair (with_pair t p) p) h ∙ ap (λ t. without_pair t p) (sym (totals-cons p ps)) ∙ without_pair-totals p ps ∙ sym h

accumulator-undo : (g : ℕ) (k : Accumulator) (c : Delta) → AccumulatorFits g k c → accumulator_undo g (accumulator_more g k c.pair) c ≡ k
accumulator-undo g (accumulator.Totals live) c h = ap (λ t. accumulator.Totals (record { left = live.left; totals = t })) (undone live.totals c.pair h.0 h.1)
accumulator-undo g (accumulator.Extrema live) c h = ap (λ gs. accumulator.Extrema (record live { groups = gs })) (observed-undone g live.groups c.pair c.previous h.0 h.1)

fits-may_undo : (g : ℕ) (s : RegistryEntry) (c : Option Delta) → FitsEntry g s c → MayUndo g (with_delta g s c) c
fits-may_undo g None c h = tt
fits-may_undo g (Some a) None h = tt
fits-may_undo g (Some a) (Some c) h = accumulator-may_undo g a.accumulator c h

pub fits-undo : (g : ℕ) (s : RegistryEntry) (c : Option Delta) → FitsEntry g s c → undo g (with_delta g s c) c ≡ s
fits-undo g None c h = refl
fits-undo g (Some a) None h = refl
fits-undo g (Some a) (Some c) h = ap (λ k. Some (record a { accumulator = k })) (accumulator-undo g a.accumulator c h)

same_some : {A : Type 0} (x y : A) → Some x ≡ Some y → x ≡ y
same_some x y e = cc

entry_below : (g n k : ℕ) (registry : List RegistryEntry) (deltas : List (Option Delta)) (s : RegistryEntry) → slice_get (zip_until (with_delta g) n registry deltas) k ≡ Some s → (t : RegistryEntry) × (slice_get registry k ≡ Some t)
entry_below g zero k registry deltas s h = (s, h)
entry_below g (suc n) k [] deltas s h = (s, h)
entry_below g (suc n) k (t ∷ registry) [] s h = (s, h)
entry_below g (suc n) zero (t ∷ registry) (c ∷ deltas) s h = (t, refl)
entry_below g (suc n) (suc k) (t ∷ registry) (c ∷ deltas) s h = entry_below g n k registry deltas s h

-- each of the first n deltas, if applied, may be undone
pub until-may_undo : (g n : ℕ) (registry : List RegistryEntry) (deltas : List (Option Delta)) → EachFits g registry deltas → EachMayUndo g n (zip_until (with_delta g) n registry deltas) deltas
until-may_undo g n registry deltas h k s c l here there =
    let was : (t : RegistryEntry) × (slice_get registry k ≡ Some t) = entry_below g n k registry deltas s here in
    let is : s ≡ with_delta g was.0 c = same_some _ _ (sym here ∙ zip_until-below (with_delta g) n k registry deltas was.0 c l was.1 there) in
    subst (λ t. MayUndo g t c) (sym is) (fits-may_undo g was.0 c (h k was.0 c was.1 there))

-- if all deltas were applied, each may be undone
all-may_undo : (g : ℕ) (registry : List RegistryEntry) (deltas : List (Option Delta)) → EachFits g registry deltas → EachMayUndo g (length (zip_all (with_delta g) registry deltas)) (zip_all (with_delta g) registry deltas) deltas
all-may_undo g registry deltas fits =
    let n = length (zip_all (with_delta g) registry deltas) in
    subst (λ l. EachMayUndo g n l deltas) (zip_until-all (with_delta g) n registry deltas (omega (arith, length-zip_all (with_delta g) registry deltas))) (until-may_undo g n registry deltas fits)

all-undo : (g : ℕ) (registry : List RegistryEntry) (deltas : List (Option Delta)) → EachFits g registry deltas → zip_all (undo g) (zip_all (with_delta g) registry deltas) deltas ≡ registry
all-undo g registry deltas fits =
    let n = length registry in
    sym (zip_until-all (undo g) n (zip_all (with_delta g) registry deltas) deltas (omega (arith, length-zip_all (with_delta g) registry deltas)))
    ∙ ap (λ l. zip_until (undo g) n l deltas) (sym (zip_until-all (with_delta g) n registry deltas (omega arith)))
    ∙ zip_until-undo (with_delta g) (undo g) n registry deltas (λ k s d h i. fits-undo g s d (fits k s d h i))

-- the delta of a row is the delta of the pair that the row contributes
pub delta-given : (size i : ℕ) (o : ChangeBySpec) (s : RegistryEntry) (p : Pair) → change_of size i o s ≡ Some p → row_delta size i o s ≡ delta_in (i / size) s p
delta-given size i o None p h = cc
delta-given size i o (Some a) p h = ap (option_map (delta_of (i / size) a.accumulator)) h

pub delta-none : (size i : ℕ) (o : ChangeBySpec) (s : RegistryEntry) → change_of size i o s ≡ None → row_delta size i o s ≡ None
delta-none size i o None h = refl
delta-none size i o (Some a) h = ap (option_map (delta_of (i / size) a.accumulator)) h

-- without a delta an entry is unchanged
pub added-none : (g : ℕ) (s : RegistryEntry) → with_delta g s None ≡ s
added-none g None = refl
added-none g (Some a) = refl

-- the delta of a pair fits the accumulator
pub pair-fits : (g : ℕ) (k : Accumulator) (p : Pair) → AccumulatorFolds k → AccumulatorIsReserved g k → AccumulatorFits g k (delta_of g k p)
pair-fits g (accumulator.Totals live) p f r = f
pair-fits g (accumulator.Extrema live) p f r = (r, refl)

-- the delta of a place fits the accumulator, if totals are few and extrema are reserved
delta-fits : (g : ℕ) (a : Aggregate) (k : Accumulator) (o : Change) → AccumulatorFolds k → AccumulatorIsReserved g k → FitsEntry g (Some (record a { accumulator = k })) (option_map (delta_of g k) o)
delta-fits g a k None f r = tt
delta-fits g a (accumulator.Totals live) (Some p) f r = f
delta-fits g a (accumulator.Extrema live) (Some p) f r = (r, refl)

pub entry-fits : (size i : ℕ) (o : ChangeBySpec) (s : RegistryEntry) → Folds s → IsReserved (i / size) s → FitsEntry (i / size) s (row_delta size i o s)
entry-fits size i o None f r = tt
entry-fits size i o (Some a) f r = delta-fits (i / size) a a.accumulator (change_of size i o (Some a)) f r

pub each-fits : (size i : ℕ) (o : ChangeBySpec) (registry : List RegistryEntry) → EachFolds registry → AreReserved (i / size) registry → EachFits (i / size) registry (map (row_delta size i o) registry)
each-fits size i o [] f r k s c here there = cc
each-fits size i o (t ∷ registry) f r zero s c here there =
    let a : t ≡ s = cc in
    let b : row_delta size i o t ≡ c = cc in
    subst (λ u. FitsEntry (i / size) u c) a (subst (FitsEntry (i / size) t) b (entry-fits size i o t (f 0 t refl) r.0))
each-fits size i o (t ∷ registry) f r (suc k) s c here there = each-fits size i o registry (λ j. f (suc j)) r.1 k s c here there

-- whether the first n entries may be undone depends only on the first n deltas
may_undo-alike : (g n : ℕ) (registry : List RegistryEntry) (deltas more : List (Option Delta)) → take n more ≡ take n deltas → EachMayUndo g n registry deltas → EachMayUndo g n registry more
may_undo-alike g n registry deltas more e h k s c l here there = h k s c l here (sym (get-take n k deltas l) ∙ ap (λ (cs : List (Option Delta)). slice_get cs k) (sym e) ∙ get-take n k more l ∙ there)

-- deltas are applied one after another: the list has the deltas of the first n entries
module _ (size i : ℕ) (o : ChangeBySpec) (registry : List RegistryEntry) (folds : EachFolds registry) (reserved : AreReserved (i / size) registry) (n : ℕ) (within : n < length registry) (deltas : List (Option Delta)) (is : deltas ≡ map (row_delta size i o) (take n registry)) where
  abbrev all : List (Option Delta)
  all = map (row_delta size i o) registry

  abbrev mid : List RegistryEntry
  mid = zip_until (with_delta (i / size)) n registry all

  pub next-many : length deltas ≡ n
  next-many = ap length is ∙ length-map (take n registry) (row_delta size i o) ∙ length-take-le n registry (omega arith)

  alike : take n deltas ≡ take n all
  alike =
      let many = next-many in
      take_all n deltas (omega arith) ∙ is ∙ sym (take-map (row_delta size i o) n registry)

  pub next-may_undo : EachMayUndo (i / size) n mid deltas
  next-may_undo = may_undo-alike (i / size) n mid all deltas alike (until-may_undo (i / size) n registry all (each-fits size i o registry folds reserved))

  pub next-undone : zip_until (undo (i / size)) n mid deltas ≡ registry
  next-undone =
      sym (zip_until-take (undo (i / size)) n mid deltas)
      ∙ ap (zip_until (undo (i / size)) n mid) alike
      ∙ zip_until-take (undo (i / size)) n mid all
      ∙ zip_until-undo (with_delta (i / size)) (undo (i / size)) n registry all (λ k s d h j. fits-undo (i / size) s d (each-fits size i o registry folds reserved k s d h j))

-- the deltas of a place can all be undone, and then all aggregates are the same as before
module _ (size i : ℕ) (o : ChangeBySpec) (registry mid : List RegistryEntry) (deltas : List (Option Delta)) (is : deltas ≡ map (row_delta size i o) registry) (applied : mid ≡ zip_all (with_delta (i / size)) registry deltas) (folds : EachFolds registry) (reserved : AreReserved (i / size) registry) where
  deltas-fit : EachFits (i / size) registry deltas
  deltas-fit = subst (EachFits (i / size) registry) (sym is) (each-fits size i o registry folds reserved)

  pub applied-may_undo : EachMayUndo (i / size) (length mid) mid deltas
  applied-may_undo = subst (λ l. EachMayUndo (i / size) (length l) l deltas) (sym applied) (all-may_undo (i / size) registry deltas deltas-fit)

  pub applied-undone : zip_all (undo (i / size)) mid deltas ≡ registry
  applied-undone = ap (λ l. zip_all (undo (i / size)) l deltas) applied ∙ all-undo (i / size) registry deltas deltas-fit
