-- All aggregates stay up to date under an edit of the places.
use Rattle.std.proofs.Common.{◌≡◌, ℕ, zero, suc, ◌/◌, ◌<◌, ◌≤◌, ◌^◌, Bool, true, false, List, [], ◌∷◌, ◌++◌, length, map, refl, sym, ap, ◌∙◌, subst, arith, Option, None, Some, slice_get, cond}
use Rattle.std.specs.Prelude.{option_map}
use Rattle.far_types.specs.declared.spec.Spec.{Spec}
use Rattle.far_types.specs.Cells.{RowFits}
use Rattle.far_types.specs.Edits.{change_at, after_remove}
use Rattle.far_types.specs.Table.{Place, in_group, is_pending}
use Rattle.far_aggregates.specs.declared.aggregate.Accumulator.{Accumulator}
use Rattle.far_aggregates.specs.declared.aggregate.Accumulator.TheVariants as accumulator
use Rattle.far_aggregates.specs.declared.deltas.Delta.{Delta}
use Rattle.far_aggregates.specs.Accumulators.{RegistryEntry, Change, PlacesFit, scanned_pairs, KeepsEntry, Keeps, registered_in}
use Rattle.far_aggregates.specs.Pairs.{place_gives, change_of, Folds, EachFolds}
use Rattle.far_aggregates.specs.Deltas.{delta_of, row_delta, with_delta, undo}
use Rattle.far_aggregates.specs.Retract.{after_retract, MayRetract, EachMayRetract}
use Rattle.far_aggregates.specs.Reserve.{AreReserved}
use Rattle.far_aggregates.specs.Until.{zip_all}
use Rattle.far_aggregates.proofs.AccumulatorsTotals.{scanned-fits, length-scanned}
use Rattle.far_aggregates.proofs.TableGroups.{get-changed}
use Rattle.far_aggregates.proofs.AccumulatorsEntries.{entry, entry-insert, entry-set, entry-may_retract}
use Rattle.far_aggregates.proofs.ListLaws.{all-get, map-zip_all}

-- totals are the totals of few pairs

accumulator-folds : (size : ℕ) (ps : List Place) (spec : Spec) (registration : ℕ) (pending : List Bool) (k : Accumulator) → PlacesFit ps → length ps ≤ 2 ^ 24 → KeepsEntry size ps (entry spec registration pending k) → Folds (entry spec registration pending k)
accumulator-folds size ps spec registration pending (accumulator.Totals live) fit few h =
    (scanned_pairs spec size pending 0 ps, h.1.0, scanned-fits spec size pending 0 ps fit, (let b = length-scanned spec size pending 0 ps in omega arith))
accumulator-folds size ps spec registration pending (accumulator.Extrema live) fit few h = tt

entry-folds : (size : ℕ) (ps : List Place) (s : RegistryEntry) → PlacesFit ps → length ps ≤ 2 ^ 24 → KeepsEntry size ps s → Folds s
entry-folds size ps None fit few h = tt
entry-folds size ps (Some a) fit few h = accumulator-folds size ps a.spec a.registration a.pending a.accumulator fit few h

pub each-folds : (size : ℕ) (ps : List Place) (registry : List RegistryEntry) → PlacesFit ps → length ps ≤ 2 ^ 24 → Keeps size ps registry → EachFolds registry
each-folds size ps [] fit few h k s e = cc
each-folds size ps (t ∷ registry) fit few h zero s e = let i : t ≡ s = cc in subst Folds i (entry-folds size ps t fit few h.0)
each-folds size ps (t ∷ registry) fit few h (suc k) s e = each-folds size ps registry fit few h.1 k s e

-- an edit keeps the part of a registry entry that the table shows

added-registered : (g : ℕ) (s : RegistryEntry) (c : Option Delta) → registered_in (with_delta g s c) ≡ registered_in s
added-registered g None c = refl
added-registered g (Some a) None = refl
added-registered g (Some a) (Some c) = refl

undo-registered : (g : ℕ) (s : RegistryEntry) (c : Option Delta) → registered_in (undo g s c) ≡ registered_in s
undo-registered g None c = refl
undo-registered g (Some a) None = refl
undo-registered g (Some a) (Some c) = refl

retracted-registered : (g : ℕ) (here : List Place) (s : RegistryEntry) (c : Change) → registered_in (after_retract g here s c) ≡ registered_in s
retracted-registered g here None c = refl
retracted-registered g here (Some a) None = refl
retracted-registered g here (Some a) (Some p) = refl

pub all-added_registered : (g : ℕ) (registry : List RegistryEntry) (cs : List (Option Delta)) → map registered_in (zip_all (with_delta g) registry cs) ≡ map registered_in registry
all-added_registered g registry cs = map-zip_all (with_delta g) registered_in (added-registered g) registry cs

pub all-undo_registered : (g : ℕ) (registry : List RegistryEntry) (cs : List (Option Delta)) → map registered_in (zip_all (undo g) registry cs) ≡ map registered_in registry
all-undo_registered g registry cs = map-zip_all (undo g) registered_in (undo-registered g) registry cs

pub all-retracted_registered : (g : ℕ) (here : List Place) (registry : List RegistryEntry) (cs : List Change) → map registered_in (zip_all (after_retract g here) registry cs) ≡ map registered_in registry
all-retracted_registered g here registry cs = map-zip_all (after_retract g here) registered_in (retracted-registered g here) registry cs

-- a dead place contributes no pair, so it has no delta

delta_none : (g : ℕ) (k : Accumulator) (b : Bool) → let none : Change = None in option_map (delta_of g k) (cond b none none) ≡ None
delta_none g k true = refl
delta_none g k false = refl

pub removed-adds : (size i : ℕ) (x : Place) (s : RegistryEntry) → with_delta (i / size) s (row_delta size i (place_gives (after_remove x)) s) ≡ s
removed-adds size i x None = refl
removed-adds size i x (Some a) = ap (with_delta (i / size) (Some a)) (delta_none (i / size) a.accumulator (is_pending a.pending (i / size)))

pub removed-adds_all : (size i : ℕ) (x : Place) (registry : List RegistryEntry) → zip_all (with_delta (i / size)) registry (map (row_delta size i (place_gives (after_remove x))) registry) ≡ registry
removed-adds_all size i x [] = refl
removed-adds_all size i x (s ∷ registry) = λ k. removed-adds size i x s k ∷ removed-adds_all size i x registry k

-- all entries of the registry stay up to date

Keeps-insert : (size : ℕ) (ps : List Place) (p : Place) (registry : List RegistryEntry) → 0 < size → Keeps size ps registry → AreReserved (length ps / size) registry
    → Keeps size (ps ++ p ∷ []) (zip_all (with_delta (length ps / size)) registry (map (row_delta size (length ps) (place_gives p)) registry))
Keeps-insert size ps p [] positive h reserved = tt
Keeps-insert size ps p (s ∷ registry) positive h reserved = (entry-insert size ps p s positive h.0 reserved.0, Keeps-insert size ps p registry positive h.1 reserved.1)

module _ (size : ℕ) (f : Place → Place) (ps : List Place) (i : ℕ) (x y : Place) (positive : 0 < size) (here : slice_get ps i ≡ Some x) (there : slice_get (change_at f i ps) i ≡ Some y) where
  Keeps-set : (registry : List RegistryEntry) → Keeps size ps registry → AreReserved (i / size) registry
      → Keeps size (change_at f i ps) (zip_all (after_retract (i / size) (in_group size (i / size) (change_at f i ps))) (zip_all (with_delta (i / size)) registry (map (row_delta size i (place_gives y)) registry)) (map (change_of size i (place_gives x)) registry))
  Keeps-set [] h reserved = tt
  Keeps-set (s ∷ registry) h reserved = (entry-set size f ps i x y positive here there s h.0 reserved.0, Keeps-set registry h.1 reserved.1)

  each-may_retract : PlacesFit ps → RowFits y.cells → (registry : List RegistryEntry) → Keeps size ps registry → AreReserved (i / size) registry
      → EachMayRetract (i / size) (in_group size (i / size) (change_at f i ps)) (zip_all (with_delta (i / size)) registry (map (row_delta size i (place_gives y)) registry)) (map (change_of size i (place_gives x)) registry)
  each-may_retract fit row [] h reserved k s c p q = cc
  each-may_retract fit row (t ∷ registry) h reserved zero s c p q =
      let a : with_delta (i / size) t (row_delta size i (place_gives y) t) ≡ s = cc in
      let b : change_of size i (place_gives x) t ≡ c = cc in
      subst (λ u. MayRetract (i / size) (in_group size (i / size) (change_at f i ps)) u c) a
      (subst (MayRetract (i / size) (in_group size (i / size) (change_at f i ps)) (with_delta (i / size) t (row_delta size i (place_gives y) t))) b (entry-may_retract size f ps i x y positive here there fit row t h.0 reserved.0))
  each-may_retract fit row (t ∷ registry) h reserved (suc k) s c p q = each-may_retract fit row registry h.1 reserved.1 k s c p q

-- the aggregates are up to date after an insert
pub after_insert : (size place : ℕ) (ps new : List Place) (p : Place) (registry after : List RegistryEntry) → place ≡ length ps → new ≡ ps ++ p ∷ [] → 0 < size → Keeps size ps registry → AreReserved (place / size) registry
    → after ≡ zip_all (with_delta (place / size)) registry (map (row_delta size place (place_gives p)) registry)
    → Keeps size new after
after_insert size place ps new p registry after at is positive holds reserved h =
    subst (Keeps size new) (sym (h ∙ ap (λ n. zip_all (with_delta (n / size)) registry (map (row_delta size n (place_gives p)) registry)) at))
    (subst (λ l. Keeps size l (zip_all (with_delta (length ps / size)) registry (map (row_delta size (length ps) (place_gives p)) registry))) (sym is)
    (Keeps-insert size ps p registry positive holds (subst (λ n. AreReserved (n / size) registry) at reserved)))

-- a place x becomes y: the deltas, the pairs to retract, and the aggregates after both
module _ (size : ℕ) (f : Place → Place) (ps new : List Place) (i : ℕ) (x y : Place) (registry mid : List RegistryEntry) (to_retract : List Change) (positive : 0 < size) (is : new ≡ change_at f i ps)
    (here : Some x ≡ slice_get ps i) (there : Some y ≡ option_map f (slice_get ps i))
    (went : to_retract ≡ map (change_of size i (place_gives x)) registry) (applied : mid ≡ zip_all (with_delta (i / size)) registry (map (row_delta size i (place_gives y)) registry))
    (holds : Keeps size ps registry) (reserved : AreReserved (i / size) registry) where
  becomes : slice_get (change_at f i ps) i ≡ Some y
  becomes = get-changed f i ps ∙ sym there

  pub set_may_retract : PlacesFit ps → PlacesFit new → EachMayRetract (i / size) (in_group size (i / size) new) mid to_retract
  set_may_retract fit new_fit =
      let row = all-get (λ (p : Place). RowFits p.cells) new i y new_fit (ap (λ l. slice_get l i) is ∙ becomes) in
      rw (is, applied, went) (each-may_retract size f ps i x y positive (sym here) becomes fit row registry holds reserved)

  pub after_set : (after : List RegistryEntry) → after ≡ zip_all (after_retract (i / size) (in_group size (i / size) new)) mid to_retract → Keeps size new after
  after_set after h = rw (h, applied, went, is) (Keeps-set size f ps i x y positive (sym here) becomes registry holds reserved)
