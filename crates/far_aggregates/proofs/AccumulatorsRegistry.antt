-- Aggregates under their numbers, as the table shows them.
use Rattle.std.proofs.Common.{inl, inr, take, ◌≡◌, ℕ, zero, suc, ◌+◌, ◌-◌, ◌*◌, ◌/◌, ◌<◌, ◌≤◌, Bool, true, false, cond, List, [], ◌∷◌, ◌++◌, length, map, refl, sym, ap, ◌∙◌, subst, arith, Option, None, Some, slice_get, slice_set, slice_index_or, replicate}
use Rattle.std.specs.Prelude.{◌⊎◌}
use Rattle.std.specs.List.{AllByRecursion, filter_map}
use Rattle.std.specs.FinMap as fin
use Rattle.std.proofs.Math.Nat.{div-mul-le_self, lt-div-mul-add, mul-le-mul_right}
use Rattle.std.proofs.lemmas.List.{get_or-replicate, length-map, length-set, drop_all, take_all}
use Rattle.std.proofs.lemmas.List.Sums.{sum_by-cons}
use Rattle.std.proofs.lemmas.Nat.{le-div}
use Rattle.far_types.specs.declared.spec.Spec.{Spec}
use Rattle.far_types.specs.Answers.{totals, extrema}
use Rattle.far_types.specs.Table.{Place, Registered, groups, is_pending, left, in_group, place_pair}
use Rattle.far_aggregates.specs.declared.aggregate.Accumulator.{Accumulator}
use Rattle.far_aggregates.specs.declared.aggregate.Accumulator.TheVariants as accumulator
use Rattle.far_aggregates.specs.Accumulators.{RegistryEntry, registered_in, registered_of, group_pairs, scanned_group, fold_of, KeepsNothing, KeepsEntry}
use Rattle.far_aggregates.proofs.AccumulatorsTotals.{scanned-none}
use Rattle.far_aggregates.proofs.ListLaws.{map-set_like}

-- all row groups that hold a place are pending
abbrev all_pending : ℕ → List Place → List Bool
all_pending size places = replicate (groups size (length places)) true

set-before : {X : Type 0} (xs ys : List X) (a : ℕ) (y : X) → a < length xs → slice_set (xs ++ ys) a y ≡ slice_set xs a y ++ ys
set-before [] ys a y h = absurd (omega arith)
set-before (x ∷ xs) ys zero y h = refl
set-before (x ∷ xs) ys (suc a) y h = ap (λ l. x ∷ l) (set-before xs ys a y (omega arith))

set-seam : {X : Type 0} (xs ys : List X) (x y : X) → slice_set (xs ++ x ∷ ys) (length xs) y ≡ xs ++ y ∷ ys
set-seam [] ys x y = refl
set-seam (z ∷ xs) ys x y = ap (λ l. z ∷ l) (set-seam xs ys x y)

map-set_at : (registry : List RegistryEntry) (a : ℕ) (s : RegistryEntry) → map registered_in (slice_set registry a s) ≡ slice_set (map registered_in registry) a (registered_in s)
map-set_at [] a s = refl
map-set_at (t ∷ registry) zero s = refl
map-set_at (t ∷ registry) (suc a) s = ap (λ l. registered_in t ∷ l) (map-set_at registry a s)

-- a registry entry is replaced
pub registered-set : (registry : List RegistryEntry) (a : ℕ) (s : RegistryEntry) → a < length registry → registered_of (slice_set registry a s) ≡ slice_set (registered_of registry) a (registered_in s)
registered-set registry a s h =
    let r : List (Option Registered) = replicate (32 - length registry) None in
    ap (λ n. map registered_in (slice_set registry a s) ++ replicate (32 - n) None) (length-set registry a s)
    ∙ ap (λ l. l ++ r) (map-set_at registry a s)
    ∙ sym (set-before (map registered_in registry) r a (registered_in s) (let m = length-map registry registered_in in omega arith))

-- a registry entry is replaced by an entry that the table shows alike
pub registered-like : (registry : List RegistryEntry) (a : ℕ) (old new : RegistryEntry) → slice_get registry a ≡ Some old → registered_in new ≡ registered_in old → registered_of (slice_set registry a new) ≡ registered_of registry
registered-like registry a old new here alike =
    ap (λ n. map registered_in (slice_set registry a new) ++ replicate (32 - n) None) (length-set registry a new)
    ∙ ap (λ l. l ++ replicate (32 - length registry) None) (map-set_like registered_in registry a old new here alike)

map-last : (registry : List RegistryEntry) (s : RegistryEntry) → map registered_in (registry ++ s ∷ []) ≡ map registered_in registry ++ registered_in s ∷ []
map-last [] s = refl
map-last (t ∷ registry) s = ap (λ l. registered_in t ∷ l) (map-last registry s)

append-last : {X : Type 0} (xs ys : List X) (x : X) → (xs ++ x ∷ []) ++ ys ≡ xs ++ x ∷ ys
append-last [] ys x = refl
append-last (z ∷ xs) ys x = ap (λ l. z ∷ l) (append-last xs ys x)

length-last : (registry : List RegistryEntry) (s : RegistryEntry) → length (registry ++ s ∷ []) ≡ suc (length registry)
length-last [] s = refl
length-last (t ∷ registry) s = ap suc (length-last registry s)

-- one more registry entry takes a number that was never used
pub registered-push : (registry : List RegistryEntry) (s : RegistryEntry) → length registry < 32 → registered_of (registry ++ s ∷ []) ≡ slice_set (registered_of registry) (length registry) (registered_in s)
registered-push registry s h =
    let n = 32 - suc (length registry) in
    let rest : List (Option Registered) = replicate n None in
    let count : 32 - length registry ≡ suc n = omega arith in
    let at : length (map registered_in registry) ≡ length registry = length-map registry registered_in in
    ap (λ m. map registered_in (registry ++ s ∷ []) ++ replicate (32 - m) None) (length-last registry s)
    ∙ ap (λ l. l ++ rest) (map-last registry s)
    ∙ append-last (map registered_in registry) rest (registered_in s)
    ∙ sym (ap (λ m. slice_set (map registered_in registry ++ replicate m None) (length registry) (registered_in s)) count
    ∙ ap (λ m. slice_set (map registered_in registry ++ None ∷ rest) m (registered_in s)) (sym at)
    ∙ set-seam (map registered_in registry) rest None (registered_in s))

pub all-last : {X : Type 0} (P : X → Type 0) (xs : List X) (x : X) → AllByRecursion P xs → P x → AllByRecursion P (xs ++ x ∷ [])
all-last P [] x h k = (k, tt)
all-last P (y ∷ xs) x h k = (h.0, all-last P xs x h.1 k)

pub count-replicate : (n : ℕ) → left (replicate n true) ≡ n
count-replicate zero = refl
count-replicate (suc n) = sum_by-cons (λ (b : Bool). cond b 1 0) true (replicate n true) ∙ (let h = count-replicate n in omega arith)

group_below : (k size places : ℕ) → 0 < size → k < places → k / size < groups size places
group_below k size places g l =
    let a = div-mul-le_self k size in
    let b : (k / size + 1) * size ≤ places + size - 1 = omega arith in
    let c = le-div (k / size + 1) (places + size - 1) size g b in
    omega arith

all_pending-there : (size : ℕ) (ps : List Place) (k : ℕ) → 0 < size → k < length ps → is_pending (all_pending size ps) (k / size) ≡ true
all_pending-there size ps k g l = get_or-replicate (groups size (length ps)) (k / size) true false (group_below k size (length ps) g l)

-- past the row groups there are no places
none_there : (size g : ℕ) (ps : List Place) → 0 < size → groups size (length ps) ≤ g → in_group size g ps ≡ []
none_there size g ps pos h =
    let n = length ps + size - 1 in
    let a : n < n / size * size + size = lt-div-mul-add pos in
    let b : n / size * size ≤ g * size = mul-le-mul_right size h in
    ap (take size) (drop_all (g * size) ps (omega arith)) ∙ take_all size [] (omega arith)

above_or_not : (a b : ℕ) → (a < b) ⊎ (b ≤ a)
above_or_not zero zero = inr (omega arith)
above_or_not zero (suc b) = inl (omega arith)
above_or_not (suc a) zero = inr (omega arith)
above_or_not (suc a) (suc b) = elim (above_or_not a b) as (λ o. (suc a < suc b) ⊎ (suc b ≤ suc a)) [ inl l ↦ inl (omega arith) | inr l ↦ inr (omega arith) ]

nothing_scanned : (spec : Spec) (size : ℕ) (ps : List Place) (g : ℕ) → 0 < size → fin.empty ≡ scanned_group spec size (all_pending size ps) ps g
nothing_scanned spec size ps g pos = elim (above_or_not g (groups size (length ps))) as (λ o. fin.empty ≡ scanned_group spec size (all_pending size ps) ps g) [
  | inl l ↦ sym (ap (λ b. cond b fin.empty (extrema (group_pairs spec size g ps))) (get_or-replicate (groups size (length ps)) g true false l))
  | inr l ↦ sym (elim (is_pending (all_pending size ps) g) as (λ b. cond b fin.empty (extrema (group_pairs spec size g ps)) ≡ fin.empty) [
    | true ↦ refl
    | false ↦ ap (λ l. extrema (filter_map (place_pair spec) l)) (none_there size g ps pos l)
  ])
]

-- an aggregate is up to date when it is registered
accumulator-new : (size : ℕ) (ps : List Place) (spec : Spec) (registration : ℕ) (k : Accumulator) → 0 < size → fold_of k ≡ spec.fold → KeepsNothing (groups size (length ps)) k
    → KeepsEntry size ps (Some (record { spec = spec; registration = registration; pending = all_pending size ps; accumulator = k }))
accumulator-new size ps spec registration (accumulator.Totals live) g f h = (
  f,
  (
    h.1 ∙ sym (ap totals (scanned-none spec size (all_pending size ps) 0 ps (λ k l. all_pending-there size ps k g (omega arith)))),
    h.0 ∙ sym (count-replicate (groups size (length ps))),
  ),
)
accumulator-new size ps spec registration (accumulator.Extrema live) g f h = (
  f,
  ((λ i. ap (λ l. slice_index_or l i fin.empty) h.1 ∙ nothing_scanned spec size ps i g), h.0 ∙ sym (count-replicate (groups size (length ps)))),
)

pub new-keeps : (size : ℕ) (ps : List Place) (spec : Spec) (registration count : ℕ) (pending : List Bool) (k : Accumulator) → 0 < size → count ≡ groups size (length ps) → fold_of k ≡ spec.fold → pending ≡ replicate count true → KeepsNothing count k
    → KeepsEntry size ps (Some (record { spec = spec; registration = registration; pending = pending; accumulator = k }))
new-keeps size ps spec registration count pending k g n f flags h =
    subst (λ u. KeepsEntry size ps (Some (record { spec = spec; registration = registration; pending = u; accumulator = k }))) (sym (flags ∙ ap (λ m. replicate m true) n))
    (accumulator-new size ps spec registration k g f (subst (λ m. KeepsNothing m k) n h))
