-- The aggregate with a number, as the table shows it.
use Rattle.std.proofs.Common.{◌≡◌, ℕ, zero, suc, ◌+◌, ◌-◌, ◌<◌, ◌≤◌, List, [], ◌∷◌, ◌++◌, length, map, refl, ap, ◌∙◌, subst, arith, Option, None, Some, slice_get, replicate}
use Rattle.std.specs.Prelude.{IsSome, IfNone}
use Rattle.far_types.specs.Table.{Place, Registered}
use Rattle.far_aggregates.specs.Accumulators.{RegistryEntry, registered_in, registered_of, KeepsEntry, Keeps}
use Rattle.far_aggregates.specs.Aggregates.{flattened, free_from, aggregate_in, is_pending_in}
use Rattle.far_aggregates.specs.Scans.{has_pending}

abbrev no_aggregate : Option Registered
no_aggregate = None

none_behind : (n a : ℕ) → flattened (slice_get (replicate n no_aggregate) a) ≡ None
none_behind zero a = refl
none_behind (suc n) zero = refl
none_behind (suc n) (suc a) = none_behind n a

-- the aggregate with a number is the aggregate of its registry entry
pub entry-at : (registry : List RegistryEntry) (a : ℕ) → aggregate_in registry a ≡ registered_in (flattened (slice_get registry a))
entry-at registry a = on registry (32 - length registry) a where
  on : (ss : List RegistryEntry) (n k : ℕ) → flattened (slice_get (map registered_in ss ++ replicate n None) k) ≡ registered_in (flattened (slice_get ss k))
  on [] n k = none_behind n k
  on (None ∷ ss) n zero = refl
  on (Some v ∷ ss) n zero = refl
  on (s ∷ ss) n (suc k) = on ss n k

left-in : (s : RegistryEntry) (g : ℕ) → is_pending_in (registered_in s) g ≡ has_pending g s
left-in None g = refl
left-in (Some a) g = refl

pub left-at : (registry : List RegistryEntry) (a g : ℕ) → is_pending_in (aggregate_in registry a) g ≡ has_pending g (flattened (slice_get registry a))
left-at registry a g = ap (λ o. is_pending_in o g) (entry-at registry a) ∙ left-in (flattened (slice_get registry a)) g

pub keeps-at : (size : ℕ) (places : List Place) (registry : List RegistryEntry) (a : ℕ) → Keeps size places registry → KeepsEntry size places (flattened (slice_get registry a))
keeps-at size places [] a h = tt
keeps-at size places (None ∷ registry) zero h = tt
keeps-at size places (Some v ∷ registry) zero h = h.0
keeps-at size places (s ∷ registry) (suc a) h = keeps-at size places registry a h.1

below : (registry : List RegistryEntry) (a : ℕ) → IsSome (registered_in (flattened (slice_get registry a))) → a < length registry
below [] a h = cc
below (s ∷ registry) zero h = omega arith
below (s ∷ registry) (suc a) h = let l = below registry a h in omega arith

-- the number of an aggregate is an index of the registry
pub there-below : (registry : List RegistryEntry) (a : ℕ) → IsSome (aggregate_in registry a) → a < length registry
there-below registry a h = below registry a (subst IsSome (entry-at registry a) h)

free-among : (registry : List RegistryEntry) (n i a : ℕ) → free_from i (map registered_in registry ++ replicate n None) ≡ Some a → (a ≤ i + length registry) × (a < i + (length registry + n))
free-among [] zero i a h = cc
free-among [] (suc n) i a h = let e : i ≡ a = cc in (omega arith, omega arith)
free-among (None ∷ registry) n i a h = let e : i ≡ a = cc in (omega arith, omega arith)
free-among (Some v ∷ registry) n i a h = let rest = free-among registry n (i + 1) a h in (omega arith, omega arith)

-- the lowest free number is the index of a free registry entry, or the length of the registry
pub free-within : (registry : List RegistryEntry) (a : ℕ) → free_from 0 (registered_of registry) ≡ Some a → a ≤ length registry
free-within registry a h = let l = free-among registry (32 - length registry) 0 a h in omega arith

pub free-below : (registry : List RegistryEntry) (a : ℕ) → length registry ≤ 32 → free_from 0 (registered_of registry) ≡ Some a → a < 32
free-below registry a few h = let l = free-among registry (32 - length registry) 0 a h in omega arith

pub if_none : {A : Type 0} (P Q : Type 0) (o : Option A) → (P → Q) → IfNone o P → IfNone o Q
if_none P Q None f h = f h
if_none P Q (Some a) f h = h
